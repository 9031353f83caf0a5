-- Which sides the caps make.
use Rattle.fairness.proofs.Common.{◌≡◌, ℕ, ◌+◌, Bool, true, false, cond, List, [], ◌∷◌, ◌++◌, Option, Some, None, map}
use Rattle.fairness.proofs.Common.{Contains, refl, sym, ap, ◌∙◌, subst, inl, inr, ◌⊎◌, and_from, and_parts}
use Rattle.fairness.proofs.Common.{map-append, filter, IsTotalOrder, Ordering, Flow, Side, Subject, sent_by}
use Rattle.fairness.proofs.Common.{received_by, sent_between, Ask, same_peer, same_subject, is_same, is_open, opened}
use Rattle.fairness.proofs.Common.{sides_after, asks_from, Caps, cap_of, AreOfPeers, limits, sides_under}
use Rattle.fairness.proofs.Common.{IsCappedSide, places_from, rules}
use Rattle.std.proofs.lemmas.Bool.{and_right}
use Rattle.std.proofs.lemmas.List.Elements.{filter_agree, filter-append}
use Rattle.fairness.specs.Fairness.UnderCaps.{answered_under, SidesAreOfTheCaps}
use Rattle.fairness.proofs.Sides.Subjects.{same_itself, same_symm, same_congr}
use Rattle.fairness.proofs.Lists.Members.{In, in_left, in_right, in_either, in_from_contains, contains_from_in}
use Rattle.fairness.proofs.Lists.Members.{none_passes, any_fails}
use Rattle.fairness.proofs.Sides.EqualSubjects.{same_peer_itself, one_cap, same_limits}

module _ {P : Type 0} (cmp : P → P → Ordering) (order : IsTotalOrder cmp) (caps : Caps P)
    (of : AreOfPeers cmp caps) where
  -- the ask was answered by the caps
  abbrev IsByCaps : Ask P → Type 0
  IsByCaps a = a.answer ≡ cap_of caps a.subject

  abbrev AllByCaps : List (Ask P) → Type 0
  AllByCaps asks = (a : Ask P) → In asks a → IsByCaps a

  -- the side that an ask among the later ones opens, where no earlier one is for it
  record IsOpenedBy (earlier later : List (Ask P)) (side : Side) (a : Ask P) : Type 0 where
    among : In later a
    answered : a.answer ≡ Some side.cap
    fresh : (b : Ask P) → In earlier b → is_same cmp a b ≡ false
    users : side.users ≡ map (λ b. b.place) (filter (is_same cmp a) later)

  -- nothing is open where no ask with a number was for it
  fresh_from : (earlier : List (Ask P)) (a : Ask P) (cap : ℕ) → AllByCaps earlier → IsByCaps a → a.answer ≡ Some cap
      → is_open cmp earlier a ≡ false → (b : Ask P) → In earlier b → is_same cmp a b ≡ false
  fresh_from earlier a cap all by has closed b among = search (rules, same_symm, one_cap, none_passes)

  open_from : (earlier : List (Ask P)) (a : Ask P) → ((b : Ask P) → In earlier b → is_same cmp a b ≡ false)
      → is_open cmp earlier a ≡ false
  open_from earlier a fresh = search (rules, any_fails, and_right, same_symm)

  one_more : (earlier : List (Ask P)) (x : Ask P) → AllByCaps earlier → IsByCaps x → AllByCaps (x ∷ earlier)
  one_more earlier x before by a (inl e) = subst IsByCaps e by
  one_more earlier x before by a (inr h) = before a h

  from_sides : (earlier later : List (Ask P)) (side : Side) → AllByCaps earlier → AllByCaps later
      → In (sides_after cmp earlier later) side → (a : Ask P) × IsOpenedBy earlier later side a
  from_sides earlier [] side before all h = absurd h
  from_sides earlier (x ∷ later) side before all h =
      by_part
      (in_either (cond (is_open cmp earlier x) [] (opened cmp x later x.answer)) (sides_after cmp (x ∷ earlier) later)
      side h) (λ g. from_sides (x ∷ earlier) later side (one_more earlier x before (all x (inl refl)))
      (λ a among. all a (inr among)) g)
    where
      by_head : (t : Bool) (answer : Option ℕ) → is_open cmp earlier x ≡ t → x.answer ≡ answer
          → In (cond t [] (opened cmp x later answer)) side → (a : Ask P) × IsOpenedBy earlier (x ∷ later) side a
      by_head true answer t is g = absurd g
      by_head false None t is g = absurd g
      by_head false (Some cap) t is (inr g) = absurd g
      by_head false (Some cap) t is (inl e) = (
        x,
        record {
          among = inl refl;
          answered = is ∙ ap (λ (s : Side). Some s.cap) e;
          fresh = fresh_from earlier x cap before (all x (inl refl)) is t;
          users = sym (ap (λ (s : Side). s.users) e) ∙ (rw (same_itself cmp order x.subject) refl);
        },
      )

      tail : (a : Ask P) → IsOpenedBy (x ∷ earlier) later side a → (a : Ask P) × IsOpenedBy earlier (x ∷ later) side a
      tail a o = (
        a,
        record {
          among = inr o.among;
          answered = o.answered;
          fresh = λ b among. o.fresh b (inr among);
          users = rw (o.fresh x (inl refl)) o.users;
        },
      )

      by_part : In (cond (is_open cmp earlier x) [] (opened cmp x later x.answer)) side
          ⊎ In (sides_after cmp (x ∷ earlier) later) side
          → (In (sides_after cmp (x ∷ earlier) later) side → (a : Ask P) × IsOpenedBy (x ∷ earlier) later side a)
          → (a : Ask P) × IsOpenedBy earlier (x ∷ later) side a
      by_part (inl g) ih = by_head (is_open cmp earlier x) x.answer refl refl g
      by_part (inr g) ih = let r : (a : Ask P) × IsOpenedBy (x ∷ earlier) later side a = ih g in tail r.0 r.1

  abbrev side_asked : List (Ask P) → Ask P → ℕ → Side
  side_asked asks a cap = record { cap = cap; users = map (λ b. b.place) (filter (is_same cmp a) asks) }

  to_sides : (earlier later : List (Ask P)) (a : Ask P) (cap : ℕ) → AllByCaps earlier → AllByCaps later → In later a
      → a.answer ≡ Some cap → ((b : Ask P) → In earlier b → is_same cmp a b ≡ false)
      → In (sides_after cmp earlier later) (side_asked later a cap)
  to_sides earlier [] a cap before all h has fresh = absurd h
  to_sides earlier (x ∷ later) a cap before all h has fresh =
      by_same (is_same cmp a x) refl h
      (λ g. to_sides (x ∷ earlier) later a cap (one_more earlier x before (all x (inl refl)))
      (λ b among. all b (inr among)) g has)
    where
      head : is_same cmp a x ≡ true
          → In (cond (is_open cmp earlier x) [] (opened cmp x later x.answer) ++ sides_after cmp (x ∷ earlier) later)
          (record {
            cap = cap;
            users = x.place ∷ map (λ b. b.place) (filter (is_same cmp a) later);
          })
      head e =
          let number = all x (inl refl) ∙ sym (one_cap cmp order caps of a.subject x.subject e) ∙ sym (all a h) ∙ has in
          let closed : is_open cmp earlier x ≡ false = search (rules, open_from, same_congr) in
          let agree : filter (is_same cmp a) later ≡ filter (is_same cmp x) later =
          search (rules, filter_agree, same_congr) in
          rw (closed, number, agree) (inl refl)

      by_same : (t : Bool) → is_same cmp a x ≡ t → In (x ∷ later) a
          → (In later a → ((b : Ask P) → In (x ∷ earlier) b → is_same cmp a b ≡ false)
          → In (sides_after cmp (x ∷ earlier) later) (side_asked later a cap))
          → In (sides_after cmp earlier (x ∷ later))
          (record {
            cap = cap;
            users = map (λ b. b.place) (cond t (x ∷ filter (is_same cmp a) later) (filter (is_same cmp a) later));
          })
      by_same true e g ih = head e
      by_same false e (inl same) ih =
          let on : is_same cmp a x ≡ true = search (rules, same_itself) in
          cc
      by_same false e (inr g) ih =
          in_right (cond (is_open cmp earlier x) [] (opened cmp x later x.answer)) (sides_after cmp (x ∷ earlier) later)
          (side_asked later a cap) (ih g (λ b.
          elim [ inl same ↦ subst (λ (c : Ask P). is_same cmp a c ≡ false) same e | inr among ↦ fresh b among ]))

  -- ---- the asks of flows

  abbrev asks : ℕ → List (Flow P) → List (Ask P)
  asks place flows = asks_from place (map (answered_under caps) flows)

  -- the three asks of a flow
  abbrev sends : ℕ → Flow P → Ask P
  sends place f = record { place = place; subject = sent_by f.origin; answer = caps.egress f.origin }

  abbrev receives : ℕ → Flow P → Bool → Ask P
  receives place f delivered =
      record {
        place = place;
        subject = received_by f.recipient;
        answer = cond delivered (caps.ingress f.recipient) None;
      }

  abbrev links : ℕ → Flow P → Ask P
  links place f =
      record { place = place; subject = sent_between f.origin f.recipient; answer = caps.link f.origin f.recipient }

  abbrev asks_if : ℕ → Flow P → Bool → List (Ask P)
  asks_if place f delivered =
      (sends place f ∷ []) ++ cond delivered (receives place f delivered ∷ []) [] ++ (links place f ∷ [])

  one_by_caps : (place : ℕ) (f : Flow P) (delivered : Bool) → AllByCaps (asks_if place f delivered)
  one_by_caps place f true a (inl e) = subst IsByCaps e refl
  one_by_caps place f true a (inr (inl e)) = subst IsByCaps e refl
  one_by_caps place f true a (inr (inr (inl e))) = subst IsByCaps e refl
  one_by_caps place f true a (inr (inr (inr h))) = absurd h
  one_by_caps place f false a (inl e) = subst IsByCaps e refl
  one_by_caps place f false a (inr (inl e)) = subst IsByCaps e refl
  one_by_caps place f false a (inr (inr h)) = absurd h

  all_by_caps : (place : ℕ) (flows : List (Flow P)) → AllByCaps (asks place flows)
  all_by_caps place [] a h = absurd h
  all_by_caps place (f ∷ flows) a h = elim (in_either (asks_if place f f.delivered) (asks (place + 1) flows) a h) [
    | inl g ↦ one_by_caps place f f.delivered a g
    | inr g ↦ all_by_caps (place + 1) flows a g
  ]

  one_kept : (t : Bool) (b : Ask P) → map (λ (c : Ask P). c.place) (cond t (b ∷ []) []) ≡ cond t (b.place ∷ []) []
  one_kept true b = refl
  one_kept false b = refl

  -- the places of the asks of a flow that are for a subject
  abbrev places_for : Subject P → ℕ → Flow P → Bool → List ℕ
  places_for s place f delivered =
      map (λ b. b.place) (filter (λ b. same_subject cmp s b.subject) (asks_if place f delivered))

  -- of the three asks of a flow at most one is for a subject
  one_place : (place : ℕ) (f : Flow P) (s : Subject P)
      → places_for s place f f.delivered ≡ cond (limits cmp s f) (place ∷ []) []
  one_place place f (sent_by p) = search (rules, one_kept)
  one_place place f (received_by p) = search (rules, one_kept)
  one_place place f (sent_between p q) = search (rules, one_kept)

  joined : (place : ℕ) (b : Bool) (rest : List ℕ) → cond b (place ∷ []) [] ++ rest ≡ cond b (place ∷ rest) rest
  joined place true rest = refl
  joined place false rest = refl

  -- who asks for a subject is a flow that its side limits
  places_asked : (place : ℕ) (flows : List (Flow P)) (a : Ask P)
      → map (λ b. b.place) (filter (is_same cmp a) (asks place flows)) ≡ places_from place (limits cmp a.subject) flows
  places_asked place [] a = refl
  places_asked place (f ∷ flows) a =
      search (rules, filter-append, map-append, one_place, joined, places_asked (place + 1) flows a)

  one_limits : (place : ℕ) (f : Flow P) (d : Bool) → f.delivered ≡ d → (a : Ask P) → In (asks_if place f d) a
      → limits cmp a.subject f ≡ true
  one_limits place f true is a (inl e) = search (rules, same_peer_itself)
  one_limits place f true is a (inr (inl e)) = search (rules, and_from, same_peer_itself)
  one_limits place f true is a (inr (inr (inl e))) = search (rules, same_itself)
  one_limits place f true is a (inr (inr (inr h))) = absurd h
  one_limits place f false is a (inl e) = search (rules, same_peer_itself)
  one_limits place f false is a (inr (inl e)) = search (rules, same_itself)
  one_limits place f false is a (inr (inr h)) = absurd h

  -- an ask comes from a flow that its side would limit
  asker : (place : ℕ) (flows : List (Flow P)) (a : Ask P) → In (asks place flows) a
      → (f : Flow P) × In flows f × (limits cmp a.subject f ≡ true)
  asker place [] a h = absurd h
  asker place (f ∷ flows) a h =
      by_part (in_either (asks_if place f f.delivered) (asks (place + 1) flows) a h) (λ g. asker (place + 1) flows a g)
    where
      by_part : In (asks_if place f f.delivered) a ⊎ In (asks (place + 1) flows) a
          → (In (asks (place + 1) flows) a → (g : Flow P) × In flows g × (limits cmp a.subject g ≡ true))
          → (g : Flow P) × In (f ∷ flows) g × (limits cmp a.subject g ≡ true)
      by_part (inl g) ih = (f, inl refl, one_limits place f f.delivered refl a g)
      by_part (inr g) ih =
          let r : (g : Flow P) × In flows g × (limits cmp a.subject g ≡ true) = ih g in (r.0, inr r.1, r.2)

  one_asked : (place : ℕ) (f : Flow P) (s : Subject P) → limits cmp s f ≡ true
      → (a : Ask P) × In (asks_if place f f.delivered) a × (same_subject cmp s a.subject ≡ true)
  one_asked place f (sent_by p) l = (sends place f, inl refl, l)
  one_asked place f (received_by p) l =
      let parts = and_parts f.delivered (same_peer cmp p f.recipient) l in
      (receives place f f.delivered, received f.delivered parts.0, parts.1)
    where
      received : (d : Bool) → d ≡ true → In (asks_if place f d) (receives place f d)
      received true is = inr (inl refl)
      received false is = cc
  one_asked place f (sent_between p q) l = (
    links place f,
    in_right ((sends place f ∷ []) ++ cond f.delivered (receives place f f.delivered ∷ []) []) (links place f ∷ [])
        (links place f) (inl refl),
    l,
  )

  -- and each such flow asks
  asked : (place : ℕ) (flows : List (Flow P)) (s : Subject P) (f : Flow P) → In flows f → limits cmp s f ≡ true
      → (a : Ask P) × In (asks place flows) a × (same_subject cmp s a.subject ≡ true)
  asked place [] s f h l = absurd h
  asked place (g ∷ flows) s f (inl e) l =
      let r = one_asked place g s (subst (λ (k : Flow P). limits cmp s k ≡ true) (sym e) l) in
      (r.0, in_left (asks_if place g g.delivered) (asks (place + 1) flows) r.0 r.1, r.2)
  asked place (g ∷ flows) s f (inr h) l =
      let r = asked (place + 1) flows s f h l in
      (r.0, in_right (asks_if place g g.delivered) (asks (place + 1) flows) r.0 r.1, r.2)

  -- one subject has the same places
  same_places : (place : ℕ) (s t : Subject P) (flows : List (Flow P)) → same_subject cmp s t ≡ true
      → places_from place (limits cmp s) flows ≡ places_from place (limits cmp t) flows
  same_places place s t [] e = refl
  same_places place s t (f ∷ flows) e = search (rules, same_limits, same_places (place + 1) s t flows e)

  -- ---- the sides

  pub capped_from_listed : (flows : List (Flow P)) (side : Side) → Contains (sides_under cmp caps flows) side
      → IsCappedSide cmp caps flows side
  capped_from_listed flows side c =
      let r = from_sides [] _ side (λ a h. absurd h) (all_by_caps 0 flows) (in_from_contains _ side c) in
      let a = r.0 in
      let from = asker 0 flows a r.1.among in
      record {
        subject = a.subject;
        capped = sym (all_by_caps 0 flows a r.1.among) ∙ r.1.answered;
        flow = from.0;
        among = contains_from_in flows from.0 from.1;
        limited = from.2;
        users = r.1.users ∙ places_asked 0 flows a;
      }

  -- the side of a subject
  abbrev pub side_of_subject : List (Flow P) → Subject P → ℕ → Side
  side_of_subject flows s cap = record { cap = cap; users = places_from 0 (limits cmp s) flows }

  pub listed_from_capped : (flows : List (Flow P)) (s : Subject P) (cap : ℕ) (f : Flow P) → cap_of caps s ≡ Some cap
      → In flows f → limits cmp s f ≡ true → Contains (sides_under cmp caps flows) (side_of_subject flows s cap)
  listed_from_capped flows s cap f has h l =
      let r = asked 0 flows s f h l in
      let a = r.0 in
      let answered = all_by_caps 0 flows a r.1 ∙ sym (one_cap cmp order caps of s a.subject r.2) ∙ has in
      let listed = to_sides [] _ a cap (λ b g. absurd g) (all_by_caps 0 flows) r.1 answered (λ b g. absurd g) in
      let same : side_asked (asks 0 flows) a cap ≡ side_of_subject flows s cap =
      search (rules, places_asked, same_places) in
      contains_from_in _ _ (subst (In (sides_under cmp caps flows)) same listed)

pub sides_are_of_the_caps : {P : Type 0} (cmp : P → P → Ordering) → IsTotalOrder cmp → SidesAreOfTheCaps cmp
sides_are_of_the_caps cmp order caps flows side of = (
  capped_from_listed cmp order caps of flows side,
  (λ s.
      let listed =
      listed_from_capped cmp order caps of flows s.subject side.cap s.flow s.capped
      (in_from_contains flows s.flow s.among) s.limited in
      subst (Contains (sides_under cmp caps flows))
      (ap (λ (ps : List ℕ). record { cap = side.cap; users = ps }) (sym s.users)) listed),
)
