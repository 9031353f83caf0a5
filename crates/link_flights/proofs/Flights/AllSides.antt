-- The sides that come for those that are rated anew, kind by kind, are all that there are.
use Rattle.link_flights.proofs.Common.{◌≡◌, ℕ, zero, suc, ◌+◌, ◌-◌, ◌*◌, ◌<◌, ◌≤◌, Bool, true, false, cond, not, ◌⊎◌}
use Rattle.link_flights.proofs.Common.{inl, inr, List, [], ◌∷◌, ◌++◌, Option, Some, None, Contains, map, length}
use Rattle.link_flights.proofs.Common.{slice_get, sum_by, refl, sym, ap, ap₂, ◌∙◌, subst, arith, zero-add, option_map}
use Rattle.link_flights.proofs.Common.{slice_index, filter, list_any, IsTotalOrder, Ordering, false≢true, and_from}
use Rattle.link_flights.proofs.Common.{cases_lt, eq_by_cmp_equiv, sum_by-cons, none-some, same_Some, slice_get-map}
use Rattle.link_flights.proofs.Common.{Flow, Side, cap_of, limits, AreOfPeers, parts_of_level, places_from, Caps}
use Rattle.link_flights.proofs.Common.{Subject, sent_by, received_by, sent_between, same_peer, by_bool, first_of_both}
use Rattle.link_flights.proofs.Common.{second_of_both, In, in_from_contains, contains_from_in, get_in, in_get, in_left}
use Rattle.link_flights.proofs.Common.{in_right, in_either, in_map, from_map, from_filter, get_from_map}
use Rattle.link_flights.proofs.Common.{same_peer_itself, message_of, Component, End, Origin, Recipient, is_of, those_of}
use Rattle.link_flights.proofs.Common.{UnitFlight, sent_messages, flow_in_flight, end_subject, link_subject, kept_load}
use Rattle.link_flights.proofs.Common.{left_of, left_caps, flows_of, IsSideOf, flow_parts, same_subject}
use Rattle.link_flights.proofs.Common.{one_cap, same_limits, AddsSides}
use Rattle.fairness.specs.Fairness.UnderCaps.{IsCappedSide}
use Rattle.fairness.proofs.Lists.Members.{none_passes, any_fails}
use Rattle.fairness.proofs.Lists.Places.{passes_here}
use Rattle.link_simulation.specs.Simulation.Messages.{OneForEachPair, same_pair}
use Rattle.link_flights.specs.Flights.Sides.{HasSide, AreAllSides}
use Rattle.link_flights.proofs.Flights.InFlight.{filter_yes, filter_no}

-- ---- kinds of subjects

module _ {P : Type 0} (cmp : P → P → Ordering) where
  -- whom a subject of that kind limits has the same subject
  abbrev pub IsKind : (Flow P → Subject P) → Type 0
  IsKind subject = (f g : Flow P) → limits cmp (subject f) g ≡ true → same_subject cmp (subject f) (subject g) ≡ true

  pub end_kind : (end : End) → IsKind (end_subject end)
  end_kind Origin f g l = l
  end_kind Recipient f g l = second_of_both g.delivered (same_peer cmp f.recipient g.recipient) l

  pub link_kind : IsKind link_subject
  link_kind f g l = l

-- ---- what the others leave is that of the peers

module _ {P : Type 0} (cmp : P → P → Ordering) (order : IsTotalOrder cmp) (caps : Caps P) (of : AreOfPeers cmp caps)
    (scale : ℕ) (component : Component P) (us : List (UnitFlight P)) where
  load_alike : (s t : Subject P) → same_subject cmp s t ≡ true
      → kept_load cmp component us s ≡ kept_load cmp component us t
  load_alike s t e =
      λ i. sum_by (λ u. cond (same_limits cmp order s t (flow_in_flight cmp u) e i) u.rate 0)
      (filter (λ u. not (is_of cmp component u)) us)

  left_alike : (s t : Subject P) → same_subject cmp s t ≡ true
      → left_of cmp caps scale component us s ≡ left_of cmp caps scale component us t
  left_alike s t e =
      ap₂ (λ k o. option_map (λ cap. cap * scale - k) o) (load_alike s t e) (one_cap cmp order caps of s t e)

  pub of_left : AreOfPeers cmp (left_caps cmp caps scale component us)
  of_left = record {
    egress = λ p q e. left_alike (sent_by p) (sent_by q) e;
    ingress = λ p q e. left_alike (received_by p) (received_by q) e;
    link = λ p q r s e f.
        left_alike (sent_between p r) (sent_between q s) (and_from (same_peer cmp p q) (same_peer cmp r s) e f);
  }

-- what is left of a subject's cap
pub cap_left : {P : Type 0} (cmp : P → P → Ordering) (caps : Caps P) (scale : ℕ) (component : Component P)
    (us : List (UnitFlight P)) (s : Subject P)
    → cap_of (left_caps cmp caps scale component us) s ≡ left_of cmp caps scale component us s
cap_left cmp caps scale component us (sent_by p) = refl
cap_left cmp caps scale component us (received_by p) = refl
cap_left cmp caps scale component us (sent_between p q) = refl

-- where no cap holds, nothing is left of one
pub none_left : {P : Type 0} (cmp : P → P → Ordering) (caps : Caps P) (scale : ℕ) (component : Component P)
    (us : List (UnitFlight P)) (s : Subject P) (uses : Bool) → (uses ≡ true → cap_of caps s ≡ None)
    → None ≡ cond uses (left_of cmp caps scale component us s) None
none_left cmp caps scale component us s true none =
    sym (ap (option_map (λ cap. cap * scale - kept_load cmp component us s)) (none refl))
none_left cmp caps scale component us s false none = refl

-- ---- sides of one kind

-- the first so many have their sides, and those that are noted
pub record HaveAdded {P : Type 0} (cmp : P → P → Ordering) (left : Caps P) (flows : List (Flow P))
    (subject : Flow P → Subject P) (old new : List Side) (has_side : List Bool) (number : ℕ) : Type 0 where
  pub still : (side : Side) → Contains old side → Contains new side
  pub only : (side : Side) → Contains new side → Contains old side ⊎ IsCappedSide cmp left flows side
  pub each : (k : ℕ) → (k < number) ⊎ (slice_get has_side k ≡ Some true) → HasSide cmp left flows subject new k

module _ {P : Type 0} (cmp : P → P → Ordering) (order : IsTotalOrder cmp) (left : Caps P) (of : AreOfPeers cmp left)
    (flows : List (Flow P)) where
  -- one subject has one side
  side_alike : (s t : Subject P) → same_subject cmp s t ≡ true → (side : Side) → IsSideOf cmp left flows s side
      → IsSideOf cmp left flows t side
  side_alike s t e side h = record {
    capped = sym (one_cap cmp order left of s t e) ∙ h.capped;
    users = h.users ∙ (λ i. places_from 0 (λ g. same_limits cmp order s t g e i) flows);
  }

  same_side : (s : Subject P) (one other : Side) → IsSideOf cmp left flows s one → IsSideOf cmp left flows s other
      → one ≡ other
  same_side s one other h k =
      let caps : one.cap ≡ other.cap = same_Some one.cap other.cap (sym h.capped ∙ k.capped) in
      let users : one.users ≡ other.users = h.users ∙ sym k.users in
      λ i. record { cap = caps i; users = users i }

  module _ (subject : Flow P → Subject P) (kind : IsKind cmp subject) where
    capped_side : (k : ℕ) (f : Flow P) → slice_get flows k ≡ Some f → limits cmp (subject f) f ≡ true
        → (side : Side) → IsSideOf cmp left flows (subject f) side → IsCappedSide cmp left flows side
    capped_side k f there l side h = record {
      subject = subject f;
      capped = h.capped;
      flow = f;
      among = contains_from_in flows f (in_get flows k f there);
      limited = l;
      users = h.users;
    }

    abbrev HasAdded : List Side → List Side → List Bool → ℕ → Type 0
    HasAdded old new has_side number = HaveAdded cmp left flows subject old new has_side number

    module _ (old new : List Side) (has_side : List Bool) (number : ℕ) (h : HasAdded old new has_side number) where
      next_or_before : (k : ℕ) → k < number + 1 → (k < number) ⊎ (k ≡ number)
      next_or_before k below = elim (cases_lt k number) [
        | inl less ↦ inl less
        | inr le ↦ inr (let it : k ≡ number = omega (arith, le, below) in it)
      ]

      -- one that has its side
      pub side_there : HasSide cmp left flows subject new number → HasAdded old new has_side (number + 1)
      side_there has = record {
        still = h.still;
        only = h.only;
        each = λ k is. elim is [
          | inl below ↦ elim (next_or_before k below) [
            | inl less ↦ h.each k (inl less)
            | inr same ↦ subst (HasSide cmp left flows subject new) (sym same) has
          ]
          | inr noted ↦ h.each k (inr noted)
        ];
      }

      -- one that no cap limits needs none
      pub none_there : (f : Flow P) → slice_get flows number ≡ Some f
          → (limits cmp (subject f) f ≡ true → cap_of left (subject f) ≡ None)
          → HasAdded old new has_side (number + 1)
      none_there f there free = side_there (λ g at l cap capped.
          let same : f ≡ g = same_Some f g (sym there ∙ at) in
          absurd (none-some cap (sym (free (subst (λ (x : Flow P). limits cmp (subject x) x ≡ true) (sym same) l))
          ∙ ap (λ (x : Flow P). cap_of left (subject x)) same ∙ capped)))

      -- one gets its side, with whom it limits
      pub side_added : (f : Flow P) → slice_get flows number ≡ Some f → limits cmp (subject f) f ≡ true → (side : Side)
          → IsSideOf cmp left flows (subject f) side → (noted : List Bool)
          → ((k : ℕ) → slice_get noted k ≡ Some true → (slice_get has_side k ≡ Some true) ⊎ Contains side.users k)
          → HasAdded old (new ++ side ∷ []) noted (number + 1)
      side_added f there l side is noted marks = record {
        still = λ other c. before other (h.still other c);
        only = λ other c. elim (in_either new (side ∷ []) other (in_from_contains (new ++ side ∷ []) other c)) [
          | inl among ↦ h.only other (contains_from_in new other among)
          | inr (inl same) ↦
              inr (subst (IsCappedSide cmp left flows) same (capped_side number f there l side is))
          | inr (inr none) ↦ absurd none
        ];
        each = λ k at. elim at [
          | inl below ↦ elim (next_or_before k below) [
            | inl less ↦ later k (h.each k (inl less))
            | inr same ↦ by_user k (subst (λ n. slice_get flows n ≡ Some f) (sym same) there) l
          ]
          | inr noted ↦ elim (marks k noted) [
            | inl was ↦ later k (h.each k (inr was))
            | inr user ↦
                let r =
                passes_here (limits cmp (subject f)) flows k
                (in_from_contains (places_from 0 (limits cmp (subject f)) flows) k
                (subst (λ us. Contains us k) is.users user)) in
                by_user_of k r.0 r.1 r.2
          ]
        ];
      }
        where
          all : List Side
          all = new ++ side ∷ []

          before : (other : Side) → Contains new other → Contains all other
          before other c = contains_from_in all other (in_left new (side ∷ []) other (in_from_contains new other c))

          here : Contains all side
          here = contains_from_in all side (in_right new (side ∷ []) side (inl refl))

          later : (k : ℕ) → HasSide cmp left flows subject new k → HasSide cmp left flows subject all k
          later k has g at limited cap capped =
              let r = has g at limited cap capped in (r.0, before r.0 r.1, r.2)

          -- for one whom it limits
          by_user_of : (k : ℕ) (g : Flow P) → slice_get flows k ≡ Some g → limits cmp (subject f) g ≡ true
              → HasSide cmp left flows subject all k
          by_user_of k g at limits_it e at' limited cap capped =
              let same : g ≡ e = same_Some g e (sym at ∙ at') in (
                side,
                here,
                side_alike (subject f) (subject e)
                    (kind f e (subst (λ (x : Flow P). limits cmp (subject f) x ≡ true) same limits_it)) side is,
              )

          by_user : (k : ℕ) → slice_get flows k ≡ Some f → limits cmp (subject f) f ≡ true
              → HasSide cmp left flows subject all k
          by_user k at limits_it = by_user_of k f at limits_it

      -- where all have theirs
      pub sides_added : length flows ≤ number → AddsSides cmp left flows subject old new
      sides_added all = record {
        still = h.still;
        only = h.only;
        each = λ k f there.
            h.each k (inl (let low : k < length flows = within flows k f there in omega (arith, low, all))) f there;
      }
        where
          within : (fs : List (Flow P)) (k : ℕ) (f : Flow P) → slice_get fs k ≡ Some f → k < length fs
          within [] k f there = absurd (none-some f there)
          within (g ∷ fs) zero f there = omega arith
          within (g ∷ fs) (suc k) f there = let low = within fs k f there in omega (arith, low)

  -- ---- all kinds

  module _ (a b c : List Side) (sent : AddsSides cmp left flows (end_subject Origin) [] a)
      (received : AddsSides cmp left flows (end_subject Recipient) a b)
      (linked : AddsSides cmp left flows link_subject b c) where
    listed_is : (side : Side) → Contains c side → IsCappedSide cmp left flows side
    listed_is side h = elim (linked.only side h) [
      | inr is ↦ is
      | inl before ↦ elim (received.only side before) [
        | inr is ↦ is
        | inl first ↦ elim (sent.only side first) [
          | inr is ↦ is
          | inl none ↦ absurd (in_from_contains [] side none)
        ]
      ]
    ]

    -- that of a flow of that kind
    found_of : (subject : Flow P → Subject P) (sides : List Side) → ((k : ℕ) → HasSide cmp left flows subject sides k)
        → (side : Side) (d : IsCappedSide cmp left flows side)
        → same_subject cmp d.subject (subject d.flow) ≡ true → Contains sides side
    found_of subject sides each side d same =
        let f = d.flow in
        let at = get_in flows f (in_from_contains flows f d.among) in
        let r =
        each at.0 f at.1 (sym (same_limits cmp order d.subject (subject f) f same) ∙ d.limited) side.cap
        (sym (one_cap cmp order left of d.subject (subject f) same) ∙ d.capped) in
        let own : IsSideOf cmp left flows d.subject side = record { capped = d.capped; users = d.users } in
        subst (Contains sides)
        (same_side (subject f) r.0 side r.2 (side_alike d.subject (subject f) same side own)) r.1

    is_listed : (side : Side) (s : Subject P) (d : IsCappedSide cmp left flows side) → d.subject ≡ s → Contains c side
    is_listed side (sent_by p) d is =
        linked.still side (received.still side
        (found_of (end_subject Origin) a sent.each side d
        (ap (λ s. same_subject cmp s (sent_by d.flow.origin)) is
        ∙ ap (λ s. limits cmp s d.flow) (sym is) ∙ d.limited)))
    is_listed side (received_by p) d is =
        linked.still side
        (found_of (end_subject Recipient) b received.each side d
        (ap (λ s. same_subject cmp s (received_by d.flow.recipient)) is
        ∙ second_of_both d.flow.delivered (same_peer cmp p d.flow.recipient)
        (ap (λ s. limits cmp s d.flow) (sym is) ∙ d.limited)))
    is_listed side (sent_between p q) d is =
        found_of link_subject c linked.each side d
        (ap (λ s. same_subject cmp s (sent_between d.flow.origin d.flow.recipient)) is
        ∙ ap (λ s. limits cmp s d.flow) (sym is) ∙ d.limited)

    pub are_all : AreAllSides cmp left flows c
    are_all side = (listed_is side, λ d. is_listed side d.subject d refl)

-- ---- what limits a pair limits no other in flight

module _ {P : Type 0} (cmp : P → P → Ordering) (order : IsTotalOrder cmp) where
  abbrev pairs_alike : UnitFlight P → UnitFlight P → Bool
  pairs_alike u v = same_pair cmp (message_of u.message) (message_of v.message)

  pairs_symm : (u v : UnitFlight P) → pairs_alike u v ≡ true → pairs_alike v u ≡ true
  pairs_symm u v e =
      let laws = eq_by_cmp_equiv order in
      let a = first_of_both (same_peer cmp u.message.origin v.message.origin) _ e in
      let b = second_of_both (same_peer cmp u.message.origin v.message.origin) _ e in
      and_from _ _ (laws.symm v.message.origin u.message.origin ∙ a) (laws.symm v.message.recipient u.message.recipient ∙ b)

  -- no other of a list has the pair of its first
  none_later : (u : UnitFlight P) (us : List (UnitFlight P))
      → list_any (same_pair cmp (message_of u.message)) (sent_messages us) ≡ false → (k : ℕ) (v : UnitFlight P)
      → slice_get us k ≡ Some v → pairs_alike u v ≡ true → ⊥
  none_later u us none k v at same =
      false≢true (sym (none_passes (same_pair cmp (message_of u.message)) (sent_messages us) none (message_of v.message)
      (in_map (λ (w : UnitFlight P). message_of w.message) us v (in_get us k v at))) ∙ same)

  -- at two places stand two pairs
  pub pairs_apart : (us : List (UnitFlight P)) → OneForEachPair cmp (sent_messages us) → (i j : ℕ) (u v : UnitFlight P)
      → slice_get us i ≡ Some u → slice_get us j ≡ Some v → pairs_alike u v ≡ true → i ≡ j
  pairs_apart [] one i j u v at to same = absurd (none-some u at)
  pairs_apart (w ∷ us) one zero zero u v at to same = refl
  pairs_apart (w ∷ us) one zero (suc j) u v at to same =
      absurd (none_later w us one.0 j v to
      (ap (λ x. pairs_alike x v) (same_Some w u at) ∙ same))
  pairs_apart (w ∷ us) one (suc i) zero u v at to same =
      absurd (none_later w us one.0 i u at
      (ap (λ x. pairs_alike x u) (same_Some w v to) ∙ pairs_symm u v same))
  pairs_apart (w ∷ us) one (suc i) (suc j) u v at to same = ap suc (pairs_apart us one.1 i j u v at to same)

  -- fewer have one message each, too
  pub one_of_fewer : (test : UnitFlight P → Bool) (us : List (UnitFlight P)) → OneForEachPair cmp (sent_messages us)
      → OneForEachPair cmp (sent_messages (filter test us))
  one_of_fewer test [] one = one
  one_of_fewer test (u ∷ us) one = by_test (test u) (one_of_fewer test us one.1)
    where
      by_test : (b : Bool) → OneForEachPair cmp (sent_messages (filter test us))
          → OneForEachPair cmp (sent_messages (cond b (u ∷ filter test us) (filter test us)))
      by_test true ih = (
        any_fails (same_pair cmp (message_of u.message)) (sent_messages (filter test us)) (λ m h.
            let v = from_map (λ (w : UnitFlight P). message_of w.message) (filter test us) m h in
            ap (same_pair cmp (message_of u.message)) (sym v.2)
            ∙ none_passes (same_pair cmp (message_of u.message)) (sent_messages us) one.0 (message_of v.0.message)
            (in_map (λ (w : UnitFlight P). message_of w.message) us v.0 (from_filter test us v.0 v.1).0)),
        ih,
      )
      by_test false ih = ih

  module _ (caps : Caps P) (scale : ℕ) (component : Component P) (us : List (UnitFlight P))
      (one : OneForEachPair cmp (sent_messages us)) (k : ℕ) (u : UnitFlight P)
      (there : slice_get (those_of cmp component us) k ≡ Some u) where
    abbrev s : Subject P
    s = link_subject (flow_in_flight cmp u)

    -- it is the only user
    only_place : (n : ℕ) (fs : List (Flow P)) (at : ℕ) → ((j : ℕ) (f : Flow P) → slice_get fs j ≡ Some f
        → limits cmp s f ≡ true → j ≡ at) → (f : Flow P) → slice_get fs at ≡ Some f → limits cmp s f ≡ true
        → places_from n (limits cmp s) fs ≡ (n + at) ∷ []
    only_place n [] at others f here l = absurd (none-some f here)
    only_place n (g ∷ fs) zero others f here l =
        let passes : limits cmp s g ≡ true = ap (limits cmp s) (same_Some g f here) ∙ l in
        ap (λ b. cond b (n ∷ places_from (n + 1) (limits cmp s) fs) (places_from (n + 1) (limits cmp s) fs)) passes
        ∙ ap₂ (λ p ps. p ∷ ps) (let it : n ≡ n + 0 = omega arith in it)
        (no_place (n + 1) fs (λ j h at' l'. let e : suc j ≡ 0 = others (suc j) h at' l' in omega (arith, e)))
      where
        no_place : (m : ℕ) (hs : List (Flow P))
            → ((j : ℕ) (h : Flow P) → slice_get hs j ≡ Some h → limits cmp s h ≡ true → ⊥)
            → places_from m (limits cmp s) hs ≡ []
        no_place m [] none = refl
        no_place m (h ∷ hs) none =
            ap (λ b. cond b (m ∷ places_from (m + 1) (limits cmp s) hs) (places_from (m + 1) (limits cmp s) hs))
            (by_bool (limits cmp s h) (λ on. absurd (none 0 h refl on)) (λ off. off))
            ∙ no_place (m + 1) hs (λ j g at' l'. none (suc j) g at' l')
    only_place n (g ∷ fs) (suc at) others f here l =
        ap (λ b. cond b (n ∷ places_from (n + 1) (limits cmp s) fs) (places_from (n + 1) (limits cmp s) fs))
        (by_bool (limits cmp s g) (λ on. absurd (let e : 0 ≡ suc at = others 0 g refl on in omega (arith, e))) (λ off. off))
        ∙ only_place (n + 1) fs at (λ j h at' l'. let e : suc j ≡ suc at = others (suc j) h at' l' in omega (arith, e))
        f here l
        ∙ ap (λ p. p ∷ []) (let it : n + 1 + at ≡ n + suc at = omega arith in it)

    flow_there : slice_get (flows_of cmp component us) k ≡ Some (flow_in_flight cmp u)
    flow_there =
        slice_get-map (flow_in_flight cmp) (those_of cmp component us) k
        ∙ ap (option_map (flow_in_flight cmp)) there

    itself : limits cmp s (flow_in_flight cmp u) ≡ true
    itself = and_from _ _ (same_peer_itself cmp order u.message.origin) (same_peer_itself cmp order u.message.recipient)

    users_are : places_from 0 (limits cmp s) (flows_of cmp component us) ≡ k ∷ []
    users_are =
        only_place 0 (flows_of cmp component us) k
        (λ j f at l.
        let v = get_from_map (flow_in_flight cmp) (those_of cmp component us) j f at in
        pairs_apart (those_of cmp component us) (one_of_fewer (is_of cmp component) us one) j k v.0 u v.1 there
        (pairs_symm u v.0 (ap (limits cmp s) v.2 ∙ l)))
        (flow_in_flight cmp u) flow_there itself
        ∙ ap (λ n. n ∷ []) (zero-add k)

    abbrev load_of : UnitFlight P → ℕ
    load_of w = cond (limits cmp s (flow_in_flight cmp w)) w.rate 0

    abbrev stays : UnitFlight P → Bool
    stays w = not (is_of cmp component w)

    -- and nobody else takes anything
    nothing_kept : (vs : List (UnitFlight P)) → ((v : UnitFlight P) → In vs v → In us v)
        → sum_by (λ v. cond (limits cmp s (flow_in_flight cmp v)) v.rate 0)
        (filter (λ v. not (is_of cmp component v)) vs) ≡ 0
    nothing_kept [] among = refl
    nothing_kept (v ∷ vs) among = by_test (is_of cmp component v) refl (nothing_kept vs (λ w h. among w (inr h)))
      where
        unlimited : is_of cmp component v ≡ false → limits cmp s (flow_in_flight cmp v) ≡ false
        unlimited out = by_bool (limits cmp s (flow_in_flight cmp v))
            (λ on.
            let own = from_filter (is_of cmp component) us u (in_get (those_of cmp component us) k u there) in
            let at = get_in us u own.0 in
            let to = get_in us v (among v (inl refl)) in
            let same = pairs_apart us one at.0 to.0 u v at.1 to.1 on in
            let is : u ≡ v = same_Some u v (sym at.1 ∙ ap (slice_get us) same ∙ to.1) in
            absurd (false≢true (sym out ∙ ap (is_of cmp component) (sym is) ∙ own.1)))
            (λ off. off)

        by_test : (b : Bool) → is_of cmp component v ≡ b → sum_by load_of (filter stays vs) ≡ 0
            → sum_by load_of (filter stays (v ∷ vs)) ≡ 0
        by_test true is ih = ap (sum_by load_of) (filter_no stays v vs (ap not is)) ∙ ih
        by_test false out ih =
            ap (sum_by load_of) (filter_yes stays v vs (ap not out)) ∙ sum_by-cons load_of v (filter stays vs)
            ∙ ap (λ b. cond b v.rate 0 + sum_by load_of (filter stays vs)) (unlimited out)
            ∙ zero-add (sum_by load_of (filter stays vs)) ∙ ih

    -- all of its cap is left
    pub link_left : (cap : Option ℕ) → caps.link u.message.origin u.message.recipient ≡ cap
        → left_of cmp caps scale component us s ≡ option_map (λ cap. cap * scale) cap
    link_left cap has = ap (option_map (λ cap. cap * scale - kept_load cmp component us s)) has ∙ whole cap
      where
        whole : (cap : Option ℕ) → option_map (λ cap. cap * scale - kept_load cmp component us s) cap
            ≡ option_map (λ cap. cap * scale) cap
        whole None = refl
        whole (Some cap) =
            ap Some (let none = nothing_kept us (λ v h. h) in
            let it : cap * scale - kept_load cmp component us s ≡ cap * scale = omega (arith, none) in it)

    -- so this is the side of its pair
    pub link_side : (cap : ℕ) → caps.link u.message.origin u.message.recipient ≡ Some cap → (side : Side)
        → side.cap ≡ cap * scale → side.users ≡ k ∷ []
        → IsSideOf cmp (left_caps cmp caps scale component us) (flows_of cmp component us) s side
    link_side cap has side cap_is users = record {
      capped = ap (option_map (λ c. c * scale - kept_load cmp component us s)) has
          ∙ ap Some (let none = nothing_kept us (λ v h. h) in
          let it : cap * scale - kept_load cmp component us s ≡ side.cap = omega (arith, none, cap_is) in it);
      users = users ∙ sym users_are;
    }

-- ---- what is found on them

-- the rates that are found, flow by flow
pub parts_found : (levels : List ℕ) (os : List (Option ℕ)) (i : ℕ)
    → flow_parts levels os i ≡ slice_index (map (parts_of_level levels) os) i
parts_found levels [] i = refl
parts_found levels (o ∷ os) zero = refl
parts_found levels (o ∷ os) (suc i) = parts_found levels os i
