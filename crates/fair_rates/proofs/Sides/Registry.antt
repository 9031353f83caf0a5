-- What registering one ask does to the sides and to the numbers of their subjects.
use Rattle.fair_rates.proofs.Common.{◌≡◌, ◌↔◌, ◌≢◌, ℕ, suc, zero, ◌+◌, ◌<◌, Bool, true, false, cond, ◌&&◌, List, []}
use Rattle.fair_rates.proofs.Common.{◌∷◌, ◌++◌, Option, Some, None, map, length, get_or, refl, sym, ap, ◌∙◌, arith}
use Rattle.fair_rates.proofs.Common.{subst, ⊎_elim, append-nil, map-append, length-map, get_or-map, get_or_append_left}
use Rattle.fair_rates.proofs.Common.{get_or_default, same_Some, eqb-true, cases_lt, is_some, list_any, IsTotalOrder}
use Rattle.fair_rates.proofs.Common.{Ordering, Less, Equal, Greater, is_eq, side_of, Subject, Ask, same_peer}
use Rattle.fair_rates.proofs.Common.{same_subject, sent_by, received_by, sent_between, number_of, IsRegistryOf}
use Rattle.fair_rates.proofs.Common.{FindsSides, HasNumber, Registers, Registry, rules, common_steps}
use Rattle.std.proofs.Common.{◌==◌, ◌||◌, Bor, vec_len}
use Rattle.std.proofs.Math.ListN.{set}
use Rattle.std.proofs.lemmas.List.{map-set, length-set, same_lists, get_or-set_same, get_or-set_other, get_or_push}
use Rattle.std.proofs.lemmas.List.{length_push}
use Rattle.std.proofs.lemmas.Bool.{eqb-false, false_from_ne_true as is_false, or_right}
use Rattle.std.specs.Ordering.{ordering_then}
use Rattle.fair_rates.specs.Sides.Registry.{subjects_after, IsNumberOf, AreRegistered, IsInOrder}
use Rattle.fair_rates.specs.Sides.Numbers.{number_in, HaveNone}
use Rattle.fair_rates.specs.declared.bandwidth.numbers.Numbers.{Numbers}
use Rattle.fair_rates.specs.declared.bandwidth.sides.Side as declared_side
use Rattle.fair_rates.proofs.Sides.Numbers.{numbers_agree}
use Rattle.fairness.proofs.Sides.Subjects.{same_symm, same_congr}
use Rattle.fair_rates.proofs.Sides.OneMoreAsk.{Share, limit_of, shares_after, opened_share, is_side_of, with_user}
use Rattle.fair_rates.proofs.Sides.OneMoreAsk.{limits_are, subjects_are, shares_push}

-- a list has an element that passes exactly where it has a place of one
any_from_place : {X : Type 0} (p : X → Bool) (xs : List X) (k : ℕ) (d : X) → k < length xs → p (get_or xs k d) ≡ true
    → list_any p xs ≡ true
any_from_place p [] k d h e = absurd (omega arith)
any_from_place p (x ∷ xs) zero d h e = ap (λ b. b || list_any p xs) e
any_from_place p (x ∷ xs) (suc k) d h e = or_right (p x) (list_any p xs) (any_from_place p xs k d (omega arith) e)

-- an element that passes stands at some place
place_of_any : {X : Type 0} (p : X → Bool) (xs : List X) (d : X) → list_any p xs ≡ true
    → (k : ℕ) × (k < length xs) × (p (get_or xs k d) ≡ true)
place_of_any p [] d e = cc e
place_of_any {X} p (x ∷ xs) d e = first_or_later (p x) refl (λ later. place_of_any p xs d later)
  where
    first_or_later : (b : Bool) → p x ≡ b
        → (list_any p xs ≡ true → (k : ℕ) × (k < length xs) × (p (get_or xs k d) ≡ true))
        → (k : ℕ) × (k < length (x ∷ xs)) × (p (get_or (x ∷ xs) k d) ≡ true)
    first_or_later true h later = (zero, omega arith, h)
    first_or_later false h later =
        let l = later (sym (ap (λ b. b || list_any p xs) h) ∙ e) in (suc l.0, omega (arith, l.1), l.2)

-- what all elements fail of changes none of them
none_changed : {X : Type 0} (p : X → Bool) (f : X → X) (xs : List X) → ((x : X) → p x ≡ false → f x ≡ x)
    → list_any p xs ≡ false → map f xs ≡ xs
none_changed p f [] same e = refl
none_changed p f (x ∷ xs) same e =
    let here : p x ≡ false = neither (p x) (list_any p xs) e in
    let later : list_any p xs ≡ false = nor (p x) (list_any p xs) e in
    ap (λ y. y ∷ map f xs) (same x here) ∙ ap (λ ys. x ∷ ys) (none_changed p f xs same later)
  where
    neither : (a b : Bool) → (a || b) ≡ false → a ≡ false
    neither true b h = cc h
    neither false b h = refl

    nor : (a b : Bool) → (a || b) ≡ false → b ≡ false
    nor true b h = cc h
    nor false b h = h

-- a function that changes one place alone
only_there : {X : Type 0} (f : X → X) (xs : List X) (n : ℕ) (d : X) → n < length xs
    → ((k : ℕ) → k < length xs → k ≢ n → f (get_or xs k d) ≡ get_or xs k d) → map f xs ≡ set xs n (f (get_or xs n d))
only_there {X} f xs n d within others =
    same_lists _ _ (length-map xs f ∙ sym (length-set xs n (f (get_or xs n d))))
    (λ k e h. at k e (let l : k < length xs = omega (arith, length-map xs f) in l) (k == n) refl)
  where
    at : (k : ℕ) (e : X) → k < length xs → (b : Bool) → (k == n) ≡ b
        → get_or (map f xs) k e ≡ get_or (set xs n (f (get_or xs n d))) k e
    at k e h true t =
        let same : k ≡ n = eqb-true k n t in
        get_or-map f xs k d e h ∙ ap (λ j. f (get_or xs j d)) same
        ∙ sym (get_or-set_same xs n (f (get_or xs n d)) e within)
        ∙ ap (λ j. get_or (set xs n (f (get_or xs n d))) j e) (sym same)
    at k e h false t =
        let apart : k ≢ n = eqb-false k n t in
        get_or-map f xs k d e h ∙ others k h apart ∙ get_or_default xs k d e h
        ∙ sym (get_or-set_other xs n k (f (get_or xs n d)) e apart)

module _ {P : Type 0} (cmp : P → P → Ordering) (o : IsTotalOrder cmp) where
  abbrev ask : ℕ → Subject P → Option ℕ → Ask P
  ask place s answer = record { place = place; subject = s; answer = answer }

  user_kept : (t : Ask P) (s : Share P) (b : Bool)
      → (cond b (record { subject = s.subject; cap = s.cap; users = s.users ++ t.place ∷ [] }) s).subject ≡ s.subject
  user_kept t s true = refl
  user_kept t s false = refl

  subjects_kept : (t : Ask P) (ss : List (Share P))
      → map (λ s. s.subject) (map (with_user cmp t) ss) ≡ map (λ s. s.subject) ss
  subjects_kept t [] = refl
  subjects_kept t (s ∷ ss) = search (rules, user_kept, subjects_kept t ss)

  unchanged : (t : Ask P) (s : Share P) → is_side_of cmp t s ≡ false → with_user cmp t s ≡ s
  unchanged t s e = ap (λ b. cond b (record { subject = s.subject; cap = s.cap; users = s.users ++ t.place ∷ [] }) s) e

  changed : (t : Ask P) (s : Share P) → is_side_of cmp t s ≡ true
      → limit_of (with_user cmp t s) ≡ record { cap = s.cap; users = s.users ++ t.place ∷ [] }
  changed t s e = search rules

  -- the numbers, when one subject more stands at the end
  module _ (subjects : List (Subject P)) (number number' : Subject P → Option ℕ) (s : Subject P)
      (are : (q : Subject P) (m : ℕ) → (number q ≡ Some m) ↔ IsNumberOf cmp subjects q m)
      (none : number s ≡ None)
      (are' : (q : Subject P)
      → number' q ≡ cond (same_subject cmp s q) (Some (length subjects)) (number q)) where
    abbrev more : List (Subject P)
    more = subjects ++ s ∷ []

    longer : length more ≡ length subjects + 1
    longer = length_push subjects s

    found_then : (q : Subject P) (m : ℕ) (b : Bool) → same_subject cmp s q ≡ b
        → number' q ≡ Some m → IsNumberOf cmp more q m
    found_then q m true t e =
        let last : length subjects ≡ m = search (rules, same_Some) in
        record {
          within = omega (arith, longer, last);
          same = search (rules, get_or_push, same_symm);
        }
    found_then q m false t e =
        let i = (are q m).0 (sym (are' q ∙ ap (λ b. cond b (Some (length subjects)) (number q)) t) ∙ e) in
        record {
          within = omega (arith, longer, i.within);
          same = search (rules, get_or_append_left);
        }

    apart_from : (q : Subject P) (m : ℕ) → IsNumberOf cmp subjects q m → same_subject cmp s q ≡ false
    apart_from q m i = is_false _ (λ t.
        let n : number s ≡ Some m =
        (are s m).1 (record {
          within = i.within;
          same = λ u. same_congr cmp o s q (get_or subjects m u) t ∙ i.same u;
        }) in
        cc)

    at_old : (q : Subject P) (m : ℕ) → IsNumberOf cmp more q m → m < length subjects → number' q ≡ Some m
    at_old q m i below =
        let was : IsNumberOf cmp subjects q m = search (rules, get_or_append_left) in
        are' q ∙ ap (λ b. cond b (Some (length subjects)) (number q)) (apart_from q m was) ∙ (are q m).1 was

    at_last : (q : Subject P) (m : ℕ) → IsNumberOf cmp more q m → length subjects ≡ m → number' q ≡ Some m
    at_last q m i last =
        let t = same_symm cmp o s q ∙ ap (same_subject cmp q) (sym (get_or_push subjects s s m last)) ∙ i.same s in
        are' q ∙ ap (λ b. cond b (Some (length subjects)) (number q)) t ∙ ap Some last

    numbers_push : (q : Subject P) (m : ℕ) → (number' q ≡ Some m) ↔ IsNumberOf cmp more q m
    numbers_push q m = (
      λ e. found_then q m (same_subject cmp s q) refl e,
      λ i. let l = i.within in
          ⊎_elim (at_old q m i) (λ past. at_last q m i (omega (arith, longer))) (cases_lt m (length subjects)),
    )

  module _ (asks : List (Ask P)) (sides : List declared_side.Side) (number : Subject P → Option ℕ)
      (h : AreRegistered cmp asks sides number) where
    abbrev shares : List (Share P)
    shares = shares_after cmp [] asks

    abbrev subjects : List (Subject P)
    subjects = subjects_after cmp [] asks

    limits : map side_of sides ≡ map limit_of shares
    limits = h.sides_are ∙ sym (limits_are cmp [] asks)

    as_many : length sides ≡ length shares
    as_many = sym (length-map sides side_of) ∙ ap length limits ∙ length-map shares limit_of

    as_many_subjects : length subjects ≡ length shares
    as_many_subjects = ap length (sym (subjects_are cmp [] asks)) ∙ length-map shares (λ t. t.subject)

    subject_at : (n : ℕ) (d : Share P) → n < length shares → get_or subjects n d.subject ≡ (get_or shares n d).subject
    subject_at n d i = grind (arith, common_steps, subjects_are cmp [] asks, get_or-map)

    -- a number that is found is that of a side
    pub in_range : (s : Subject P) (n : ℕ) → number s ≡ Some n → n < length sides
    in_range s n e = let i = ((h.numbers_are s n).0 e).within in omega (arith, as_many, as_many_subjects, i)

    -- the side of a number is of the subject that has the number
    same_at : (s : Subject P) (n : ℕ) (d : Share P) → number s ≡ Some n
        → same_subject cmp (get_or shares n d).subject s ≡ true
    same_at s n d e =
        let i = (h.numbers_are s n).0 e in
        let within : n < length shares = omega (arith, as_many_subjects, i.within) in
        same_symm cmp o (get_or shares n d).subject s
        ∙ ap (same_subject cmp s) (sym (subject_at n d within)) ∙ i.same d.subject

    -- and no other place is
    number_at : (s : Subject P) (n : ℕ) (d : Share P) → n < length shares
        → same_subject cmp (get_or shares n d).subject s ≡ true → number s ≡ Some n
    number_at s n d i e =
        let within : n < length subjects = omega (arith, as_many_subjects) in
        (h.numbers_are s n).1 (record {
          within = within;
          same = λ u.
              ap (same_subject cmp s) (get_or_default subjects n u d.subject within ∙ subject_at n d i)
              ∙ same_symm cmp o s (get_or shares n d).subject ∙ e;
        })

    module _ (s : Subject P) (place : ℕ) where
      nobody : Share P
      nobody = record { subject = s; cap = 0; users = [] }

      none_open : (answer : Option ℕ) → number s ≡ None → list_any (is_side_of cmp (ask place s answer)) shares ≡ false
      none_open answer e =
          is_false _ (λ any. let k = place_of_any (is_side_of cmp (ask place s answer)) shares nobody any in
          let n : number s ≡ Some k.0 = number_at s k.0 nobody k.1 k.2 in
          cc)

      -- what the sides with their subjects become
      become : (answer : Option ℕ) (b : Bool) → list_any (is_side_of cmp (ask place s answer)) shares ≡ b
          → shares_after cmp [] (asks ++ ask place s answer ∷ []) ≡ map (with_user cmp (ask place s answer)) shares
          ++ cond b [] (opened_share cmp (ask place s answer) [] answer)
      become answer b e = search (rules, shares_push)

      -- the side has come into being: it gets one user more
      pub found : (answer : Option ℕ) (n : ℕ) (old new : declared_side.Side) (sides' : List declared_side.Side)
          → number s ≡ Some n → old ≡ get_or sides n old → sides' ≡ set sides n new
          → new.cap ≡ old.cap → new.users.items ≡ old.users.items ++ place ∷ []
          → AreRegistered cmp (asks ++ ask place s answer ∷ []) sides' number
      found answer n old new sides' e at writes cap users =
          let t = ask place s answer in
          let i : n < length sides = in_range s n e in
          let within : n < length shares = omega (arith, as_many) in
          let here = get_or shares n nobody in
          let are = become answer true (any_from_place (is_side_of cmp t) shares n nobody within (same_at s n nobody e))
          ∙ append-nil (map (with_user cmp t) shares) in
          let others : (k : ℕ) → k < length shares → k ≢ n
          → with_user cmp t (get_or shares k nobody) ≡ get_or shares k nobody =
          λ k l apart.
          unchanged t (get_or shares k nobody) (is_false _
          (λ same. let m : number s ≡ Some k = number_at s k nobody l same in
          apart (same_Some k n (sym m ∙ e)))) in
          let stay = sym (subjects_are cmp [] asks) ∙ sym (subjects_kept t shares) ∙ ap (map (λ u. u.subject)) (sym are)
          ∙ subjects_are cmp [] (asks ++ t ∷ []) in
          let was = ap side_of at ∙ sym (get_or-map side_of sides n old (side_of old) i) ∙ ap
          (λ ls. get_or ls n (side_of old)) limits ∙ get_or-map limit_of shares n nobody (side_of old) within in
          record {
            sides_are = ap (map side_of) writes ∙ map-set side_of sides n new ∙ ap (λ ls. set ls n (side_of new)) limits
                ∙ (λ j. set (map limit_of shares) n (record {
                  cap = (cap ∙ ap (λ l. l.cap) was) j;
                  users = (users ∙ ap (λ l. l.users ++ place ∷ []) was) j;
                })) ∙ ap (set (map limit_of shares) n) (sym (changed t here (same_at s n nobody e)))
                ∙ sym (map-set limit_of shares n (with_user cmp t here))
                ∙ ap (map limit_of) (sym (only_there (with_user cmp t) shares n nobody within others) ∙ sym are)
                ∙ limits_are cmp [] (asks ++ t ∷ []);
            numbers_are =
                subst (λ us. (q : Subject P) (m : ℕ) → (number q ≡ Some m) ↔ IsNumberOf cmp us q m) stay h.numbers_are;
          }

      -- it has not, and does not now
      pub absent : (answer : Option ℕ) → answer ≡ None → number s ≡ None
          → AreRegistered cmp (asks ++ ask place s answer ∷ []) sides number
      absent answer unanswered e =
          let t = ask place s answer in
          let none = none_open answer e in
          let are = become answer false none ∙ ap (λ a. map (with_user cmp t) shares ++ opened_share cmp t [] a)
          unanswered ∙ append-nil (map (with_user cmp t) shares) ∙ none_changed (is_side_of cmp t) (with_user cmp t)
          shares (unchanged t) none in
          let stay : subjects_after cmp [] asks ≡ subjects_after cmp [] (asks ++ t ∷ []) =
          sym (subjects_are cmp [] asks) ∙ ap (map (λ u. u.subject)) (sym are) ∙ subjects_are cmp [] (asks ++ t ∷ []) in
          record {
            sides_are = limits ∙ ap (map limit_of) (sym are) ∙ limits_are cmp [] (asks ++ t ∷ []);
            numbers_are =
                subst (λ us. (q : Subject P) (m : ℕ) → (number q ≡ Some m) ↔ IsNumberOf cmp us q m) stay h.numbers_are;
          }

      -- it comes into being now
      pub opens : (answer : Option ℕ) (cap : ℕ) (new : declared_side.Side) (sides' : List declared_side.Side)
          (number' : Subject P → Option ℕ)
          → answer ≡ Some cap → number s ≡ None → sides' ≡ sides ++ new ∷ [] → new.cap ≡ cap
          → new.users.items ≡ place ∷ [] → (n : ℕ) → n ≡ length sides → ((q : Subject P)
          → number' q ≡ cond (same_subject cmp s q) (Some n) (number q))
          → AreRegistered cmp (asks ++ ask place s answer ∷ []) sides' number'
      opens answer cap new sides' number' answered e pushes is_cap users n last numbers =
          let t = ask place s answer in
          let none = none_open answer e in
          let share : Share P = record { subject = s; cap = cap; users = place ∷ [] } in
          let are : shares_after cmp [] (asks ++ t ∷ []) ≡ shares ++ share ∷ [] =
          become answer false none ∙ ap (λ a. map (with_user cmp t) shares ++ opened_share cmp t [] a) answered
          ∙ ap (λ ss. ss ++ share ∷ []) (none_changed (is_side_of cmp t) (with_user cmp t) shares (unchanged t) none) in
          let more = ap (λ us. us ++ s ∷ []) (sym (subjects_are cmp [] asks)) ∙ sym
          (map-append (λ u. u.subject) shares (share ∷ [])) ∙ ap (map (λ u. u.subject)) (sym are) ∙ subjects_are cmp []
          (asks ++ t ∷ []) in
          record {
            sides_are =
                ap (map side_of) pushes ∙ map-append side_of sides (new ∷ []) ∙ ap (λ ls. ls ++ side_of new ∷ []) limits
                ∙ (λ j. map limit_of shares ++ record { cap = is_cap j; users = users j } ∷ [])
                ∙ sym (map-append limit_of shares (share ∷ [])) ∙ ap (map limit_of) (sym are)
                ∙ limits_are cmp [] (asks ++ t ∷ []);
            numbers_are =
                subst (λ us. (q : Subject P) (m : ℕ) → (number' q ≡ Some m) ↔ IsNumberOf cmp us q m) more
                (numbers_push subjects number number' s h.numbers_are e (λ q. numbers q
                ∙ ap (λ m. cond (same_subject cmp s q) (Some m) (number q)) (last ∙ as_many ∙ sym as_many_subjects)));
          }

-- each number that the registry finds is that of a side
pub finds_sides : {P : Type 0} (cmp : P → P → Ordering) (o : IsTotalOrder cmp) (asks : List (Ask P))
    (registry : Registry P) → IsRegistryOf cmp asks registry → FindsSides cmp registry
finds_sides cmp o asks registry h = record {
  within = λ s n e.
      let i = in_range cmp o asks registry.sides.items (number_of cmp registry) h.registered s n e in
      omega (arith, registry.sides.ok.0, i);
  order = h.order;
}

-- the numbers, when a subject gets one: it is that of the side that is new
pub finds_more : {P : Type 0} (cmp : P → P → Ordering) (old new : Registry P) (s : Subject P) (n : ℕ)
    → HasNumber cmp s n old new → n ≡ vec_len old.sides → vec_len new.sides ≡ vec_len old.sides + 1
    → IsInOrder cmp new → FindsSides cmp old → FindsSides cmp new
finds_more {P} cmp old new s n has last more order finds = search (rules, same_Some)

none_from : (answer : Option ℕ) → is_some answer ≡ false → answer ≡ None
none_from None e = refl
none_from (Some cap) e = cc e

-- a flow asks for its link where no link has a cap
pub no_link : {P : Type 0} (cmp : P → P → Ordering) (o : IsTotalOrder cmp) (registry : Registry P) (place : ℕ)
    (p q : P) (answer : Option ℕ) → is_some answer ≡ false → HaveNone registry.links → FindsSides cmp registry
    → Registers cmp (record { place = place; subject = sent_between p q; answer = answer } ∷ []) registry registry
no_link cmp o registry place p q answer unanswered none finds = record {
  asked = λ asks h. record {
    registered =
        absent cmp o asks registry.sides.items (number_of cmp registry) h.registered (sent_between p q) place answer
        (none_from answer unanswered) (none (λ other. same_peer cmp p other.0.now && same_peer cmp q other.1.now));
    order = h.order;
  };
  finds = finds;
}

-- the number that one kind of subject gets changes no other kind
module _ {P : Type 0} (cmp : P → P → Ordering) (n : ℕ) (old new : Registry P) where
  pub sender_numbered : (p : P) → new.receivers ≡ old.receivers → new.links ≡ old.links
      → ((q : P) → number_of cmp new (sent_by q) ≡ cond (same_peer cmp p q) (Some n) (number_of cmp old (sent_by q)))
      → HasNumber cmp (sent_by p) n old new
  sender_numbered p receivers links has (sent_by q) = has q
  sender_numbered p receivers links has (received_by q) = search rules
  sender_numbered p receivers links has (sent_between q r) = search rules

  pub receiver_numbered : (p : P) → new.senders ≡ old.senders → new.links ≡ old.links
      → ((q : P) → number_of cmp new (received_by q)
      ≡ cond (same_peer cmp p q) (Some n) (number_of cmp old (received_by q))) → HasNumber cmp (received_by p) n old new
  receiver_numbered p senders links has (sent_by q) = ap (number_in (λ other. same_peer cmp q other.now)) senders
  receiver_numbered p senders links has (received_by q) = has q
  receiver_numbered p senders links has (sent_between q r) = search rules

  pub link_numbered : (o p : P) → new.senders ≡ old.senders → new.receivers ≡ old.receivers
      → ((q r : P) → number_of cmp new (sent_between q r)
      ≡ cond (same_peer cmp o q && same_peer cmp p r) (Some n) (number_of cmp old (sent_between q r)))
      → HasNumber cmp (sent_between o p) n old new
  link_numbered o p senders receivers has (sent_by q) = ap (number_in (λ other. same_peer cmp q other.now)) senders
  link_numbered o p senders receivers has (received_by q) = search rules
  link_numbered o p senders receivers has (sent_between q r) = has q r

both_same : (a b : Ordering) → is_eq (ordering_then a b) ≡ (is_eq a && is_eq b)
both_same Less b = refl
both_same Equal b = refl
both_same Greater b = refl

-- a link is another one where both peers are
pub link_is : {P : Type 0} (cmp : P → P → Ordering) (q r : P) (numbers : Numbers (Bor P × Bor P))
    → number_in (λ other. is_eq (ordering_then (cmp q other.0.now) (cmp r other.1.now))) numbers
    ≡ number_in (λ other. same_peer cmp q other.0.now && same_peer cmp r other.1.now) numbers
link_is cmp q r numbers = numbers_agree _ _ numbers (λ k. both_same (cmp q k.0.now) (cmp r k.1.now))

-- so links get their numbers by the order of pairs
pub by_both : {P : Type 0} (cmp : P → P → Ordering) (n : ℕ) (o p q r : P) (old new : Numbers (Bor P × Bor P))
    → number_in (λ other. is_eq (ordering_then (cmp q other.0.now) (cmp r other.1.now))) new
    ≡ cond (is_eq (ordering_then (cmp o q) (cmp p r))) (Some n)
    (number_in (λ other. is_eq (ordering_then (cmp q other.0.now) (cmp r other.1.now))) old)
    → number_in (λ other. same_peer cmp q other.0.now && same_peer cmp r other.1.now) new
    ≡ cond (same_peer cmp o q && same_peer cmp p r) (Some n)
    (number_in (λ other. same_peer cmp q other.0.now && same_peer cmp r other.1.now) old)
by_both cmp n o p q r old new has = search (rules, link_is, both_same)
