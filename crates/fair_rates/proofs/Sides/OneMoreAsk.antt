-- The sides with their subjects, and what one ask more makes of them.
use Rattle.fair_rates.proofs.Common.{◌≡◌, ℕ, Bool, true, false, cond, ◌&&◌, List, [], ◌∷◌, ◌++◌, Option, Some, None}
use Rattle.fair_rates.proofs.Common.{map, refl, sym, append_assoc, is_some, filter, list_any, append-nil, map-append}
use Rattle.fair_rates.proofs.Common.{IsTotalOrder, Ordering, Side, Subject, Ask, same_subject, is_same, is_open, opened}
use Rattle.fair_rates.proofs.Common.{sides_after, rules}
use Rattle.std.proofs.Common.{◌||◌}
use Rattle.std.proofs.lemmas.List.Elements.{filter-append}
use Rattle.std.proofs.lemmas.List.Folds.{list_any-append}
use Rattle.fairness.proofs.Lists.Booleans.{second_of_both}
use Rattle.fair_rates.specs.Sides.Registry.{subjects_after}
use Rattle.fairness.proofs.Sides.Subjects.{same_symm, same_congr}

-- a side and its subject
pub record Share (P : Type 0) : Type 0 where
  pub subject : Subject P
  pub cap : ℕ
  pub users : List ℕ

abbrev pub limit_of : {P : Type 0} → Share P → Side
limit_of s = record { cap = s.cap; users = s.users }

-- the asks before, the last first
abbrev before : {P : Type 0} → List (Ask P) → List (Ask P) → List (Ask P)
before [] earlier = earlier
before (a ∷ asks) earlier = before asks (a ∷ earlier)

turn : (m rest o : Bool) → ((m || false || rest) || o) ≡ (rest || (m || o))
turn true true o = refl
turn true false o = refl
turn false true o = refl
turn false false o = refl

or_false : (b : Bool) → b ≡ (b || false)
or_false true = refl
or_false false = refl

module _ {P : Type 0} (cmp : P → P → Ordering) where
  abbrev pub opened_share : Ask P → List (Ask P) → Option ℕ → List (Share P)
  opened_share a later None = []
  opened_share a later (Some cap) =
      record { subject = a.subject; cap = cap; users = a.place ∷ map (λ b. b.place) (filter (is_same cmp a) later) }
      ∷ []

  -- as `sides_after`, with the subjects
  abbrev pub shares_after : List (Ask P) → List (Ask P) → List (Share P)
  shares_after earlier [] = []
  shares_after earlier (a ∷ later) =
      cond (is_open cmp earlier a) [] (opened_share a later a.answer) ++ shares_after (a ∷ earlier) later

  -- whether the side is the one that is asked for
  abbrev pub is_side_of : Ask P → Share P → Bool
  is_side_of t s = same_subject cmp s.subject t.subject

  abbrev pub with_user : Ask P → Share P → Share P
  with_user t s = cond (is_side_of t s) (record { subject = s.subject; cap = s.cap; users = s.users ++ t.place ∷ [] }) s

  -- the sides after one ask more
  abbrev pub registered : List (Share P) → Ask P → List (Share P)
  registered shares t =
      map (with_user t) shares ++ cond (list_any (is_side_of t) shares) [] (opened_share t [] t.answer)

  limits_of_opened : (a : Ask P) (later : List (Ask P)) (b : Bool) (answer : Option ℕ)
      → map limit_of (cond b [] (opened_share a later answer)) ≡ cond b [] (opened cmp a later answer)
  limits_of_opened a later true answer = refl
  limits_of_opened a later false None = refl
  limits_of_opened a later false (Some cap) = refl

  subjects_of_opened : (a : Ask P) (later : List (Ask P)) (b : Bool) (answer : Option ℕ)
      → map (λ s. s.subject) (cond b [] (opened_share a later answer))
      ≡ map (λ side. a.subject) (cond b [] (opened cmp a later answer))
  subjects_of_opened a later true answer = refl
  subjects_of_opened a later false None = refl
  subjects_of_opened a later false (Some cap) = refl

  pub limits_are : (earlier asks : List (Ask P))
      → map limit_of (shares_after earlier asks) ≡ sides_after cmp earlier asks
  limits_are earlier [] = refl
  limits_are earlier (a ∷ asks) = search (rules, map-append, limits_of_opened, limits_are (a ∷ earlier) asks)

  pub subjects_are : (earlier asks : List (Ask P))
      → map (λ s. s.subject) (shares_after earlier asks) ≡ subjects_after cmp earlier asks
  subjects_are earlier [] = refl
  subjects_are earlier (a ∷ asks) = search (rules, map-append, subjects_of_opened, subjects_are (a ∷ earlier) asks)

  user_added : (u t : Ask P) (cap : ℕ) (users more : List ℕ) (b : Bool)
      → more ≡ users ++ cond b (t.place ∷ []) []
      → cond b (record { subject = u.subject; cap = cap; users = users ++ t.place ∷ [] })
      (record { subject = u.subject; cap = cap; users = users })
      ≡ (let s : Share P = record { subject = u.subject; cap = cap; users = more } in s)
  user_added u t cap users more true e = λ i. record { subject = u.subject; cap = cap; users = sym e i }
  user_added u t cap users more false e = search (rules, append-nil)

  one_place : (t : Ask P) (b : Bool) → map (λ (u : Ask P). u.place) (cond b (t ∷ []) []) ≡ cond b (t.place ∷ []) []
  one_place t true = refl
  one_place t false = refl

  places : (p : Ask P → Bool) (ts : List (Ask P)) (t : Ask P)
      → map (λ u. u.place) (filter p (ts ++ t ∷ [])) ≡ map (λ u. u.place) (filter p ts) ++ cond (p t) (t.place ∷ []) []
  places p ts t = search (rules, filter-append, map-append, one_place)

  opened-push : (u t : Ask P) (ts : List (Ask P)) (b : Bool) (answer : Option ℕ)
      → map (with_user t) (cond b [] (opened_share u ts answer)) ≡ cond b [] (opened_share u (ts ++ t ∷ []) answer)
  opened-push u t ts true answer = refl
  opened-push u t ts false None = refl
  opened-push u t ts false (Some cap) = search (rules, user_added, places)

  shares_after-push : (earlier ts : List (Ask P)) (t : Ask P) → shares_after earlier (ts ++ t ∷ [])
      ≡ map (with_user t) (shares_after earlier ts)
      ++ cond (is_open cmp (before ts earlier) t) [] (opened_share t [] t.answer)
  shares_after-push earlier [] t = append-nil (cond (is_open cmp earlier t) [] (opened_share t [] t.answer))
  shares_after-push earlier (u ∷ ts) t =
      search (rules, opened-push, append_assoc, map-append, shares_after-push (u ∷ earlier) ts t)

  module _ (o : IsTotalOrder cmp) where
    same_alike : (u t v : Ask P) → is_same cmp u t ≡ true → is_same cmp v u ≡ is_same cmp v t
    same_alike u t v e = search (rules, same_symm, same_congr)

    open_alike : (u t : Ask P) (earlier : List (Ask P)) → is_same cmp u t ≡ true
        → is_open cmp earlier u ≡ is_open cmp earlier t
    open_alike u t [] e = refl
    open_alike u t (v ∷ earlier) e = search (rules, same_alike, open_alike u t earlier e)

    bools : (r o' s m : Bool) → (s && m ≡ true → o' ≡ true) → (r || o') ≡ (r || (s && m || o'))
    bools true o' s m f = refl
    bools false true true true f = refl
    bools false false true true f = f refl
    bools false o' true false f = refl
    bools false o' false m f = refl

    first_is : (u t : Ask P) (ts earlier : List (Ask P)) (rest b : Bool) (answer : Option ℕ)
        → is_open cmp earlier u ≡ b
        → ((list_any (is_side_of t) (cond b [] (opened_share u ts answer)) || rest) || is_open cmp earlier t)
        ≡ (rest || ((is_some answer && is_same cmp u t) || is_open cmp earlier t))
    first_is u t ts earlier rest true answer e = search (rules, bools, open_alike, second_of_both)
    first_is u t ts earlier rest false None e = refl
    first_is u t ts earlier rest false (Some cap) e = turn (is_same cmp u t) rest (is_open cmp earlier t)

    any_open : (earlier ts : List (Ask P)) (t : Ask P)
        → (list_any (is_side_of t) (shares_after earlier ts) || is_open cmp earlier t)
        ≡ is_open cmp (before ts earlier) t
    any_open earlier [] t = refl
    any_open earlier (u ∷ ts) t = search (rules, list_any-append, first_is, any_open (u ∷ earlier) ts t)

    -- one ask more
    pub shares_push : (ts : List (Ask P)) (t : Ask P)
        → shares_after [] (ts ++ t ∷ []) ≡ registered (shares_after [] ts) t
    shares_push ts t =
        cc (shares_after-push [] ts t, or_false (list_any (is_side_of t) (shares_after [] ts)), any_open [] ts t)
