-- The users of a side are places in the list of flows, each above those before it.
use Rattle.fair_rates.proofs.Common.{subst, ◌≡◌, ℕ, ◌+◌, ◌<◌, ◌≤◌, Bool, true, false, cond, List, [], ◌∷◌, ◌++◌, Option, Some}
use Rattle.fair_rates.proofs.Common.{None, length, get_or, map, refl, sym, ◌∙◌, arith, filter, All-nil, All-cons}
use Rattle.fair_rates.proofs.Common.{All-append, All-weaker, All-map, All-head, All-tail, IsTotalOrder, Ordering}
use Rattle.fair_rates.proofs.Common.{side_of, get_or-map, length-map, Answered, Ask, asks_of_one, asks_from, is_same}
use Rattle.fair_rates.proofs.Common.{is_open, opened, sides_after, sides_of, rules}
use Rattle.std.specs.Prelude.{All}
use Rattle.std.proofs.lemmas.List.Elements.{All-filter, filter_passes}
use Rattle.fair_rates.specs.declared.bandwidth.sides.Side as declared_side
use Rattle.fairness.proofs.Lists.AllPairs.{EachLater}
use Rattle.fairness.proofs.Sides.Subjects.{same_congr}

-- each number is below all later ones
abbrev pub Rises : List ℕ → Type 0
Rises xs = EachLater (λ a b. a < b) xs

-- two facts of each element give a third
All-both : {X : Type 0} (P Q R : X → Type 0) → ((x : X) → P x → Q x → R x) → (xs : List X) → All P xs → All Q xs
    → All R xs
All-both P Q R both xs h k i d within = both (get_or xs i d) (h i d within) (k i d within)

module _ {P : Type 0} (cmp : P → P → Ordering) where
  -- of two asks for one side, the later is of a later flow
  abbrev InOrder : List (Ask P) → Type 0
  InOrder [] = Unit {0}
  InOrder (a ∷ asks) = All (λ b. is_same cmp a b ≡ true → a.place < b.place) asks × InOrder asks

  InOrder-append : (xs ys : List (Ask P)) → InOrder xs → InOrder ys → (n : ℕ) → All (λ x. x.place < n) xs
      → All (λ y. n ≤ y.place) ys → InOrder (xs ++ ys)
  InOrder-append [] ys h k n below above = k
  InOrder-append (x ∷ xs) ys h k n below above =
      let first : x.place < n = All-head (λ a. a.place < n) x xs below in (
        All-append (λ b. is_same cmp x b ≡ true → x.place < b.place) xs ys h.0
            (All-weaker (λ y. n ≤ y.place) (λ b. is_same cmp x b ≡ true → x.place < b.place) (λ y l e. omega arith) ys
            above),
        InOrder-append xs ys h.1 k n (All-tail (λ a. a.place < n) x xs below) above,
      )

  -- the asks of one flow are for different sides
  one_in_order : (n : ℕ) (a : Answered P) → InOrder (asks_of_one n a)
  one_in_order n a = search (rules, All-cons, All-nil)

  places_of_one : (n : ℕ) (a : Answered P) → All (λ x. (n ≤ x.place) × (x.place < n + 1)) (asks_of_one n a)
  places_of_one n a = search (rules, All-cons, All-nil)

  pub places_from : (n : ℕ) (answered : List (Answered P))
      → All (λ x. (n ≤ x.place) × (x.place < n + length answered)) (asks_from n answered)
  places_from n [] = All-nil (λ x. (n ≤ x.place) × (x.place < n + 0))
  places_from n (a ∷ answered) = search (rules, All-append, All-weaker, places_of_one, places_from (n + 1) answered)

  pub asks_in_order : (n : ℕ) (answered : List (Answered P)) → InOrder (asks_from n answered)
  asks_in_order n [] = tt
  asks_in_order n (a ∷ answered) =
      search (rules, InOrder-append, one_in_order, All-weaker, places_of_one, places_from, asks_in_order (n + 1) answered)

  module _ (o : IsTotalOrder cmp) where
    same_too : (a b c : Ask P) → is_same cmp a b ≡ true → is_same cmp a c ≡ true → is_same cmp b c ≡ true
    same_too a b c e f = sym (same_congr cmp o a.subject b.subject c.subject e) ∙ f

    kept_rise : (a : Ask P) (asks : List (Ask P)) → InOrder asks
        → Rises (map (λ b. b.place) (filter (is_same cmp a) asks))
    kept_rise a [] h = tt
    kept_rise a (b ∷ asks) h = by (is_same cmp a b) refl (kept_rise a asks h.1)
      where
        by : (t : Bool) → is_same cmp a b ≡ t → Rises (map (λ c. c.place) (filter (is_same cmp a) asks))
            → Rises (map (λ c. c.place) (cond t (b ∷ filter (is_same cmp a) asks) (filter (is_same cmp a) asks)))
        by true e rest = (
          All-map (λ n. b.place < n) (λ c. c.place) (filter (is_same cmp a) asks)
              (All-both (λ c. is_same cmp b c ≡ true → b.place < c.place) (λ c. is_same cmp a c ≡ true)
              (λ c. b.place < c.place) (λ c after same. after (same_too a b c e same)) (filter (is_same cmp a) asks)
              (All-filter (is_same cmp a) (λ c. is_same cmp b c ≡ true → b.place < c.place) asks h.0)
              (filter_passes (is_same cmp a) asks)),
          rest,
        )
        by false e rest = rest

    pub sides_rise : (hi : ℕ) (earlier asks : List (Ask P)) → InOrder asks → All (λ a. a.place < hi) asks
        → All (λ side. Rises side.users × All (λ flow. flow < hi) side.users) (sides_after cmp earlier asks)
    sides_rise hi earlier [] h within = All-nil (λ side. Rises side.users × All (λ flow. flow < hi) side.users)
    sides_rise hi earlier (a ∷ asks) h within =
        All-append (λ side. Rises side.users × All (λ flow. flow < hi) side.users)
        (cond (is_open cmp earlier a) [] (opened cmp a asks a.answer)) (sides_after cmp (a ∷ earlier) asks)
        (by (is_open cmp earlier a) a.answer)
        (sides_rise hi (a ∷ earlier) asks h.1 (All-tail (λ b. b.place < hi) a asks within))
      where
        by : (b : Bool) (answer : Option ℕ)
            → All (λ side. Rises side.users × All (λ flow. flow < hi) side.users) (cond b [] (opened cmp a asks answer))
        by true answer = All-nil (λ side. Rises side.users × All (λ flow. flow < hi) side.users)
        by false None = All-nil (λ side. Rises side.users × All (λ flow. flow < hi) side.users)
        by false (Some cap) = All-cons (λ side. Rises side.users × All (λ flow. flow < hi) side.users) _ [] (
          (
            All-map (λ n. a.place < n) (λ b. b.place) (filter (is_same cmp a) asks)
                (All-both (λ b. is_same cmp a b ≡ true → a.place < b.place) (λ b. is_same cmp a b ≡ true)
                (λ b. a.place < b.place) (λ b after same. after same) (filter (is_same cmp a) asks)
                (All-filter (is_same cmp a) (λ b. is_same cmp a b ≡ true → a.place < b.place) asks h.0)
                (filter_passes (is_same cmp a) asks)),
            kept_rise a asks h.1,
          ),
          All-cons (λ flow. flow < hi) a.place _ (All-head (λ b. b.place < hi) a asks within)
              (All-map (λ flow. flow < hi) (λ b. b.place) (filter (is_same cmp a) asks)
              (All-filter (is_same cmp a) (λ b. b.place < hi) asks (All-tail (λ b. b.place < hi) a asks within))),
        )
            (All-nil (λ side. Rises side.users × All (λ flow. flow < hi) side.users))

    -- the sides of some flows
    pub users_rise : (answered : List (Answered P))
        → All (λ side. Rises side.users × All (λ flow. flow < length answered) side.users) (sides_of cmp answered)
    users_rise answered =
        sides_rise (length answered) [] (asks_from 0 answered) (asks_in_order 0 answered)
        (All-weaker (λ x. (0 ≤ x.place) × (x.place < 0 + length answered)) (λ x. x.place < length answered)
        (λ x h. omega arith) (asks_from 0 answered) (places_from 0 answered))

    -- and as the code keeps them
    pub users_of : (answered : List (Answered P)) (sides : List declared_side.Side)
        → map side_of sides ≡ sides_of cmp answered
        → All (λ side. Rises side.users.items × All (λ flow. flow < length answered) side.users.items) sides
    users_of answered sides e k d within =
        let h =
        subst (All (λ side. Rises side.users × All (λ flow. flow < length answered) side.users)) (sym e)
        (users_rise answered) in
        subst (λ side. Rises side.users × All (λ flow. flow < length answered) side.users)
        (get_or-map side_of sides k d (side_of d) within) (h k (side_of d) (omega (arith, length-map sides side_of)))
