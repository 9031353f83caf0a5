-- The scale grows: all that is kept is so many times what it was.
use Rattle.fair_rates.proofs.Common.{◌∙◌, ◌≡◌, ℕ, ◌*◌, ◌<◌, ◌≤◌, inl, inr, List, [], ◌∷◌, ◌++◌, length, All, Contains}
use Rattle.fair_rates.proofs.Common.{sum_by, Option, Some, None, IsSome, refl, sym, ap, subst, arith, mul-le-mul_right}
use Rattle.fair_rates.proofs.Common.{IsPermutation, option_map, unwrap_or, Reverse, All-cons, All-push, All-weaker}
use Rattle.fair_rates.proofs.Common.{All-contains, Contains-append_left, Contains-push, All-permutation}
use Rattle.fair_rates.proofs.Common.{Contains-permutation, All-nil, Side, load, at_level, AllRise, HaveNoMore, KeepsAccount}
use Rattle.fair_rates.proofs.Common.{IsOpen, IsCovered, IsQueue, AreGrown, OpenSide, rules}
use Rattle.std.proofs.lemmas.List.Elements.{All-contains_itself}
use Rattle.fair_rates.specs.Filling.States.{IsGrown}
use Rattle.fairness.proofs.Lists.SumOrder.{sum_by-scaled}
use Rattle.fairness.proofs.Filling.States.{IsFilledTo}
use Rattle.fairness.proofs.Lists.Sums.{sum_by_same}
use Rattle.fair_rates.proofs.Filling.Queue.{is_first, is_later}

-- ---- one open side after another

-- none are none
pub grown_none : (factor : ℕ) (opens : List (Reverse OpenSide)) → IsPermutation [] opens → AreGrown factor [] opens
grown_none factor opens perm = record {
  each = All-permutation (λ b. (a : Reverse OpenSide) × Contains [] a × IsGrown factor a.0 b.0) [] opens perm
      (All-nil (λ b. (a : Reverse OpenSide) × Contains [] a × IsGrown factor a.0 b.0));
  all = All-nil (λ a. (b : Reverse OpenSide) × Contains opens b × IsGrown factor a.0 b.0);
}

-- at once the scale all are themselves
pub grown_once : (factor : ℕ) (opens : List (Reverse OpenSide)) → factor ≡ 1 → AreGrown factor opens opens
grown_once factor opens one = record {
  each =
      All-weaker (Contains opens) (λ b. (a : Reverse OpenSide) × Contains opens a × IsGrown factor a.0 b.0)
      (λ o c. (o, c, itself o.0)) opens (All-contains_itself opens);
  all =
      All-weaker (Contains opens) (λ a. (b : Reverse OpenSide) × Contains opens b × IsGrown factor a.0 b.0)
      (λ o c. (o, c, itself o.0)) opens (All-contains_itself opens);
}
  where
    itself : (o : OpenSide) → IsGrown factor o o
    itself o = record { slack = omega (arith, ap (λ n. o.slack * n) one); rising = refl }

-- in another order
pub grown_permuted : (factor : ℕ) (old new later : List (Reverse OpenSide)) → IsPermutation new later
    → AreGrown factor old new → AreGrown factor old later
grown_permuted factor old new later perm grown = record {
  each =
      All-permutation (λ b. (a : Reverse OpenSide) × Contains old a × IsGrown factor a.0 b.0) new later perm grown.each;
  all = All-weaker (λ a. (b : Reverse OpenSide) × Contains new b × IsGrown factor a.0 b.0)
      (λ a. (b : Reverse OpenSide) × Contains later b × IsGrown factor a.0 b.0)
      (λ a (b, listed, is). (b, Contains-permutation new later b perm listed, is)) old grown.all;
}

pub grown_more : (factor : ℕ) (old new later : List (Reverse OpenSide)) (x y : Reverse OpenSide)
    → IsPermutation (y ∷ new) later → IsGrown factor x.0 y.0 → AreGrown factor old new
    → AreGrown factor (old ++ x ∷ []) later
grown_more factor old new later x y perm grown was =
    let Each : Reverse OpenSide → Type 0 = λ b.
    (a : Reverse OpenSide) × Contains (old ++ x ∷ []) a × IsGrown factor a.0 b.0 in
    let Every : Reverse OpenSide → Type 0 = λ a. (b : Reverse OpenSide) × Contains later b × IsGrown factor a.0 b.0 in
    record {
      each = All-permutation Each (y ∷ new) later perm (All-cons Each y new (x, Contains-push old x, grown)
          (All-weaker (λ b. (a : Reverse OpenSide) × Contains old a × IsGrown factor a.0 b.0) Each
          (λ b (a, c, g). (a, Contains-append_left old (x ∷ []) a c, g)) new was.each));
      all = All-push Every old x
          (All-weaker (λ a. (b : Reverse OpenSide) × Contains new b × IsGrown factor a.0 b.0) Every
          (λ a (b, c, g). (b, Contains-permutation (y ∷ new) later b perm (is_later y b new c), g)) old was.all)
          (y, Contains-permutation (y ∷ new) later y perm (is_first y new), grown);
    }

-- and one that stands first
pub grown_first : (factor : ℕ) (x : OpenSide) (rest opens : List (Reverse OpenSide)) (wide : Reverse OpenSide)
    → IsGrown factor x wide.0 → AreGrown factor rest opens
    → AreGrown factor (record { 0 = x } ∷ rest) (wide ∷ opens)
grown_first factor x rest opens wide grown was =
    let first : Reverse OpenSide = record { 0 = x } in
    let Each : Reverse OpenSide → Type 0 = λ b.
    (a : Reverse OpenSide) × Contains (first ∷ rest) a × IsGrown factor a.0 b.0 in
    let Every : Reverse OpenSide → Type 0 = λ a.
    (b : Reverse OpenSide) × Contains (wide ∷ opens) b × IsGrown factor a.0 b.0 in
    record {
      each = All-cons Each wide opens (first, is_first first rest, grown)
          (All-weaker (λ b. (a : Reverse OpenSide) × Contains rest a × IsGrown factor a.0 b.0) Each
          (λ b (a, c, g). (a, is_later first a rest c, g)) opens was.each);
      all = All-cons Every first rest (wide, is_first wide opens, grown)
          (All-weaker (λ a. (b : Reverse OpenSide) × Contains opens b × IsGrown factor a.0 b.0) Every
          (λ a (b, c, g). (b, is_later wide b opens c, g)) rest was.all);
    }

-- ---- what the flows have

-- at so many times the scale each frozen flow has so many times as much
pub record AreScaled (factor : ℕ) (frozen after : ℕ → Option ℕ) : Type 0 where
  pub each : (flow : ℕ) → after flow ≡ option_map (λ parts. parts * factor) (frozen flow)

option_scaled : (factor : ℕ) (o : Option ℕ) (level : ℕ)
    → unwrap_or (option_map (λ parts. parts * factor) o) (level * factor) ≡ unwrap_or o level * factor
option_scaled factor None level = refl
option_scaled factor (Some parts) level = refl

some_scaled : (factor : ℕ) (o : Option ℕ) → IsSome o → IsSome (option_map (λ parts. parts * factor) o)
some_scaled factor None h = cc
some_scaled factor (Some parts) h = refl

some_before : (factor : ℕ) (o : Option ℕ) → IsSome (option_map (λ parts. parts * factor) o) → IsSome o
some_before factor None h = cc
some_before factor (Some parts) h = refl

module _ (factor : ℕ) (frozen after : ℕ → Option ℕ) (scaled : AreScaled factor frozen after) where
  pub has_scaled : (level flow : ℕ) → at_level after (level * factor) flow ≡ at_level frozen level flow * factor
  has_scaled level flow = search (rules, option_scaled)

  pub none_scaled : (flow : ℕ) → at_level after 0 flow ≡ at_level frozen 0 flow * factor
  none_scaled flow = search (rules, has_scaled)

  still_some : (flow : ℕ) → IsSome (frozen flow) → IsSome (after flow)
  still_some flow some = subst (λ o. IsSome o) (sym (scaled.each flow)) (some_scaled factor (frozen flow) some)

  was_some : (flow : ℕ) → IsSome (after flow) → IsSome (frozen flow)
  was_some flow some = some_before factor (frozen flow) (subst (λ o. IsSome o) (scaled.each flow) some)

  pub still_rise : (users : List ℕ) → AllRise frozen users → AllRise after users
  still_rise users rise = search (rules, All-weaker)

  load_scaled : (level : ℕ) (users : List ℕ)
      → sum_by (at_level after (level * factor)) users ≡ sum_by (at_level frozen level) users * factor
  load_scaled level users =
      sum_by_same (at_level after (level * factor)) (λ j. at_level frozen level j * factor) users
      (λ k d inside. has_scaled level _) ∙ sum_by-scaled (at_level frozen level) factor users

  sum_scaled : (users : List ℕ) → sum_by (at_level after 0) users ≡ sum_by (at_level frozen 0) users * factor
  sum_scaled users =
      sum_by_same (at_level after 0) (λ j. at_level frozen 0 j * factor) users (λ k d inside. none_scaled _)
      ∙ sum_by-scaled (at_level frozen 0) factor users

  pub account_scaled : (side : Side) (scale slack : ℕ) (rising : List ℕ) → KeepsAccount side scale frozen slack rising
      → KeepsAccount side (scale * factor) after (slack * factor) rising
  account_scaled side scale slack rising account = record {
    counted = account.counted;
    parted = account.parted;
    done = All-weaker (λ j. IsSome (frozen j)) (λ j. IsSome (after j)) still_some account.counted account.done;
    left = omega (arith, sum_scaled account.counted, ap (λ n. n * factor) account.left);
  }

  pub filled_scaled : (sides : List Side) (scale level : ℕ) → IsFilledTo sides scale frozen level
      → IsFilledTo sides (scale * factor) after (level * factor)
  filled_scaled sides scale level filled = record {
    within =
        All-weaker (λ s. load (at_level frozen level) s ≤ s.cap * scale)
        (λ s. load (at_level after (level * factor)) s ≤ s.cap * (scale * factor))
        (λ s le. omega (arith, load_scaled level s.users, mul-le-mul_right factor le)) sides filled.within;
    below = λ flow. omega (arith, none_scaled flow, mul-le-mul_right factor (filled.below flow));
    held = λ flow some.
        let h = filled.held flow (was_some flow some) in
        let b = h.bottleneck in
        record {
          bottleneck = record {
            side = b.side;
            uses = b.uses;
            full = omega (arith, sum_scaled b.side.users, ap (λ n. n * factor) b.full);
            greatest =
                All-weaker (λ j. at_level frozen 0 j ≤ at_level frozen 0 flow)
                (λ j. at_level after 0 j ≤ at_level after 0 flow)
                (λ j le. omega (arith, none_scaled j, none_scaled flow, mul-le-mul_right factor le)) b.side.users
                b.greatest;
          };
          all_frozen = All-weaker (λ j. IsSome (frozen j)) (λ j. IsSome (after j)) still_some b.side.users h.all_frozen;
        };
  }

  pub no_more_scaled : (slack : ℕ) (users : List ℕ) → HaveNoMore frozen slack users
      → HaveNoMore after (slack * factor) users
  no_more_scaled slack users no_more =
      All-weaker (λ j. at_level frozen 0 j * length users ≤ slack)
      (λ j. at_level after 0 j * length users ≤ slack * factor)
      (λ j le. omega (arith, ap (λ n. n * length users) (none_scaled j), mul-le-mul_right factor le)) users no_more

  -- ---- the open sides

  account_grown : (side : Side) (scale : ℕ) (a b : OpenSide) → IsGrown factor a b
      → KeepsAccount side scale frozen a.slack a.rising.items
      → KeepsAccount side (scale * factor) after b.slack b.rising.items
  account_grown side scale a b grown account = search (rules, account_scaled)

  pub queue_grown : (sides : List Side) (scale : ℕ) (old new : List (Reverse OpenSide)) → AreGrown factor old new
      → IsQueue sides scale frozen old → IsQueue sides (scale * factor) after new
  queue_grown sides scale old new grown queue = record {
    each =
        All-weaker (λ b. (a : Reverse OpenSide) × Contains old a × IsGrown factor a.0 b.0)
        (IsOpen sides (scale * factor) after)
        (λ b (a, c, g). let was = All-contains (IsOpen sides scale frozen) old a queue.each c in
        (was.0, was.1, account_grown was.0 scale a.0 b.0 g was.2))
        new grown.each;
    covered = All-weaker (IsCovered scale frozen old) (IsCovered (scale * factor) after new) again sides queue.covered;
  }
    where
      again : (side : Side) → IsCovered scale frozen old side → IsCovered (scale * factor) after new side
      again side (inl all) = inl (All-weaker (λ j. IsSome (frozen j)) (λ j. IsSome (after j)) still_some side.users all)
      again side (inr (a, c, account)) =
          let g =
          All-contains (λ (a : Reverse OpenSide). (b : Reverse OpenSide) × Contains new b × IsGrown factor a.0 b.0)
          old a grown.all c in
          inr (g.0, g.1, account_grown side scale a.0 g.0.0 g.2 account)

  pub no_more_grown : (old new : List (Reverse OpenSide)) → AreGrown factor old new
      → All (λ o. HaveNoMore frozen o.0.slack o.0.rising.items) old
      → All (λ o. HaveNoMore after o.0.slack o.0.rising.items) new
  no_more_grown old new grown no_more =
      All-weaker (λ b. (a : Reverse OpenSide) × Contains old a × IsGrown factor a.0 b.0)
      (λ b. HaveNoMore after b.0.slack b.0.rising.items) (λ b (a, c, g).
      let was = All-contains (λ (o : Reverse OpenSide). HaveNoMore frozen o.0.slack o.0.rising.items) old a no_more c in
      subst (λ n. HaveNoMore after n b.0.rising.items) (sym g.slack)
      (subst (λ xs. HaveNoMore after (a.0.slack * factor) xs) (sym g.rising)
      (no_more_scaled a.0.slack a.0.rising.items was)))
      new grown.each

pub least_grown : (factor slack n : ℕ) (old new : List (Reverse OpenSide)) → AreGrown factor old new
    → All (λ o. slack * length o.0.rising.items ≤ o.0.slack * n) old
    → All (λ o. slack * factor * length o.0.rising.items ≤ o.0.slack * n) new
least_grown factor slack n old new grown least =
    All-weaker (λ b. (a : Reverse OpenSide) × Contains old a × IsGrown factor a.0 b.0)
    (λ b. slack * factor * length b.0.rising.items ≤ b.0.slack * n) (λ b (a, c, g).
    let was = All-contains (λ (o : Reverse OpenSide). slack * length o.0.rising.items ≤ o.0.slack * n) old a least c in
    omega (arith, mul-le-mul_right factor was, ap (λ k. k * n) g.slack, ap (λ xs. slack * factor * length xs) g.rising))
    new grown.each

pub users_grown : (factor flows : ℕ) (old new : List (Reverse OpenSide)) → AreGrown factor old new
    → All (λ o. All (λ flow. flow < flows) o.0.rising.items) old
    → All (λ o. All (λ flow. flow < flows) o.0.rising.items) new
users_grown factor flows old new grown users =
    All-weaker (λ b. (a : Reverse OpenSide) × Contains old a × IsGrown factor a.0 b.0)
    (λ b. All (λ flow. flow < flows) b.0.rising.items) (λ b (a, c, g). subst (All (λ flow. flow < flows)) (sym g.rising)
    (All-contains (λ (o : Reverse OpenSide). All (λ flow. flow < flows) o.0.rising.items) old a users c))
    new grown.each
