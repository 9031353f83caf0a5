-- A round of filling: the users of the side with the least share freeze at it.
use Rattle.fair_rates.proofs.Common.{unwrap_or, ◌≡◌, ℕ, ◌*◌, ◌<◌, ◌≤◌, ◌⊎◌, inl, inr, List, ◌∷◌, ◌++◌, length, All, Contains}
use Rattle.fair_rates.proofs.Common.{Option, Some, None, IsSome, sym, ap, subst, arith, Reverse, All-head, All-tail}
use Rattle.fair_rates.proofs.Common.{All-append, All-contains, All-weaker, Contains-append_right, All-permutation}
use Rattle.fair_rates.proofs.Common.{Contains-permutation, IsPermutation-sym, Side, load, at_level, AllRise, AllFrozen}
use Rattle.fair_rates.proofs.Common.{IsWithinSlack, HaveNoMore, KeepsAccount, IsOpen, IsCovered, IsQueue, AreAbove}
use Rattle.fair_rates.proofs.Common.{OpenSide, rules, ◌∙◌}
use Rattle.std.proofs.Common.{le_of_mul-le-mul_right}
use Rattle.fairness.proofs.Lists.SumOrder.{All-from_contains}
use Rattle.fair_rates.proofs.Filling.Account.{has_room, is_full}
use Rattle.fairness.proofs.Filling.Frozen.{some_value, some_is, at_some, at_any}
use Rattle.fair_rates.proofs.Filling.Queue.{first_or_later}
use Rattle.fairness.proofs.Filling.Rounds.{next}
use Rattle.fairness.proofs.Filling.States.{IsFilledTo}
use Rattle.fairness.proofs.Lists.Sums.{sum_by_same}

-- each of these users is frozen at the level now, and nothing else changes
pub record Freezes (users : List ℕ) (before after : ℕ → Option ℕ) (level : ℕ) : Type 0 where
  pub all : All (λ flow. after flow ≡ Some level) users
  pub others : (flow : ℕ) → Contains users flow ⊎ (after flow ≡ before flow)

module _ (sides : List Side) (scale : ℕ) (frozen after : ℕ → Option ℕ) (x : Reverse OpenSide)
    (opens : List (Reverse OpenSide)) (level last : ℕ)
    (queue : IsQueue sides scale frozen (x ∷ opens))
    (no_more : All (λ o. HaveNoMore frozen o.0.slack o.0.rising.items) opens) (rise : AllRise frozen x.0.rising.items)
    (within : AreAbove level opens) (share : level * length x.0.rising.items ≡ x.0.slack)
    (freezes : Freezes x.0.rising.items frozen after level) where
  -- who was frozen stays so
  kept : (flow parts : ℕ) → frozen flow ≡ Some parts → after flow ≡ Some parts
  kept flow parts e = elim (freezes.others flow) [
    | inr same ↦ same ∙ e
    | inl used ↦ let none = All-contains (λ j. frozen j ≡ None) x.0.rising.items flow rise used in absurd (cc)
  ]

  fresh : (flow parts : ℕ) → frozen flow ≡ None → after flow ≡ Some parts
      → (parts ≡ level) × Contains x.0.rising.items flow
  fresh flow parts none e = elim (freezes.others flow) [
    | inr same ↦ absurd (cc)
    | inl used ↦ let now = All-contains (λ j. after j ≡ Some level) x.0.rising.items flow freezes.all used in
        let same : parts ≡ level = cc in
        (same, used)
  ]

  still : (flow : ℕ) → IsSome (frozen flow) → IsSome (after flow)
  still flow some = let v = some_value (frozen flow) some in some_is (after flow) v.0 (kept flow v.0 v.1)

  still_has : (flow : ℕ) → IsSome (frozen flow) → at_level after 0 flow ≡ at_level frozen 0 flow
  still_has flow some = search (rules, some_value, at_some, kept)

  -- a side of which the open one keeps account is frozen whole
  all_frozen : (side : Side) → KeepsAccount side scale frozen x.0.slack x.0.rising.items → AllFrozen after side.users
  all_frozen side account = search (rules, All-permutation, IsPermutation-sym, All-append, All-weaker, still, some_is)

  -- an account stands
  account_kept : (side : Side) (slack : ℕ) (rising : List ℕ) → KeepsAccount side scale frozen slack rising
      → KeepsAccount side scale after slack rising
  account_kept side slack rising account = record {
    counted = account.counted;
    parted = account.parted;
    done = All-weaker (λ j. IsSome (frozen j)) (λ j. IsSome (after j)) still account.counted account.done;
    left = omega (
      arith,
      account.left,
      sum_by_same (at_level after 0) (at_level frozen 0) account.counted
          (All-weaker (λ j. IsSome (frozen j)) (λ j. at_level after 0 j ≡ at_level frozen 0 j) still_has account.counted
          account.done),
    );
  }

  -- ---- the queue

  pub queue_on : IsQueue sides scale after opens
  queue_on = record {
    each =
        All-weaker (IsOpen sides scale frozen) (IsOpen sides scale after)
        (λ o (side, listed, account). (side, listed, account_kept side o.0.slack o.0.rising.items account)) opens
        (All-tail (IsOpen sides scale frozen) x opens queue.each);
    covered = All-weaker (IsCovered scale frozen (x ∷ opens)) (IsCovered scale after opens) again sides queue.covered;
  }
    where
      again : (side : Side) → IsCovered scale frozen (x ∷ opens) side → IsCovered scale after opens side
      again side (inl all) = inl (All-weaker (λ j. IsSome (frozen j)) (λ j. IsSome (after j)) still side.users all)
      again side (inr (o, c, account)) = elim (first_or_later x o opens c) [
        | inl same ↦ inl
            (all_frozen side
            (subst (λ (p : Reverse OpenSide). KeepsAccount side scale frozen p.0.slack p.0.rising.items) (sym same)
            account))
        | inr later ↦ inr (o, later, account_kept side o.0.slack o.0.rising.items account)
      ]

  -- nobody has more than the shares
  pub no_more_on : All (λ o. HaveNoMore after o.0.slack o.0.rising.items) opens
  no_more_on =
      All-from_contains (λ (o : Reverse OpenSide). HaveNoMore after o.0.slack o.0.rising.items) opens (λ o listed.
      let was =
      All-contains (λ (o : Reverse OpenSide). HaveNoMore frozen o.0.slack o.0.rising.items) opens o no_more
      listed in
      let fits =
      All-contains (λ (o : Reverse OpenSide). IsWithinSlack level o.0.slack o.0.rising.items) opens o within
      listed in
      let n : ℕ = length o.0.rising.items in
      All-weaker (λ j. at_level frozen 0 j * n ≤ o.0.slack) (λ j. at_level after 0 j * n ≤ o.0.slack)
      (λ j le. elim (freezes.others j) [
        | inl used ↦
            let now = All-contains (λ j. after j ≡ Some level) x.0.rising.items j freezes.all used in
            omega (arith, fits, ap (λ k. k * n) (at_some after 0 j level now))
        | inr same ↦ omega (arith, le, ap (λ o. unwrap_or o 0 * n) same)
      ]) o.0.rising.items was)

  -- ---- the round

  open_account : IsOpen sides scale frozen x
  open_account = All-head (IsOpen sides scale frozen) x opens queue.each

  module _ (some : 0 < length x.0.rising.items) (some_each : (o : Reverse OpenSide) → 0 < length o.0.rising.items)
      (filled : IsFilledTo sides scale frozen last) (raised : last ≤ level) where
    full : load (at_level frozen level) open_account.0 ≡ open_account.0.cap * scale
    full = is_full open_account.0 scale frozen x.0.slack x.0.rising.items open_account.2 level rise share

    -- the level is within the caps
    room : (side : Side) → Contains sides side → IsCovered scale frozen (x ∷ opens) side
        → load (at_level frozen level) side ≤ side.cap * scale
    room side listed (inl all) =
        let same = sum_by_same (at_level frozen level) (at_level frozen last) side.users
        (All-weaker (λ j. IsSome (frozen j)) (λ j. at_level frozen level j ≡ at_level frozen last j)
        (λ j h. at_any frozen level last j h) side.users all) in
        omega (arith, same, All-contains (λ s. load (at_level frozen last) s ≤ s.cap * scale) sides side filled.within listed)
    room side listed (inr (o, c, account)) = elim (first_or_later x o opens c) [
      | inl same ↦
          let here : KeepsAccount side scale frozen x.0.slack x.0.rising.items = search rules in
          omega (arith, is_full side scale frozen x.0.slack x.0.rising.items here level rise share)
      | inr later ↦
          has_room side scale frozen o.0.slack o.0.rising.items account level (some_each o)
          (All-contains (λ (o : Reverse OpenSide). IsWithinSlack level o.0.slack o.0.rising.items) opens o within later)
          (All-contains (λ (o : Reverse OpenSide). HaveNoMore frozen o.0.slack o.0.rising.items) opens o no_more later)
    ]

    used_by : (flow : ℕ) → Contains x.0.rising.items flow → Contains open_account.0.users flow
    used_by flow used =
        Contains-permutation (open_account.2.counted ++ x.0.rising.items) open_account.0.users flow
        (IsPermutation-sym open_account.0.users (open_account.2.counted ++ x.0.rising.items) open_account.2.parted)
        (Contains-append_right open_account.2.counted x.0.rising.items flow used)

    pub filled_on : IsFilledTo sides scale after level
    filled_on = next sides scale frozen last after level filled (record {
      raised = raised;
      within =
          All-from_contains (λ s. load (at_level frozen level) s ≤ s.cap * scale) sides (λ side listed. room side listed
          (All-contains (IsCovered scale frozen (x ∷ opens)) sides side queue.covered listed));
      kept = kept;
      fresh = λ flow parts none e.
          let f = fresh flow parts none e in (
            f.0,
            record {
              side = open_account.0;
              uses = record { listed = open_account.1; used = used_by flow f.1 };
              full = full;
              all_frozen = all_frozen open_account.0 open_account.2;
            },
          );
    })

-- the level of the least share is within the others
pub share_within : (level slack n other m : ℕ) → 0 < n → level * n ≡ slack → slack * m ≤ other * n → level * m ≤ other
share_within level slack n other m some share le =
    le_of_mul-le-mul_right {k = n} (omega (arith, ap (λ k. k * m) share, le)) some
