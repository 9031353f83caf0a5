-- Fair amounts exist on all sides, and over which denominator.
use Prim.Native.Nat.{◌∣◌}
use Rattle.std.specs.Prelude.{◌≢◌, ⊤, ℕ, ◌+◌, ◌*◌, ◌<◌, ◌≤◌, List, [], ◌∷◌, length, All, AllPairs}
use Rattle.std.specs.List.{sum}
use Rattle.std.specs.declared.cmp.Ordering.{Ordering}
use Rattle.fairness.specs.declared.bandwidth.Flow.{Flow}
use Rattle.fairness.specs.declared.bandwidth.Rate.{Rate}
use Rattle.fairness.specs.Fairness.Fair.{Side, IsFair}
use Rattle.fairness.specs.Fairness.Laws.{HaveUsersBelow}
use Rattle.fairness.specs.Sides.Caps.{Caps}
use Rattle.fairness.specs.Fairness.UnderCaps.{AreOfPeers, sides_under}
use Rattle.fairness.specs.Fairness.Rates.{AreFairRates}
use Rattle.fairness.specs.Refusals.FairRatesFit.{AreWholeOver}

-- no flow uses a side twice
abbrev pub HaveDistinctUsers : List Side → Type 0
HaveDistinctUsers sides = All (λ side. AllPairs (λ user other. user ≢ other) side.users) sides

-- ---- the denominator

-- the product of some numbers
abbrev pub product : List ℕ → ℕ
product [] = 1
product (k ∷ ks) = k * product ks

-- some whole numbers above zero, whose sum is at most n
pub record AreAddends (n : ℕ) (ks : List ℕ) : Type 0 where
  pub positive : All (λ k. 0 < k) ks
  pub within : sum ks ≤ n

-- a multiple of each product of such numbers
abbrev pub IsMultipleOfAll : ℕ → ℕ → Type 0
IsMultipleOfAll n m = (ks : List ℕ) → AreAddends n ks → product ks ∣ m

-- the least common multiple of all products of whole numbers above zero whose sum is at most n
pub record IsLeastMultiple (n m : ℕ) : Type 0 where
  pub positive : 0 < m
  pub multiple : IsMultipleOfAll n m
  pub least : (other : ℕ) → IsMultipleOfAll n other → m ∣ other

-- these are the ones for n and for the numbers after n, in turn
abbrev pub AreLeastMultiplesFrom : ℕ → List ℕ → Type 0
AreLeastMultiplesFrom n [] = ⊤
AreLeastMultiplesFrom n (m ∷ ms) = IsLeastMultiple n m × AreLeastMultiplesFrom (n + 1) ms

-- ---- what holds

-- on sides with so many flows, none of which uses a side twice, some amounts over that denominator are fair
abbrev pub FairAmountsExist : Type 0
FairAmountsExist =
    (n per : ℕ) → IsLeastMultiple n per → (sides : List Side) → HaveUsersBelow n sides → HaveDistinctUsers sides
    → (parts : ℕ → ℕ) × IsFair sides per parts

-- and each fair rate is whole over it
abbrev pub FairRatesAreWhole : Type 0
FairRatesAreWhole =
    (n per : ℕ) → IsLeastMultiple n per → (sides : List Side) (rates : List Rate) → HaveUsersBelow n sides
    → HaveDistinctUsers sides → AreFairRates sides n rates → AreWholeOver per rates

-- the flows have fair amounts under caps by peer
abbrev pub FairAmountsExistUnderCaps : {P : Type 0} → (P → P → Ordering) → Type 0
FairAmountsExistUnderCaps {P} cmp =
    (caps : Caps P) (flows : List (Flow P)) (per : ℕ) → AreOfPeers cmp caps → IsLeastMultiple (length flows) per
    → (parts : ℕ → ℕ) × IsFair (sides_under cmp caps flows) per parts
