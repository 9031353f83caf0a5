-- What follows from fairness. It is max-min, there is one fair list of rates at most, and the rate is zero at a cap
-- of zero.
use Rattle.std.specs.Prelude.{◌≡◌, ℕ, ◌*◌, ◌<◌, ◌≤◌, ◌↔◌, List, All, Contains, Some, slice_get}
use Rattle.fairness.specs.declared.bandwidth.Rate.{Rate}
use Rattle.fairness.specs.declared.bandwidth.Rate.TheVariants.{Finite}
use Rattle.fairness.specs.declared.ratio.Ratio.{Ratio}
use Rattle.fairness.specs.Numbers.Amount.{Amount, parts_over}
use Rattle.fairness.specs.Fairness.Fair.{Side, Uses, IsLimited, IsWithinCaps, IsFair}
use Rattle.fairness.specs.Fairness.Rates.{AreFairRates}
use Rattle.fairness.specs.Numbers.Ratio.{amount_of}

-- the first amount is less than the second
abbrev pub IsLess : Amount → Amount → Type 0
IsLess a b = a.num * b.den < b.num * a.den

-- the first amount is no greater than the second
abbrev pub IsAtMost : Amount → Amount → Type 0
IsAtMost a b = a.num * b.den ≤ b.num * a.den

-- the flow at that place has that finite rate
abbrev pub HasRate : List Rate → ℕ → Ratio → Type 0
HasRate rates flow rate = slice_get rates flow ≡ Some (Finite rate)

-- the users of the sides are among so many flows
abbrev pub HaveUsersBelow : ℕ → List Side → Type 0
HaveUsersBelow flows sides = All (λ side. All (λ user. user < flows) side.users) sides

-- ---- max-min, of amounts

-- a limited flow that gets less than its fair amount, which is no greater than that of the given flow
pub record Pays (sides : List Side) (per : ℕ) (parts : ℕ → ℕ) (other_per : ℕ) (other : ℕ → ℕ) (flow : ℕ) : Type 0 where
  pub payer : ℕ
  pub limited : IsLimited sides payer
  pub no_greater : parts payer ≤ parts flow
  pub loses : IsLess (parts_over other_per (other payer)) (parts_over per (parts payer))

-- in any other amounts within the caps, where a limited flow gets more some flow pays for it
abbrev pub IsMaxMin : List Side → ℕ → (ℕ → ℕ) → Type 0
IsMaxMin sides per parts =
    (other_per : ℕ) (other : ℕ → ℕ)
    → IsWithinCaps sides other_per other
    → (flow : ℕ)
    → IsLimited sides flow
    → IsLess (parts_over per (parts flow)) (parts_over other_per (other flow))
    → Pays sides per parts other_per other flow

-- fair amounts are max-min
abbrev pub FairIsMaxMin : Type 0
FairIsMaxMin = (sides : List Side) (per : ℕ) (parts : ℕ → ℕ) → IsFair sides per parts → IsMaxMin sides per parts

-- ---- max-min, of rates

-- a flow that gets less than its rate, which is no greater than the given one
pub record PaysFor (rates : List Rate) (per : ℕ) (parts : ℕ → ℕ) (rate : Ratio) : Type 0 where
  pub payer : ℕ
  pub own : Ratio
  pub has : HasRate rates payer own
  pub no_greater : IsAtMost (amount_of own) (amount_of rate)
  pub loses : IsLess (parts_over per (parts payer)) (amount_of own)

-- in any amounts within the caps, where a limited flow gets more than its rate some flow pays for it
abbrev pub AreMaxMin : List Side → List Rate → Type 0
AreMaxMin sides rates =
    (per : ℕ) (parts : ℕ → ℕ)
    → IsWithinCaps sides per parts
    → (flow : ℕ) (rate : Ratio)
    → HasRate rates flow rate
    → IsLess (amount_of rate) (parts_over per (parts flow))
    → PaysFor rates per parts rate

-- fair rates are max-min
abbrev pub FairRatesAreMaxMin : Type 0
FairRatesAreMaxMin =
    (sides : List Side) (flows : ℕ) (rates : List Rate) → HaveUsersBelow flows sides → AreFairRates sides flows rates
    → AreMaxMin sides rates

-- ---- one allocation

-- every list of fair rates on these sides equals this one
abbrev pub IsTheOnlyFair : List Side → ℕ → List Rate → Type 0
IsTheOnlyFair sides flows rates = (others : List Rate) → AreFairRates sides flows others → others ≡ rates

-- there is one list of fair rates at most
abbrev pub OneAllocation : Type 0
OneAllocation =
    (sides : List Side) (flows : ℕ) (rates : List Rate) → AreFairRates sides flows rates
    → IsTheOnlyFair sides flows rates

-- ---- caps of zero

-- the flow uses a side of cap zero
pub record UsesClosedSide (sides : List Side) (flow : ℕ) : Type 0 where
  pub side : Side
  pub uses : Uses sides flow side
  pub closed : side.cap ≡ 0

-- a finite rate is zero exactly where the flow uses a side of cap zero
abbrev pub AreZeroWhereClosed : List Side → List Rate → Type 0
AreZeroWhereClosed sides rates =
    (flow : ℕ) (rate : Ratio) → HasRate rates flow rate → ((amount_of rate).num ≡ 0) ↔ UsesClosedSide sides flow

-- fair rates are
abbrev pub FairRatesAreZeroWhereClosed : Type 0
FairRatesAreZeroWhereClosed =
    (sides : List Side) (flows : ℕ) (rates : List Rate) → AreFairRates sides flows rates
    → AreZeroWhereClosed sides rates

-- ---- the set of sides

-- each list contains the sides of the other, in whatever order and how often
abbrev pub AreTheSameSides : List Side → List Side → Type 0
AreTheSameSides xs ys = (side : Side) → Contains xs side ↔ Contains ys side

-- fairness depends on the set of sides alone
abbrev pub FairnessIsOfTheSet : Type 0
FairnessIsOfTheSet =
    (xs ys : List Side) (flows : ℕ) (rates : List Rate) → AreTheSameSides xs ys → AreFairRates xs flows rates
    → AreFairRates ys flows rates
