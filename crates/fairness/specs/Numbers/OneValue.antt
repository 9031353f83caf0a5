-- When two rates are of one value.
use Rattle.fairness.specs.declared.bandwidth.Rate.{Rate}
use Rattle.fairness.specs.declared.bandwidth.Rate.TheVariants.{Unlimited, Finite}
use Rattle.fairness.specs.Numbers.Ratio.{amount_of, IsWorth}

-- both are unlimited, or both finite and of one value
abbrev pub HaveOneValue : Rate → Rate → Type 0
HaveOneValue Unlimited Unlimited = Unit {0}
HaveOneValue Unlimited (Finite s) = ⊥
HaveOneValue (Finite r) Unlimited = ⊥
HaveOneValue (Finite r) (Finite s) = IsWorth r (amount_of s)
