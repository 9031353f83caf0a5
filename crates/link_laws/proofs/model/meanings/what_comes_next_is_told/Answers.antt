use Rattle.link_simulation.proofs.Common.{◌≡◌, ℕ, zero, suc, Bool, true, false, Some, refl, arith, slice_get, nat_cmp}
use Rattle.link_simulation.proofs.Common.{whole, reduced, gcd_within, Message, same_pair, RatedFlight, IsSpentAt}
use Rattle.link_simulation.proofs.Common.{next_of, may_launch}
use Rattle.link_laws.specs.Examples.Rows.{five_messages, message, rated_flight, two_of_a_pair}
use Rattle.link_laws.proofs.model.meanings.what_comes_next_is_told.Goals as goal

-- the four bytes, which drain since moment 1
abbrev second : RatedFlight ℕ
second = record (rated_flight (message 2 3 4 0) (Some (whole 1_000_000_000))) { updated = 1 }

pub returns-clause-spent : goal.returns-clause-spent
unfolding reduced gcd_within
returns-clause-spent c = (1, second, refl, omega arith, refl)

-- neither of the two in flight has nothing left at 4
left_at_four : (i : ℕ) (f : RatedFlight ℕ) → slice_get five_messages.sending i ≡ Some f → IsSpentAt 4 f → ⊥
unfolding reduced gcd_within
left_at_four zero f at spent = grind arith
left_at_four (suc zero) f at spent = grind arith
left_at_four (suc (suc i)) f at spent = cc

pub returns-clause-not_yet : goal.returns-clause-not_yet
returns-clause-not_yet c some = left_at_four some.0 some.1 some.2 some.4

pub returns-clause-ready : goal.returns-clause-ready
returns-clause-ready c = (message 1 2 1 1, refl, refl)

-- the first of the pair may start at 6
may_not : (m : Message ℕ) (b : Bool) → same_pair nat_cmp m (message 1 2 1 1) ≡ b
    → next_of nat_cmp two_of_a_pair m ≡ Some m → may_launch nat_cmp 5 two_of_a_pair m ≡ true → ⊥
may_not m true is first may = grind arith
may_not m false is first may = grind arith

pub returns-clause-not_ready : goal.returns-clause-not_ready
returns-clause-not_ready c some = may_not some.0 (same_pair nat_cmp some.0 (message 1 2 1 1)) refl some.1 some.2
