-- Caps of links, looked up by origin and recipient.
use Rattle.link_scripts.proofs.Common.{◌≡◌, ℕ, cond, ◌&&◌, eqb, Option, sym, ap, ap₂, ◌∙◌, arith, nat_cmp, nat_tests}
use Rattle.link_scripts.proofs.Common.{pair_cmp}
use Rattle.std.specs.Cmp.{tied_then}
use Rattle.std.specs.Ordering.{is_eq}
use Rattle.link_scripts.specs.Session.{with_said_link}

-- the order of numbers tells equal ones
same_number : (a b : ℕ) → is_eq (nat_cmp a b) ≡ eqb b a
same_number a b = grind (arith, nat_tests)

same_link : (origin recipient p q : ℕ)
    → is_eq (pair_cmp nat_cmp (origin, recipient) (p, q)) ≡ (eqb p origin && eqb q recipient)
same_link origin recipient p q =
    sym (tied_then (nat_cmp origin p) (nat_cmp recipient q))
    ∙ ap₂ (λ x y. x && y) (same_number origin p) (same_number recipient q)

-- where the cap at one key was set, that of one link was
pub with_one_link : (old : ℕ → ℕ → Option ℕ) (origin recipient : ℕ) (cap : Option ℕ) (p q : ℕ)
    → cond (is_eq (pair_cmp nat_cmp (origin, recipient) (p, q))) cap (old p q)
    ≡ with_said_link old origin recipient cap p q
with_one_link old origin recipient cap p q = ap (λ same. cond same cap (old p q)) (same_link origin recipient p q)
