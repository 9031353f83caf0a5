-- The least scale at which a share is whole.
use Rattle.fair_rates.proofs.Common.{◌∣◌, ◌≡◌, ℕ, zero, suc, ◌+◌, ◌-◌, ◌*◌, ◌<◌, ◌≤◌, ap, sym, subst, arith}
use Rattle.fair_rates.proofs.Common.{dvd-mul_right, dvd-mul_left, mul-sub, gcd, gcd-pos, gcd-IsGcd}
use Rattle.std.proofs.lemmas.Nat.Gcd.{le_of_dvd}
use Rattle.std.proofs.Math.Nat.{dvd_of_mul-dvd-mul_right}
use Rattle.fairness.specs.Numbers.Gcd.{gcd-scaled}

-- what is left of a number above zero when it is divided by a divisor
pub quotient_positive : (n by quotient : ℕ) → 0 < n → quotient * by ≡ n → 0 < quotient
quotient_positive n by zero some e = absurd (omega (arith, some, e))
quotient_positive n by (suc quotient) some e = omega arith

-- each of so many gets that
pub whole : (slack count quotient rest shared factor left parts : ℕ) → count * quotient + rest ≡ slack
    → factor * shared ≡ count → left * shared ≡ rest → parts ≡ quotient * factor + left → parts * count ≡ slack * factor
whole slack count quotient rest shared factor left parts divided is_factor is_left is_parts =
    omega (arith, ap (λ n. n * count) is_parts, ap (λ n. n * factor) divided, ap (λ n. left * n) is_factor, ap (λ n. n * factor) is_left)

-- and at no lesser scale would that be whole
pub least_factor : (slack count quotient rest shared factor parts other : ℕ) → 0 < count
    → count * quotient + rest ≡ slack → shared ≡ gcd rest count → factor * shared ≡ count → 0 < other
    → parts * count ≡ slack * other → factor ≤ other
least_factor slack count quotient rest shared factor parts other some divided is_shared is_factor any is_parts =
    let positive : 0 < shared = subst (λ n. 0 < n) (sym is_shared) (gcd-pos rest count some) in
    let over : other * rest ≡ count * (parts - quotient * other) =
    omega (arith, is_parts, ap (λ n. n * other) divided, mul-sub count parts (quotient * other)) in
    let first : count ∣ other * rest =
    subst (λ n. count ∣ n) (sym over) (dvd-mul_right count (parts - quotient * other)) in
    let both : count ∣ gcd (other * rest) (other * count) =
    (gcd-IsGcd (other * rest) (other * count)).2 count first (dvd-mul_left count other) in
    let shares : factor * shared ∣ other * shared =
    subst (λ n. n ∣ other * shared) (sym is_factor) (subst (λ n. count ∣ other * n) (sym is_shared)
    (subst (λ n. count ∣ n) (gcd-scaled other rest count any) both)) in
    le_of_dvd any (dvd_of_mul-dvd-mul_right factor positive shares)
