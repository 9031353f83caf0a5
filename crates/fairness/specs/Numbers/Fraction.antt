-- Fractions of natural numbers, as two numbers each.
use Prim.Native.Nat.{◌∣◌}
use Rattle.std.specs.Prelude.{◌≡◌, ℕ, ◌*◌}
use Rattle.std.specs.declared.cmp.Ordering.{Ordering}
use Rattle.std.specs.Ordering.{nat_cmp}

-- a fraction in lowest terms: no number but 1 divides both
abbrev pub IsReduced : ℕ → ℕ → Type 0
IsReduced n d = (k : ℕ) → k ∣ n → k ∣ d → k ≡ 1

-- how a/b stands to c/d: by the cross products
abbrev pub fraction_cmp : ℕ → ℕ → ℕ → ℕ → Ordering
fraction_cmp a b c d = nat_cmp (a * d) (c * b)
