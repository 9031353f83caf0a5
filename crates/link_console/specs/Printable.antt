-- What a terminal shows as it is.
use Rattle.std.specs.Prelude.{ℕ, ◌≤◌}

-- a byte of ASCII from the space to the tilde
abbrev pub IsPrintable : ℕ → Type 0
IsPrintable byte = (32 ≤ byte) × (byte ≤ 126)
