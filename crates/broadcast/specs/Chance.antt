-- A shift register of 64 bits.
use Rattle.std.specs.Prelude.{ℕ, ◌*◌, ◌/◌, ◌%◌, ◌^◌, bit_xor}

-- the bits of a state and those that lie so many places below
abbrev pub shifted_left : ℕ → ℕ → ℕ
shifted_left places state = bit_xor state (state * 2 ^ places % 2 ^ 64)

-- the bits of a state and those that lie so many places above
abbrev pub shifted_right : ℕ → ℕ → ℕ
shifted_right places state = bit_xor state (state / 2 ^ places)

-- the state after this one
abbrev pub next_state : ℕ → ℕ
next_state state = shifted_left 17 (shifted_right 7 (shifted_left 13 state))
