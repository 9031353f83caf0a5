-- When a waiting message may start.
use Rattle.std.specs.Prelude.{ℕ, ◌-◌, Option, Some, None}

-- the first moment from which on a message of that latency arrives no earlier than the last one
abbrev pub first_moment : Option ℕ → ℕ → ℕ
first_moment None latency = 0
first_moment (Some last) latency = last - latency
