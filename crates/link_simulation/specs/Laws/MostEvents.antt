-- How many events may still come.
use Rattle.std.specs.Prelude.{ℕ, ◌+◌, ◌*◌, length}
use Rattle.link_simulation.specs.Rule.Planned.{Planned}

-- the most events that may still come: each waiting message has to start and to finish, and each one in flight to
-- finish
abbrev pub most_events : {P : Type 0} → Planned P → ℕ
most_events p = 2 * length p.waiting + length p.sending
