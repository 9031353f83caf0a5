-- How the records that cross to C are read.
use Rattle.std.specs.Prelude.{ℕ, List, ◌+◌, ◌*◌, ◌/◌, ◌%◌, ◌^◌, ◌==◌, if◌then◌else◌, Bool, not, length, Option}
use Rattle.std.specs.Prelude.{Some, None}
use Rattle.link_pairs.specs.declared.completion.Completion.{Completion}
use Rattle.p2p_simulated_c.specs.declared.records.Cap.{Cap}
use Rattle.p2p_simulated_c.specs.declared.records.Done.{Done}
use Rattle.p2p_simulated_c.specs.declared.records.Moment.{Moment}
use Rattle.p2p_simulated_c.specs.declared.records.Wide.{Wide}

-- a flag is set where it is not 0
abbrev pub is_set : ℕ → Bool
is_set flag = not (flag == 0)

-- the cap, if there is one
abbrev pub cap_of_record : Cap → Option ℕ
cap_of_record c = if c.is_some == 0 then None else Some c.bytes

-- the moment, if there is one
abbrev pub moment_of_record : Moment → Option ℕ
moment_of_record m = if m.is_some == 0 then None else Some m.at

-- the record of a moment, or of none
abbrev pub of_moment : Option ℕ → Moment
of_moment None = record { at = 0; is_some = 0 }
of_moment (Some at) = record { at = at; is_some = 1 }

-- the number
abbrev pub value_of : Wide → ℕ
value_of w = w.high * 2 ^ 64 + w.low

-- the record of a number
abbrev pub wide_of : ℕ → Wide
wide_of n = record { low = n % 2 ^ 64; high = n / 2 ^ 64 }

-- the record of a completion
abbrev pub done_of : Completion ℕ (List ℕ) → Done
done_of c = record {
  origin = c.origin;
  recipient = c.recipient;
  channel = c.channel;
  length = length c.message;
  done_at = c.done_at;
  deliver_at = of_moment c.deliver_at;
}
