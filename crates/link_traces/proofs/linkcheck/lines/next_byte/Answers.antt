use Rattle.link_traces.proofs.Common.{rules, ◌≡◌, [], subst, Consumes}
use Rattle.std.proofs.Common.{take}
use Rattle.link_traces.proofs.Reading.{kept_consumes}
use Rattle.link_traces.proofs.linkcheck.lines.next_byte.Goals as goal

pub returns-in-Ok-eq0-clause-taken : goal.returns-in-Ok-eq0-clause-taken
returns-in-Ok-eq0-clause-taken g c =
    let none : take c.in-Ok-eq0.field-0 c.read.new.buf ≡ [] = search rules in
    kept_consumes _ _ _ [] c.loop.invariant
    (subst (Consumes (g.R.Read.remaining c.loop.input) (g.R.Read.remaining c.read.new.self)) none
    c.in-Ok-eq0.ensures.bytes.0)
