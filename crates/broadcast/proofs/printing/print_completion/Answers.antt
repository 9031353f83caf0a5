use Rattle.std.proofs.Common.{None, Some}
use Rattle.std.proofs.lemmas.Result.{on_ok_weaker}
use Rattle.broadcast.proofs.Lines.{done_whole}
use Rattle.broadcast.proofs.printing.print_completion.Goals as goal

-- it arrives
pub returns-in-Some : goal.returns-in-Some
returns-in-Some g c =
    on_ok_weaker c.writeln.result
    (done_whole _ _ c.args.completion.now c.len-length.result (Some c.in-Some.at) c.len-length.ensures.value
    c.in-Some.is)
    c.writeln.ensures.bytes

-- it is dropped
pub returns-in-None : goal.returns-in-None
returns-in-None g c =
    on_ok_weaker c.writeln-in-None.result
    (done_whole _ _ c.args.completion.now c.len-length.result None c.len-length.ensures.value c.in-None.is)
    c.writeln-in-None.ensures.bytes
