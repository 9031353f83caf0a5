use Rattle.link_scripts.proofs.Common.{take, PrintsInTurn, zeroed_sends, SaysSame}
use Rattle.link_scripts.proofs.linkrun.gathered.Gathered.send_each.Given as goal

-- the messages so far are sent, and their answers are printed
abbrev pub invariant-loop-one : goal.invariant-loop-one
invariant-loop-one g l =
    record {
      said : SaysSame l.fn.session l.session;
      printed : PrintsInTurn (zeroed_sends l.self.moment (take l.one-index l.self.messages.items)) l.fn.session
          (g.W.Write.contents l.fn.output) l.session (g.W.Write.contents l.output);
    }
