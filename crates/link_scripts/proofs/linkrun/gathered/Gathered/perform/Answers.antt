use Rattle.link_scripts.proofs.Common.{ℕ, List, refl, subst, Call, PrintsInTurn}
use Rattle.link_scripts.proofs.Turns.{gathered_alone, performed_and_printed}
use Rattle.link_scripts.proofs.linkrun.gathered.Gathered.perform.Goals as goal

pub returns-then-gather-2-clause-in_turn : goal.returns-then-gather-2-clause-in_turn
returns-then-gather-2-clause-in_turn g c =
    gathered_alone c.args.self.now c.send.new.self c.gather-2.new.self c.args.session.now c.send.new.session
    c.send.new.session (g.W.Write.contents c.args.output.now) (g.W.Write.contents c.send.new.output)
    (g.W.Write.contents c.send.new.output)
    (subst
    (λ (calls : List (Call ℕ)). PrintsInTurn calls c.args.session.now (g.W.Write.contents c.args.output.now)
    c.send.new.session (g.W.Write.contents c.send.new.output))
    (c.if-gather.ensures.kept refl) c.in_ok-send.ensures.printed)
    c.in_ok-send.ensures.none c.args.command (c.if-gather-2.ensures.gathered refl)

pub returns-clause-in_turn : goal.returns-clause-in_turn
returns-clause-in_turn g c =
    performed_and_printed c.args.self.now c.send.new.self c.gather-2.new.self c.args.session.now c.send.new.session
    c.perform.new.self (g.W.Write.contents c.args.output.now) (g.W.Write.contents c.send.new.output)
    (g.W.Write.contents c.print.new.output)
    (subst
    (λ (calls : List (Call ℕ)). PrintsInTurn calls c.args.session.now (g.W.Write.contents c.args.output.now)
    c.send.new.session (g.W.Write.contents c.send.new.output))
    (c.if-gather.ensures.kept refl) c.in_ok-send.ensures.printed)
    c.in_ok-send.ensures.none (c.if-gather-2.ensures.kept refl) c.send.ensures.said c.perform.result c.print.result
    c.args.command c.perform.ensures.answer c.perform.ensures.done c.perform.ensures.kept c.perform.ensures.refused
    c.print.ensures.answered c.print.ensures.refused
