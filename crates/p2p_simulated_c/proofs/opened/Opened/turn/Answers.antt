use Rattle.p2p_simulated_c.proofs.Turns.{tells}
use Rattle.p2p_simulated_c.proofs.opened.Opened.turn.Goals as goal

pub returns : goal.returns
returns c = tells c.args.self.now c.next.result c.args.now c.args.acts _ _ c.next.ensures.next c.tell.ensures
