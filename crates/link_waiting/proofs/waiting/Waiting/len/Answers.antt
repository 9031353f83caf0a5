use Rattle.link_waiting.proofs.Common.{length, sym, ap, ◌∙◌, live}
use Rattle.link_waiting.proofs.Idle.View.{messages_are}
use Rattle.link_waiting.proofs.Idle.Waiting.{queue_length}
use Rattle.link_waiting.proofs.waiting.Waiting.len.Goals as goal

pub returns : goal.returns
returns g c =
    let inside = c.self.inside in
    c.len.ensures ∙ sym (queue_length g.P.Ord.cmp (live inside.slots.slots.items))
    ∙ ap length (messages_are g.P.Ord.cmp inside.given_up inside.slots c.args.self.now c.self.view_is c.if-self.false)
