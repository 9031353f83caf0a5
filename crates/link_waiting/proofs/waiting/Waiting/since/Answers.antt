use Rattle.link_waiting.proofs.Common.{Some, None, ◌∙◌}
use Rattle.link_waiting.proofs.Idle.View.{since_seen}
use Rattle.link_waiting.proofs.waiting.Waiting.since.Goals as goal

pub returns-in_err-number_in : goal.returns-in_err-number_in
returns-in_err-number_in g c =
    let inside = c.self.inside in
    c.from_residual.ensures
    ∙ since_seen g.P.Ord.cmp g.met.P.Ord.total c.args.origin.now c.args.recipient.now None inside.given_up inside.slots
    c.args.self.now c.self.view_is c.if-self.false c.in_err-number_in.ensures.alike c.self.invariant.stands

pub returns : goal.returns
returns g c =
    let inside = c.self.inside in
    c.since.ensures
    ∙ since_seen g.P.Ord.cmp g.met.P.Ord.total c.args.origin.now c.args.recipient.now (Some c.in_ok-number_in.field-0)
    inside.given_up inside.slots c.args.self.now c.self.view_is c.if-self.false c.in_ok-number_in.ensures.alike
    c.self.invariant.stands
