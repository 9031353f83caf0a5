use Rattle.link_flights.proofs.Common.{[], All, sym, subst, caps_of, IsTied}
use Rattle.std.proofs.lemmas.List.Elements.{All-push}
use Rattle.link_flights.proofs.component.Component.join.Goals as goal

pub returns-clause-tied : goal.returns-clause-tied
returns-clause-tied g c tied =
    let caps = caps_of g.P.Ord.cmp c.args.peers.now.entries [] in
    let olds = c.args.self.now.joined.items in
    subst (All (IsTied caps)) (sym c.in_ok-push.ensures.items)
    (All-push (IsTied caps) olds c.in_ok-of.field-0 tied c.in_ok-of.ensures.tied)
