use Rattle.std.proofs.Common.{refl, ap, ◌∙◌}
use Rattle.std.specs.Option.{option_and_then}
use Rattle.link_pairs.specs.Pairs.PeerCaps.{egress_of, ingress_of}
use Rattle.link_pairs.proofs.Pairs.ByNumber.{said, read}
use Rattle.link_pairs.proofs.Pairs.PeerCaps.{cap_by_number}
use Rattle.link_pairs.proofs.peers.Peers.find.Goals as goal

pub returns-in_err-number-clause-egress : goal.returns-in_err-number-clause-egress
returns-in_err-number-clause-egress g c =
    ap (option_and_then (λ caps. caps.now.egress)) c.from_residual.ensures
    ∙ ap (said (λ caps. caps.egress) c.self.inside.caps.items) c.in_err-number.ensures
    ∙ cap_by_number g.P.Ord.cmp g.met.P.Ord.total (λ entry. entry.egress) (λ caps. caps.egress) (λ peer caps. refl)
    c.self.inside.numbers c.self.inside.caps.items c.args.peer.now
    ∙ ap (λ peers. egress_of g.P.Ord.cmp peers.entries c.args.peer.now) c.self.view_is

pub returns-clause-egress : goal.returns-clause-egress
returns-clause-egress g c =
    read (λ caps. caps.now) (λ caps. caps.egress) c.get.result
    ∙ ap (option_and_then (λ caps. caps.egress)) c.get.ensures
    ∙ ap (said (λ caps. caps.egress) c.self.inside.caps.items) c.in_ok-number.ensures
    ∙ cap_by_number g.P.Ord.cmp g.met.P.Ord.total (λ entry. entry.egress) (λ caps. caps.egress) (λ peer caps. refl)
    c.self.inside.numbers c.self.inside.caps.items c.args.peer.now
    ∙ ap (λ peers. egress_of g.P.Ord.cmp peers.entries c.args.peer.now) c.self.view_is

pub returns-in_err-number-clause-ingress : goal.returns-in_err-number-clause-ingress
returns-in_err-number-clause-ingress g c =
    ap (option_and_then (λ caps. caps.now.ingress)) c.from_residual.ensures
    ∙ ap (said (λ caps. caps.ingress) c.self.inside.caps.items) c.in_err-number.ensures
    ∙ cap_by_number g.P.Ord.cmp g.met.P.Ord.total (λ entry. entry.ingress) (λ caps. caps.ingress) (λ peer caps. refl)
    c.self.inside.numbers c.self.inside.caps.items c.args.peer.now
    ∙ ap (λ peers. ingress_of g.P.Ord.cmp peers.entries c.args.peer.now) c.self.view_is

pub returns-clause-ingress : goal.returns-clause-ingress
returns-clause-ingress g c =
    read (λ caps. caps.now) (λ caps. caps.ingress) c.get.result
    ∙ ap (option_and_then (λ caps. caps.ingress)) c.get.ensures
    ∙ ap (said (λ caps. caps.ingress) c.self.inside.caps.items) c.in_ok-number.ensures
    ∙ cap_by_number g.P.Ord.cmp g.met.P.Ord.total (λ entry. entry.ingress) (λ caps. caps.ingress) (λ peer caps. refl)
    c.self.inside.numbers c.self.inside.caps.items c.args.peer.now
    ∙ ap (λ peers. ingress_of g.P.Ord.cmp peers.entries c.args.peer.now) c.self.view_is
