use Rattle.std.proofs.Common.{refl, ap, ◌∙◌}
use Rattle.link_simulation.specs.Simulation.Messages.{with_cap}
use Rattle.link_pairs.specs.Pairs.PeerCaps.{egress_of, ingress_of, caps_by_peer}
use Rattle.link_pairs.proofs.Pairs.PeerCaps.{caps_stay, cap_kept, cap_set, peers_grown}
use Rattle.peer_numbers.proofs.OrderedPairs.{on_err}
use Rattle.link_pairs.proofs.peers.Peers.set.Goals as goal

-- the caps at the mark

pub returns-in_err-fill_up_to-clause-before : goal.returns-in_err-fill_up_to-clause-before
returns-in_err-fill_up_to-clause-before g c =
    ap (caps_by_peer c.add.new.self) (c.fill_up_to.ensures.before)
    ∙ caps_stay c.self.inside.numbers c.add.new.self c.self.inside.caps.before
    (peers_grown g.P.Ord.cmp c.self.inside.numbers c.add.new.self c.args.peer.now c.in_ok-number.ensures.peers)
    c.self.invariant.before
    ∙ ap (λ peers. peers.before) c.self.view_is

pub returns-in_err-set-clause-before : goal.returns-in_err-set-clause-before
returns-in_err-set-clause-before g c =
    ap (caps_by_peer c.add.new.self) (c.set.ensures.before ∙ c.fill_up_to.ensures.before)
    ∙ caps_stay c.self.inside.numbers c.add.new.self c.self.inside.caps.before
    (peers_grown g.P.Ord.cmp c.self.inside.numbers c.add.new.self c.args.peer.now c.in_ok-number.ensures.peers)
    c.self.invariant.before
    ∙ ap (λ peers. peers.before) c.self.view_is

pub returns-clause-before : goal.returns-clause-before
returns-clause-before g c =
    ap (caps_by_peer c.add.new.self) (c.set.ensures.before ∙ c.fill_up_to.ensures.before)
    ∙ caps_stay c.self.inside.numbers c.add.new.self c.self.inside.caps.before
    (peers_grown g.P.Ord.cmp c.self.inside.numbers c.add.new.self c.args.peer.now c.in_ok-number.ensures.peers)
    c.self.invariant.before
    ∙ ap (λ peers. peers.before) c.self.view_is

-- the caps that are set

pub returns-clause-egress : goal.returns-clause-egress
returns-clause-egress g c =
    ap (λ caps. egress_of g.P.Ord.cmp (caps_by_peer c.add.new.self caps)) c.in_ok-set.ensures.items
    ∙ cap_set g.P.Ord.cmp g.met.P.Ord.total (λ entry. entry.egress) (λ caps. caps.egress) (λ peer caps. refl) c.add.new.self
    c.fill_up_to.new.items.items c.args.peer.now c.in_ok-number.number
    _ c.in_ok-number.ensures.number
    c.in_ok-fill_up_to.ensures.room
    ∙ ap (λ caps. with_cap g.P.Ord.cmp caps c.args.peer.now c.args.egress)
    (cap_kept g.P.Ord.cmp g.met.P.Ord.total (λ entry. entry.egress) (λ caps. caps.egress) (λ peer caps. refl)
    c.self.inside.numbers c.add.new.self c.self.inside.caps.items c.fill_up_to.new.items.items _ c.in_ok-number.number
    (peers_grown g.P.Ord.cmp c.self.inside.numbers c.add.new.self c.args.peer.now c.in_ok-number.ensures.peers)
    c.self.invariant.now c.fill_up_to.ensures.items refl
    ∙ ap (λ peers. egress_of g.P.Ord.cmp peers.entries) c.self.view_is)

pub returns-clause-ingress : goal.returns-clause-ingress
returns-clause-ingress g c =
    ap (λ caps. ingress_of g.P.Ord.cmp (caps_by_peer c.add.new.self caps)) c.in_ok-set.ensures.items
    ∙ cap_set g.P.Ord.cmp g.met.P.Ord.total (λ entry. entry.ingress) (λ caps. caps.ingress) (λ peer caps. refl) c.add.new.self
    c.fill_up_to.new.items.items c.args.peer.now c.in_ok-number.number
    _ c.in_ok-number.ensures.number
    c.in_ok-fill_up_to.ensures.room
    ∙ ap (λ caps. with_cap g.P.Ord.cmp caps c.args.peer.now c.args.ingress)
    (cap_kept g.P.Ord.cmp g.met.P.Ord.total (λ entry. entry.ingress) (λ caps. caps.ingress) (λ peer caps. refl)
    c.self.inside.numbers c.add.new.self c.self.inside.caps.items c.fill_up_to.new.items.items _ c.in_ok-number.number
    (peers_grown g.P.Ord.cmp c.self.inside.numbers c.add.new.self c.args.peer.now c.in_ok-number.ensures.peers)
    c.self.invariant.now c.fill_up_to.ensures.items refl
    ∙ ap (λ peers. ingress_of g.P.Ord.cmp peers.entries) c.self.view_is)

-- the caps stay after an error

pub returns-in_err-fill_up_to-clause-kept_egress : goal.returns-in_err-fill_up_to-clause-kept_egress
returns-in_err-fill_up_to-clause-kept_egress g c =
    on_err c.from_residual-in_err-fill_up_to.result
    (cap_kept g.P.Ord.cmp g.met.P.Ord.total (λ entry. entry.egress) (λ caps. caps.egress) (λ peer caps. refl)
    c.self.inside.numbers c.add.new.self c.self.inside.caps.items c.fill_up_to.new.items.items _ c.in_ok-number.number
    (peers_grown g.P.Ord.cmp c.self.inside.numbers c.add.new.self c.args.peer.now c.in_ok-number.ensures.peers)
    c.self.invariant.now c.fill_up_to.ensures.items refl
    ∙ ap (λ peers. egress_of g.P.Ord.cmp peers.entries) c.self.view_is)

pub returns-in_err-fill_up_to-clause-kept_ingress : goal.returns-in_err-fill_up_to-clause-kept_ingress
returns-in_err-fill_up_to-clause-kept_ingress g c =
    on_err c.from_residual-in_err-fill_up_to.result
    (cap_kept g.P.Ord.cmp g.met.P.Ord.total (λ entry. entry.ingress) (λ caps. caps.ingress) (λ peer caps. refl)
    c.self.inside.numbers c.add.new.self c.self.inside.caps.items c.fill_up_to.new.items.items _ c.in_ok-number.number
    (peers_grown g.P.Ord.cmp c.self.inside.numbers c.add.new.self c.args.peer.now c.in_ok-number.ensures.peers)
    c.self.invariant.now c.fill_up_to.ensures.items refl
    ∙ ap (λ peers. ingress_of g.P.Ord.cmp peers.entries) c.self.view_is)

pub returns-in_err-set-clause-kept_egress : goal.returns-in_err-set-clause-kept_egress
returns-in_err-set-clause-kept_egress g c =
    on_err c.from_residual-in_err-set.result
    (ap (λ caps. egress_of g.P.Ord.cmp (caps_by_peer c.add.new.self caps)) c.in_err-set.ensures.items
    ∙ cap_kept g.P.Ord.cmp g.met.P.Ord.total (λ entry. entry.egress) (λ caps. caps.egress) (λ peer caps. refl)
    c.self.inside.numbers c.add.new.self c.self.inside.caps.items c.fill_up_to.new.items.items _ c.in_ok-number.number
    (peers_grown g.P.Ord.cmp c.self.inside.numbers c.add.new.self c.args.peer.now c.in_ok-number.ensures.peers)
    c.self.invariant.now c.fill_up_to.ensures.items refl
    ∙ ap (λ peers. egress_of g.P.Ord.cmp peers.entries) c.self.view_is)

pub returns-in_err-set-clause-kept_ingress : goal.returns-in_err-set-clause-kept_ingress
returns-in_err-set-clause-kept_ingress g c =
    on_err c.from_residual-in_err-set.result
    (ap (λ caps. ingress_of g.P.Ord.cmp (caps_by_peer c.add.new.self caps)) c.in_err-set.ensures.items
    ∙ cap_kept g.P.Ord.cmp g.met.P.Ord.total (λ entry. entry.ingress) (λ caps. caps.ingress) (λ peer caps. refl)
    c.self.inside.numbers c.add.new.self c.self.inside.caps.items c.fill_up_to.new.items.items _ c.in_ok-number.number
    (peers_grown g.P.Ord.cmp c.self.inside.numbers c.add.new.self c.args.peer.now c.in_ok-number.ensures.peers)
    c.self.invariant.now c.fill_up_to.ensures.items refl
    ∙ ap (λ peers. ingress_of g.P.Ord.cmp peers.entries) c.self.view_is)
