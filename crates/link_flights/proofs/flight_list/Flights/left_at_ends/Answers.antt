use Rattle.link_flights.proofs.Common.{◌≡◌, ℕ, List, Option, None, Some, IfSome, cond, slice_get, sym, ap, ap₂, ◌∙◌}
use Rattle.link_flights.proofs.Common.{refl, true, cap_of, caps_of, Caps, Subject, UnitFlight, Pair, Flight, in_units, flow_sent, flows_of}
use Rattle.link_flights.proofs.Common.{left_caps, left_of, uses_end, End, Origin, Recipient, end_subject, IsSideOf}
use Rattle.fairness.specs.Sides.Alone.{least_of}
use Rattle.link_flights.specs.Flights.Sides.{left_at_end}
use Rattle.link_flights.proofs.Flights.AllSides.{cap_left, none_left}
use Rattle.link_flights.proofs.flight_list.Flights.left_at_ends.Goals as goal

pub returns-clause-left : goal.returns-clause-left
returns-clause-left g c one pairs there =
    c.least.ensures
    ∙ ap₂ least_of
    (left_there Origin c.side_at.new.users.items c.in_ok-sent.sent c.in_ok-sent.ensures.side
    c.in_ok-sent.ensures.uses c.in_ok-sent.ensures.none)
    (left_there Recipient c.side_at-2.new.users.items c.in_ok-received.received c.in_ok-received.ensures.side
    c.in_ok-received.ensures.uses c.in_ok-received.ensures.none)
  where
    Peer : Type 0
    Peer = g.row.P.Denot

    caps : List (Pair Peer) → Caps Peer
    caps pairs = caps_of g.P.Ord.cmp c.args.peers.now.entries pairs

    us : List (UnitFlight Peer)
    us = in_units c.args.self.now

    subject : End → Flight Peer → Subject Peer
    subject end one = end_subject end (flow_sent g.P.Ord.cmp one.message.value)

    -- the side that is found at an end has what is left there
    left_there : (end : End) (users : List ℕ) (left : Option ℕ)
        → IfSome left (λ left. (one : Flight Peer) (pairs : List (Pair Peer))
        → slice_get c.args.self.now.list.items c.args.at ≡ Some one → IsSideOf g.P.Ord.cmp
        (left_caps g.P.Ord.cmp (caps pairs) c.args.self.now.scale c.args.component.now us)
        (flows_of g.P.Ord.cmp c.args.component.now us) (subject end one) (record { cap = left; users = users }))
        → IfSome left (λ left. (one : Flight Peer) → slice_get c.args.self.now.list.items c.args.at ≡ Some one
        → uses_end g.P.Ord.cmp end one.message.value ≡ true)
        → (left ≡ None → (one : Flight Peer) (pairs : List (Pair Peer))
        → slice_get c.args.self.now.list.items c.args.at ≡ Some one
        → uses_end g.P.Ord.cmp end one.message.value ≡ true → cap_of (caps pairs) (subject end one) ≡ None)
        → left ≡ left_at_end g.P.Ord.cmp (caps pairs) c.args.self.now.scale c.args.component.now us end
        one.message.value
    left_there end users None side uses none =
        none_left g.P.Ord.cmp (caps pairs) c.args.self.now.scale c.args.component.now us (subject end one)
        (uses_end g.P.Ord.cmp end one.message.value) (none refl one pairs there)
    left_there end users (Some left) side uses none =
        sym (ap (λ b. cond b
        (left_of g.P.Ord.cmp (caps pairs) c.args.self.now.scale c.args.component.now us (subject end one)) None)
        (uses one there)
        ∙ sym (cap_left g.P.Ord.cmp (caps pairs) c.args.self.now.scale c.args.component.now us (subject end one))
        ∙ (side one pairs there).capped)
