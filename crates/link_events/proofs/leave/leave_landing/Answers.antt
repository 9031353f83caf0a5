use Rattle.link_events.proofs.Common.{[], refl, sym, ◌∙◌, Planned, is_spent, rated_messages, in_flight, messages}
use Rattle.link_events.proofs.Common.{caps_of, arrivals_looked_up, of_pairs, alike_from, since_of}
use Rattle.link_events.proofs.Steps.OneEach.{one_if_so}
use Rattle.link_events.proofs.Steps.Landing.{done_apart, index_after, others_after, since_alike}
use Rattle.link_events.proofs.leave.leave_landing.Goals as goal

pub returns-clause-idle : goal.returns-clause-idle
returns-clause-idle g c =
    let cmp = g.P.Ord.cmp in
    let old = c.args.flights.now in
    let known = c.land_first.new.pairs.entries in
    let waiting = c.args.waiting.now.messages in
    let alone : Planned g.row.P.Denot = of_pairs cmp known waiting [] in
    let beside : Planned g.row.P.Denot = of_pairs cmp known waiting (in_flight c.part.new.flights) in
    rw c.in_ok-since.ensures.messages
    (c.in_ok-since.ensures.first
    ∙ since_alike cmp g.met.P.Ord.total alone beside (messages c.in_ok-done.done.items)
    (λ a b some. sym (alike_from cmp alone beside a b
    (done_apart cmp g.met.P.Ord.total c.args.now c.args.pairs.now.entries waiting
    (is_spent cmp (caps_of cmp c.args.peers.now.entries c.args.pairs.now.entries)) (in_flight old)
    (in_flight c.part.new.flights) (messages c.in_ok-done.done.items) (since_of cmp c.args.waiting.now.told)
    (one_if_so cmp (rated_messages (in_flight old)) c.requires.one_each) c.requires.indexed
    c.in_ok-done.ensures.parted.left c.in_ok-done.ensures.parted.stays a b some) refl refl)))

pub returns-clause-indexed : goal.returns-clause-indexed
returns-clause-indexed g c =
    let cmp = g.P.Ord.cmp in
    let old = c.args.flights.now in
    let known = c.land_first.new.pairs.entries in
    rw c.in_ok-since.ensures.messages
    (index_after cmp g.met.P.Ord.total c.args.now c.args.pairs.now.entries c.args.waiting.now.messages
    (is_spent cmp (caps_of cmp c.args.peers.now.entries c.args.pairs.now.entries)) (in_flight old)
    (in_flight c.part.new.flights) (messages c.in_ok-done.done.items) (since_of cmp c.args.waiting.now.told)
    (one_if_so cmp (rated_messages (in_flight old)) c.requires.one_each) c.requires.indexed
    c.in_ok-done.ensures.parted.left c.in_ok-done.ensures.parted.stays known (since_of cmp c.tell_all.new.waiting.told)
    (arrivals_looked_up cmp g.met.P.Ord.total known)
    (others_after cmp g.met.P.Ord.total c.args.now c.args.pairs.now.entries known (messages c.in_ok-done.done.items)
    c.in_ok-deliver_at.deliver_at c.in_ok-deliver_at.ensures.lands)
    c.in_ok-since.ensures.at_rest)
