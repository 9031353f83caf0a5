use Rattle.link_events.proofs.Common.{refl, is_spent, rated_messages, in_flight, messages, caps_of, arrivals_looked_up}
use Rattle.link_events.proofs.Common.{since_of}
use Rattle.link_events.proofs.Steps.OneEach.{one_if_so}
use Rattle.link_events.proofs.Steps.Landing.{index_after}
use Rattle.link_events.proofs.leave.leave.Goals as goal

pub returns-clause-indexed : goal.returns-clause-indexed
returns-clause-indexed g c =
    let cmp = g.P.Ord.cmp in
    let old = c.args.flights.now in
    rw c.in_ok-tell_all.ensures.messages
    (index_after cmp g.met.P.Ord.total c.args.now c.args.pairs.now.entries c.args.waiting.now.messages
    (is_spent cmp (caps_of cmp c.args.peers.now.entries c.args.pairs.now.entries)) (in_flight old)
    (in_flight c.part.new.flights) (messages c.in_ok-done.done.items) (since_of cmp c.args.waiting.now.told)
    (one_if_so cmp (rated_messages (in_flight old)) c.requires.one_each) c.requires.indexed
    c.in_ok-done.ensures.parted.left c.in_ok-done.ensures.parted.stays
    c.args.pairs.now.entries (since_of cmp c.tell_all.new.waiting.told)
    (arrivals_looked_up cmp g.met.P.Ord.total c.args.pairs.now.entries) (λ a b none. refl)
    c.in_ok-tell_all.ensures.at_rest)
