use Rattle.link_events.proofs.Common.{◌∙◌, and_from, message_of, messages, Launches, with_queued, rated_messages}
use Rattle.link_events.proofs.Common.{Message, IsRefusedFor, goes, meets, any_like, planned}
use Rattle.link_events.proofs.Steps.Settling.{if_ok, if_err, of_message}
use Rattle.link_events.proofs.ledger.Ledger.launch_sent.Goals as goal

pub queue_up-requires-clause-busy : goal.queue_up-requires-clause-busy
queue_up-requires-clause-busy g c =
    let p = planned g.P.Ord.cmp c.args.self.now in
    let m : Message g.row.P.Denot = message_of c.args.message in
    let n : Message g.row.P.Denot =
    record m { origin = c.in_ok-pair.pair.origin; recipient = c.in_ok-pair.pair.recipient } in
    any_like g.P.Ord.cmp g.met.P.Ord.total m n (rated_messages p.sending)
    (and_from _ _ c.in_ok-pair.ensures.origin c.in_ok-pair.ensures.recipient) ∙ c.requires

pub launch_from-requires : goal.launch_from-requires
launch_from-requires g c = c.in_ok-since.ensures.idle

pub returns-clause-launches : goal.returns-clause-launches
returns-clause-launches g c =
    let m = message_of c.args.message in
    if_ok c.launch_from.result (λ leavers.
    of_message g.P.Ord.cmp g.met.P.Ord.total
    (λ q first. Launches g.P.Ord.cmp c.args.now q first
    (goes (messages leavers.items) (planned g.P.Ord.cmp c.launch_from.new.self)))
    (planned g.P.Ord.cmp c.queue_up.new.self) (with_queued g.P.Ord.cmp (planned g.P.Ord.cmp c.args.self.now) m)
    c.in_ok-pair.pair m c.in_ok-since.ensures.queued
    (record { origin = c.in_ok-pair.ensures.origin; recipient = c.in_ok-pair.ensures.recipient }))
    c.launch_from.ensures.launches

pub returns-clause-refused : goal.returns-clause-refused
returns-clause-refused g c =
    let m = message_of c.args.message in
    if_err c.launch_from.result (λ why.
    of_message g.P.Ord.cmp g.met.P.Ord.total
    (λ q first. IsRefusedFor (λ fault. Launches g.P.Ord.cmp c.args.now q first (meets fault)) why)
    (planned g.P.Ord.cmp c.queue_up.new.self) (with_queued g.P.Ord.cmp (planned g.P.Ord.cmp c.args.self.now) m)
    c.in_ok-pair.pair m c.in_ok-since.ensures.queued
    (record { origin = c.in_ok-pair.ensures.origin; recipient = c.in_ok-pair.ensures.recipient }))
    c.launch_from.ensures.refused
