use Rattle.link_events.proofs.Common.{arith, is_none, second_of_both, idle_if_may, first_of, message_of, messages}
use Rattle.link_events.proofs.Common.{planned}
use Rattle.link_waiting.proofs.Idle.Starting.{started_so, no_id_left}
use Rattle.link_events.proofs.ledger.Ledger.start_at_once.Goals as goal

pub returns-then-self-lt18446744073709551615-clause-launches : goal.returns-then-self-lt18446744073709551615-clause-launches
returns-then-self-lt18446744073709551615-clause-launches g c =
    started_so g.P.Ord.cmp g.met.P.Ord.total c.args.now (planned g.P.Ord.cmp c.args.self.now)
    (message_of c.args.message) c.requires
    (λ leavers. messages leavers.items) c.account.result (planned g.P.Ord.cmp c.start.new.self)
    (planned g.P.Ord.cmp c.account.new.self) (omega arith) c.in_ok-start.ensures.started c.account.ensures.accounts

pub returns-clause-refused : goal.returns-clause-refused
returns-clause-refused g c =
    no_id_left g.P.Ord.cmp g.met.P.Ord.total c.args.now (planned g.P.Ord.cmp c.args.self.now)
    (message_of c.args.message) c.requires (omega arith)

pub start-requires-clause-idle : goal.start-requires-clause-idle
start-requires-clause-idle g c =
    idle_if_may g.P.Ord.cmp g.met.P.Ord.total c.args.now (planned g.P.Ord.cmp c.args.self.now)
    (message_of c.args.message)
    (second_of_both
    (is_none
    (first_of g.P.Ord.cmp (planned g.P.Ord.cmp c.args.self.now).waiting c.args.message.origin c.args.message.recipient))
    _ c.requires)
