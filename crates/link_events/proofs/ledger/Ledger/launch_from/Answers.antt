use Rattle.link_events.proofs.Common.{List, sym, ◌∙◌, subst, arith, Arc, Global, goes, meets, Planned, Launches}
use Rattle.link_events.proofs.Common.{first_of, planned, messages}
use Rattle.link_pairs.specs.declared.message.Message as code
use Rattle.link_simulation.proofs.Simulation.RefusalCauses.{memory_refuses}
use Rattle.link_waiting.proofs.Idle.Starting.{not_started, no_more_ids, launched_so}
use Rattle.link_events.proofs.Steps.Through.{idle_first, launched_through}
use Rattle.link_events.proofs.ledger.Ledger.launch_from.Goals as goal

pub returns-then-not-may_launch-clause-launches : goal.returns-then-not-may_launch-clause-launches
returns-then-not-may_launch-clause-launches g c =
    let p : Planned g.row.P.Denot = planned g.P.Ord.cmp c.args.self.now in
    subst
    (λ (items : List (Arc (code.Message g.row.P.Denot) Global)). Launches g.P.Ord.cmp c.args.now p
    (first_of g.P.Ord.cmp p.waiting c.args.origin.now c.args.recipient.now) (goes (messages items) p))
    (sym c.new.ensures.items)
    (not_started g.P.Ord.cmp g.met.P.Ord.total c.args.now p _ (sym c.may_launch.ensures ∙ c.if-not-may_launch.true))

pub returns-then-self-clause-refused : goal.returns-then-self-clause-refused
returns-then-self-clause-refused g c =
    no_more_ids g.P.Ord.cmp g.met.P.Ord.total c.args.now (planned g.P.Ord.cmp c.args.self.now) _
    (sym c.may_launch.ensures ∙ c.if-not-may_launch.false) (omega arith)

pub let_through-requires-clause-first : goal.let_through-requires-clause-first
let_through-requires-clause-first g c = c.next_is_unlimited.ensures c.if-next_is_unlimited.true

pub let_through-requires-clause-idle : goal.let_through-requires-clause-idle
let_through-requires-clause-idle g c =
    let h = c.next_is_unlimited.ensures c.if-next_is_unlimited.true in
    idle_first g.P.Ord.cmp g.met.P.Ord.total c.args.now (planned g.P.Ord.cmp c.args.self.now) c.args.origin.now
    c.args.recipient.now (sym c.may_launch.ensures ∙ c.if-not-may_launch.false) h.message h.first

pub returns-then-next_is_unlimited-clause-launches : goal.returns-then-next_is_unlimited-clause-launches
returns-then-next_is_unlimited-clause-launches g c =
    launched_through g.P.Ord.cmp g.met.P.Ord.total c.args.now (planned g.P.Ord.cmp c.args.self.now) c.args.origin.now
    c.args.recipient.now (sym c.may_launch.ensures ∙ c.if-not-may_launch.false) (λ leavers. messages leavers.items)
    c.let_through.result (planned g.P.Ord.cmp c.let_through.new.self) (omega arith) c.let_through.ensures.accounts

pub returns-then-next_is_unlimited-clause-refused : goal.returns-then-next_is_unlimited-clause-refused
returns-then-next_is_unlimited-clause-refused g c =
    let p : Planned g.row.P.Denot = planned g.P.Ord.cmp c.args.self.now in
    memory_refuses (λ e. Launches g.P.Ord.cmp c.args.now p (first_of g.P.Ord.cmp p.waiting c.args.origin.now
    c.args.recipient.now) (meets e)) c.let_through.result c.let_through.ensures.refused

pub returns-clause-launches : goal.returns-clause-launches
returns-clause-launches g c =
    let d = c.in_ok-depart.ensures.departed in
    launched_so g.P.Ord.cmp g.met.P.Ord.total c.args.now (planned g.P.Ord.cmp c.args.self.now)
    (planned g.P.Ord.cmp c.depart.new.self) c.args.origin.now c.args.recipient.now d.message
    (sym c.may_launch.ensures ∙ c.if-not-may_launch.false) (omega arith) d.first d.is
    (λ leavers. messages leavers.items) c.account.result (planned g.P.Ord.cmp c.account.new.self)
    c.account.ensures.accounts

pub returns-clause-refused : goal.returns-clause-refused
returns-clause-refused g c =
    let p : Planned g.row.P.Denot = planned g.P.Ord.cmp c.args.self.now in
    memory_refuses (λ e. Launches g.P.Ord.cmp c.args.now p (first_of g.P.Ord.cmp p.waiting c.args.origin.now
    c.args.recipient.now) (meets e)) c.account.result c.account.ensures.refused
