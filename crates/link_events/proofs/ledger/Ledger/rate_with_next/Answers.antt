use Rattle.link_events.proofs.Common.{sym, ◌∙◌, subst, List, err_from_is_err_and, Arc, Global, Message, goes, meets}
use Rattle.link_events.proofs.Common.{Planned, next_of, Launches, landed, account_of, refused_memory, message_of, messages}
use Rattle.link_events.proofs.Common.{planned}
use Rattle.link_pairs.specs.declared.message.Message as code
use Rattle.link_events.proofs.Steps.RatedWithNext.{leaves_landed, idle_rated, launched_rated, refused_rated}
use Rattle.link_events.proofs.Steps.Settling.{if_ok, if_err}
use Rattle.link_events.proofs.ledger.Ledger.rate_with_next.Goals as goal

pub launch_from-requires : goal.launch_from-requires
launch_from-requires g c =
    let cmp = g.P.Ord.cmp in
    let order = g.met.P.Ord.total in
    let there = planned cmp c.args.self.now in
    let m : Message g.row.P.Denot = message_of c.args.message.now in
    let r = c.requires.left in
    let lv = leaves_landed cmp order c.args.now r.0 r.1 there m r.2 r.3 r.4 in
    let a = c.in_ok-starts.ensures.waits c.if-starts.false (landed cmp c.args.now r.0 m) r.2 lv in
    c.requires.idle
    ∙ idle_rated cmp order c.args.now (landed cmp c.args.now r.0 m) there (planned cmp c.rate_starting_next.new.self) r.2
    lv a c.args.message.now.origin c.args.message.now.recipient

pub returns-clause-launches : goal.returns-clause-launches
returns-clause-launches g c =
    let cmp = g.P.Ord.cmp in
    let order = g.met.P.Ord.total in
    let there = planned cmp c.args.self.now in
    let m : Message g.row.P.Denot = message_of c.args.message.now in
    let new : Planned g.row.P.Denot = planned cmp c.launch_from.new.self in
    if_ok c.launch_from.result (λ more launch old here ls lv is.
    launched_rated cmp order c.args.now old (planned cmp c.rate_starting_next.new.self) m ls
    (goes (messages more.items) new)
    (c.in_ok-starts.ensures.waits c.if-starts.false (landed cmp c.args.now old m) ls
    (leaves_landed cmp order c.args.now old here there m ls lv is)) launch) c.launch_from.ensures.launches

pub returns-clause-refused : goal.returns-clause-refused
returns-clause-refused g c =
    let cmp = g.P.Ord.cmp in
    let order = g.met.P.Ord.total in
    let there = planned cmp c.args.self.now in
    let m : Message g.row.P.Denot = message_of c.args.message.now in
    if_err c.launch_from.result (λ e refused old here ls lv is.
    refused_rated cmp order c.args.now old (planned cmp c.rate_starting_next.new.self) m ls e
    (c.in_ok-starts.ensures.waits c.if-starts.false (landed cmp c.args.now old m) ls
    (leaves_landed cmp order c.args.now old here there m ls lv is)) refused) c.launch_from.ensures.refused

pub returns-then-starts-clause-launches : goal.returns-then-starts-clause-launches
returns-then-starts-clause-launches g c = λ old here ls lv is.
    let cmp = g.P.Ord.cmp in
    let m : Message g.row.P.Denot = message_of c.args.message.now in
    let one = c.in_ok-starts.ensures.starts c.if-starts.true old here ls lv is in (
      one.0,
      one.1,
      subst (λ (items : List (Arc (code.Message g.row.P.Denot) Global)). Launches cmp c.args.now
          (landed cmp c.args.now one.0 m) (next_of cmp one.0 m)
          (goes (messages items) (planned cmp c.rate_starting_next.new.self))) (sym c.new.ensures.items) one.2,
    )

pub returns-in_err-starts-clause-refused : goal.returns-in_err-starts-clause-refused
returns-in_err-starts-clause-refused g c =
    let p = err_from_is_err_and c.from_residual.result c.from_residual.ensures.1 in
    let cmp = g.P.Ord.cmp in
    let m : Message g.row.P.Denot = message_of c.args.message.now in
    rw (p.1, p.2) (λ old here ls lv is.
    let mid = account_of cmp g.met.P.Ord.total c.args.now old here ls lv in (
      mid.0,
      mid.1,
      refused_memory (λ fault. Launches cmp c.args.now (landed cmp c.args.now mid.0 m) (next_of cmp mid.0 m)
          (meets fault)) _ c.in_err-starts.ensures.refused,
    ))
