use Rattle.link_flights.proofs.Common.{◌&&◌, sym, ap₂, subst, eq-eqb}
use Rattle.row_table.specs.Rows.{is_sent_by, is_received_by}
use Rattle.link_flights.proofs.Flights.Rows.{IsWalk, walk_found, walk_ends}
use Rattle.link_flights.proofs.table.has_row.Goals as goal

pub returns-then-at-receiver : goal.returns-then-at-receiver
returns-then-at-receiver g c =
    let rows = c.args.rows.now.now in
    let owned = is_sent_by c.args.sender in
    sym (walk_found rows c.args.sender c.args.receiver owned c.in-Some.at c.at.result.now
    (subst (IsWalk rows c.args.sender c.args.receiver owned) c.in-Some.is c.loop-sent.invariant.0)
    c.at.ensures (λ sent. ap₂ (λ a b. a && b) sent (eq-eqb _ _ c.if-at-receiver.true)))

pub returns-in_default-received : goal.returns-in_default-received
returns-in_default-received g c =
    let rows = c.args.rows.now.now in
    let owned = is_received_by c.args.receiver in
    sym (walk_ends rows c.args.sender c.args.receiver owned
    (subst (IsWalk rows c.args.sender c.args.receiver owned) c.in_default-received.is c.loop-sent.invariant.1))

pub returns-then-at-sender : goal.returns-then-at-sender
returns-then-at-sender g c =
    let rows = c.args.rows.now.now in
    let owned = is_received_by c.args.receiver in
    sym (walk_found rows c.args.sender c.args.receiver owned c.in-Some-received.other c.at-in-Some.result.now
    (subst (IsWalk rows c.args.sender c.args.receiver owned) c.in-Some-received.is c.loop-sent.invariant.1)
    c.at-in-Some.ensures (λ received. ap₂ (λ a b. a && b) (eq-eqb _ _ c.if-at-sender.true) received))

pub returns : goal.returns
returns g c =
    let rows = c.args.rows.now.now in
    let owned = is_sent_by c.args.sender in
    sym (walk_ends rows c.args.sender c.args.receiver owned
    (subst (IsWalk rows c.args.sender c.args.receiver owned) c.in_default.is c.loop-sent.invariant.0))
