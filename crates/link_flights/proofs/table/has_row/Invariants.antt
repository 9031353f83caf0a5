use Rattle.link_flights.proofs.Flights.Rows.{IsWalk, ahead}
use Rattle.row_table.specs.Rows.{is_sent_by, is_received_by}
use Rattle.link_flights.proofs.table.has_row.Given as goal

abbrev pub invariant-loop-sent : goal.invariant-loop-sent
invariant-loop-sent g l =
    IsWalk l.rows.now l.sender l.receiver (is_sent_by l.sender) l.sent
    × IsWalk l.rows.now l.sender l.receiver (is_received_by l.receiver) l.received

abbrev pub decreases-loop-sent : goal.decreases-loop-sent
decreases-loop-sent g l = ahead l.rows.now l.sender l.receiver l.sent
