use Rattle.row_table.proofs.Common.{None, subst, arith, Versions, IsNext, Row, is_received_by}
use Rattle.row_table.proofs.Nexts.{from_first, next_of_owner, next_place, next_within, stands_if}
use Rattle.row_table.proofs.table.RowTable.first_received.Goals as goal

pub returns-then-owner-owners-clause-next : goal.returns-then-owner-owners-clause-next
returns-then-owner-owners-clause-next g c =
    let parts = c.self.inside.parts in
    let owner = c.args.owner in
    subst (λ (v : Versions g.row.T.Denot). IsNext (is_received_by owner) v.now 0 None) c.self.view_is
    (next_place parts.slots.items (is_received_by owner) parts.filled.items 0 0 None None c.self.invariant.0.filled
    (from_first parts.slots.items) tt (λ slot on passed.
    let past = c.if-owner-owners.true in
    let low = c.owners.ensures.all owner slot (stands_if (λ (row : Row g.row.T.Denot). row.receiver) parts.slots.items
    parts.index.received.now.stands owner c.self.invariant.0.found.received slot passed) in
    absurd (omega (arith, past, low))))

pub returns-clause-next : goal.returns-clause-next
returns-clause-next g c =
    let parts = c.self.inside.parts in
    let owner = c.args.owner in
    subst (λ (v : Versions g.row.T.Denot). IsNext (is_received_by owner) v.now 0 c.place.result) c.self.view_is
    (next_place parts.slots.items (is_received_by owner) parts.filled.items 0 0 c.first.result c.place.result c.self.invariant.0.filled
    (from_first parts.slots.items) c.place.ensures
    (next_of_owner (λ (row : Row g.row.T.Denot). row.receiver) parts.slots.items parts.index.received.now.stands owner
    c.self.invariant.0.found.received 0 c.first.result c.first.ensures.first))

pub returns-clause-within : goal.returns-clause-within
returns-clause-within g c = next_within (is_received_by c.args.owner) c.args.self.now.now 0 c.place.result
    (returns-clause-next g c)
