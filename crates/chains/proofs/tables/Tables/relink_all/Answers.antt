use Rattle.std.proofs.lemmas.Grind.{common_steps}
use Rattle.chains.proofs.Common.{◌<◌, ◌+◌, sym, ap, ◌∙◌, subst, length, arith, get_or_from_slice_get, Table, now_of}
use Rattle.chains.proofs.Common.{no_link, Stands, rows_in, IsChained, Link}
use Rattle.chains.proofs.Closing.{front, front_all, same_lengths, flag_set, never_empty, owner_within, last_free}
use Rattle.chains.proofs.Closing.{one_more, rows_still}
use Rattle.chains.proofs.tables.Tables.relink_all.Goals as goal

pub loop-row-preserved-in_default : goal.loop-row-preserved-in_default
loop-row-preserved-in_default c =
    let start : Table = now_of c.args.self.now in
    let t : Table = now_of c.loop-row.self in
    let row = c.loop-row.row in
    let is = ap (λ (link : Link). link.owner) (get_or_from_slice_get t.links row c.at.result.now no_link c.at.ensures)
    ∙ sym c.get.ensures in
    let low : row < length start.links = omega (arith, c.loop-row-test.true, c.len-row-end.ensures.items) in
    absurd (never_empty start t row c.requires.filled c.loop-row.invariant.rows low (is ∙ c.in_default.is))

pub relink-requires-clause-owner : goal.relink-requires-clause-owner
relink-requires-clause-owner c =
    let start : Table = now_of c.args.self.now in
    let t : Table = now_of c.loop-row.self in
    let row = c.loop-row.row in
    let low : row < length start.links = omega (arith, c.loop-row-test.true, c.len-row-end.ensures.items) in
    let there : Stands t c.in-Some.owner row =
    ap (λ (link : Link). link.owner) (get_or_from_slice_get t.links row c.at.result.now no_link c.at.ensures)
    ∙ sym c.get.ensures ∙ c.in-Some.is in
    owner_within start t row c.requires.filled c.loop-row.invariant.rows low c.in-Some.owner there

pub relink-requires-clause-row : goal.relink-requires-clause-row
relink-requires-clause-row c = grind (arith, common_steps, same_lengths)

pub relink-requires-clause-free_end : goal.relink-requires-clause-free_end
relink-requires-clause-free_end c = grind (arith, common_steps, relink-requires-clause-owner, flag_set, same_lengths)

pub relink-requires-clause-free_row : goal.relink-requires-clause-free_row
relink-requires-clause-free_row c = grind (arith, common_steps, flag_set)

pub relink-requires-clause-free_last : goal.relink-requires-clause-free_last
relink-requires-clause-free_last c =
    let start : Table = now_of c.args.self.now in
    let t : Table = now_of c.loop-row.self in
    let row = c.loop-row.row in
    let low : row < length start.links = omega (arith, c.loop-row-test.true, c.len-row-end.ensures.items) in
    let there : Stands t c.in-Some.owner row =
    ap (λ (link : Link). link.owner) (get_or_from_slice_get t.links row c.at.result.now no_link c.at.ensures)
    ∙ sym c.get.ensures ∙ c.in-Some.is in
    last_free start t row c.requires.filled c.loop-row.invariant.rows low c.in-Some.owner (length start.links)
    c.loop-row.self.links.saved there c.loop-row.invariant.chained (c.loop-row.invariant.links ∙ c.requires.links) (omega arith)

pub loop-row-preserved : goal.loop-row-preserved
loop-row-preserved c =
    let start : Table = now_of c.args.self.now in
    let t : Table = now_of c.loop-row.self in
    let row = c.loop-row.row in
    let low : row < length start.links = omega (arith, c.loop-row-test.true, c.len-row-end.ensures.items) in
    let there : Stands t c.in-Some.owner row =
    ap (λ (link : Link). link.owner) (get_or_from_slice_get t.links row c.at.result.now no_link c.at.ensures)
    ∙ sym c.get.ensures ∙ c.in-Some.is in
    record {
      links = c.relink.ensures.links ∙ c.loop-row.invariant.links;
      ends = c.relink.ensures.ends ∙ c.loop-row.invariant.ends;
      rows =
          ap rows_in c.relink.ensures.now
          ∙ rows_still start t row c.requires.filled c.loop-row.invariant.rows low c.in-Some.owner there;
      chained = subst (λ (s : Table). IsChained (front (row + 1) s)) (sym c.relink.ensures.now)
          (one_more start t row c.requires.filled c.loop-row.invariant.rows low c.in-Some.owner there c.loop-row.invariant.chained);
    }

pub returns-clause-chained : goal.returns-clause-chained
returns-clause-chained c = grind (arith, common_steps, same_lengths, front_all)
