use Rattle.row_table.proofs.Common.{common_steps, ◌≡◌, ◌≤◌, ◌∙◌, map, Some, List, Option, refl, sym, subst, ap, length}
use Rattle.row_table.proofs.Common.{arith, vec_capacity, live, filled_from, moment_of, Finds, Row, Parts, length-map}
use Rattle.row_table.proofs.Slots.{live_filter, live_whole, length-live, room_for}
use Rattle.row_table.proofs.Finding.{found_closed, stands_whole, marked_now}
use Rattle.row_table.proofs.parts.Parts.commit.Given as given
use Rattle.row_table.proofs.parts.Parts.commit.Goals as goal

module _ (g : given.Over) (c : goal.After-refill g) where
  closed_up : c.commit_kept.new.self.items ≡ map Some (live c.args.self.now.slots.items)
  closed_up = grind (arith, common_steps, live_filter)

  live_same : live c.commit_kept.new.self.items ≡ live c.args.self.now.slots.items
  live_same = grind (arith, common_steps, closed_up, live_whole)

  finds : Finds c.close_gaps.new.self (map Some (live c.args.self.now.slots.items))
  finds = found_closed c.args.self.now.index c.close_gaps.new.self c.args.self.now.slots.items c.requires.found
      c.close_gaps.ensures.sent c.close_gaps.ensures.received
      (c.close_gaps.ensures.moments
      ∙ ap (λ (slots : List (Option (Row g.row.T.Denot))). map moment_of slots) (c.as_slice.ensures ∙ closed_up))

  filled_again : c.refill.new.filled.items ≡ filled_from c.commit_kept.new.self.items 0
  filled_again = grind (arith, common_steps)

pub close_gaps-requires : goal.close_gaps-requires
close_gaps-requires g c =
    let slots : List (Option (Row g.row.T.Denot)) = c.args.self.now.slots.items in
    let closed = ap length (c.as_slice.ensures ∙ c.commit_kept.ensures.items ∙ live_filter slots)
    ∙ length-map (live slots) Some in
    let few = length-live slots in
    let long = ap length c.requires.found.moments ∙ length-map slots moment_of in
    omega (arith, closed, few, long)

pub refill-requires : goal.refill-requires
refill-requires g c =
    let slots : List (Option (Row g.row.T.Denot)) = c.args.self.now.slots.items in
    let closed = c.commit_kept.ensures.items ∙ live_filter slots in
    subst (λ (rows : List (Row g.row.T.Denot)). length rows ≤ vec_capacity c.args.self.now.filled)
    (sym (ap (λ (slots : List (Option (Row g.row.T.Denot))). live slots)
    (c.as_slice-then-has_many_gaps.ensures ∙ closed)
    ∙ live_whole (live slots)))
    (room_for c.args.self.now.filled slots c.requires.filled)

pub returns-then-has_many_gaps-clause-rows : goal.returns-then-has_many_gaps-clause-rows
returns-then-has_many_gaps-clause-rows g c = live_same g c

pub returns-then-has_many_gaps-clause-stands : goal.returns-then-has_many_gaps-clause-stands
returns-then-has_many_gaps-clause-stands g c =
    stands_whole _ (live c.args.self.now.slots.items) (closed_up g c) (finds g c) (filled_again g c)

pub returns-then-has_many_gaps-clause-marked : goal.returns-then-has_many_gaps-clause-marked
returns-then-has_many_gaps-clause-marked g c =
    let new : Parts g.row.T.Denot = record {
      slots = c.commit_kept.new.self;
      filled = c.refill.new.filled;
      guesses = c.refill.new.guesses;
      index = c.close_gaps.new.self;
      close_at = c.saturating_add-self.result;
    } in
    marked_now new new (returns-then-has_many_gaps-clause-stands g c) c.commit_kept.ensures.before c.close_gaps.ensures.sent_before
    c.close_gaps.ensures.received_before refl (room_for c.refill.new.filled c.commit_kept.new.self.items
    (filled_again g c))

pub returns-clause-marked : goal.returns-clause-marked
returns-clause-marked g c =
    marked_now c.args.self.now _ c.requires c.commit.ensures.before c.commit-2.ensures.sent_before c.commit-2.ensures.received_before
    c.commit-2.ensures.moments (room_for c.args.self.now.filled c.args.self.now.slots.items c.requires.filled)
