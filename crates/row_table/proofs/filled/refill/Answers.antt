use Rattle.row_table.proofs.Common.{◌≡◌, ℕ, Bool, true, false, List, [], ◌∷◌, ◌++◌, Option, Some, None, is_some, take}
use Rattle.row_table.proofs.Common.{refl, sym, ap, ◌∙◌, arith, vec_capacity, filled_from, append-nil}
use Rattle.std.proofs.Common.{if◌then◌else◌}
use Rattle.row_table.proofs.Slots.{the_entry, held_is, filled_more, len-filled, length-live_before}
use Rattle.row_table.proofs.filled.refill.Goals as goal
use Rattle.row_table.proofs.filled.refill.Goals.{then-is_some+else-prove, else-is_some}

taken : {A : Type 0} (b : Bool) (x y : A) → true ≡ b → (if b then x else y) ≡ x
taken true x y e = refl
taken false x y e = cc

no_entry : {A : Type 0} (o : Option A) → false ≡ is_some o → o ≡ None
no_entry None e = refl
no_entry (Some a) e = cc

pub prove-unreachable-requires : goal.prove-unreachable-requires
prove-unreachable-requires g c =
    let slots = c.args.slots.now in
    let slot = c.loop-slot.slot in
    let there = ap is_some (held_is slots slot c.index-slots-slot.result (omega arith) c.index-slots-slot.is)
    ∙ sym c.if-is_some.ensures in
    let more = length-live_before slots slot there in
    let len = len-filled c.loop-slot.filled (take slot slots) c.loop-slot.invariant.filled in
    let cleared = c.clear.ensures.capacity in
    let kept = c.loop-slot.invariant.room in
    let room = c.requires in
    let pushed = c.push.ensures.succeeds (omega (arith, more, len, cleared, kept, room)) in
    let failed = c.if-prove.ensures.value in
    cc (pushed, failed)

pub loop-slot-preserved : goal.loop-slot-preserved
loop-slot-preserved g c =
    let slots = c.args.slots.now in
    let slot = c.loop-slot.slot in
    let is = held_is slots slot c.index-slots-slot.result (omega arith) c.index-slots-slot.is in
    elim c.if-is_some.branch [
      | then-is_some+else-prove w ↦
          let found = the_entry c.index-slots-slot.result (sym w.if-is_some.ensures) in
          record {
            filled = ap (λ filled. filled.items) w.filled-is ∙ w.push.ensures.items
                ∙ taken _ _ _ w.if-prove.ensures.value
                ∙ ap (λ (filled : List ℕ). filled ++ slot ∷ []) c.loop-slot.invariant.filled
                ∙ sym (filled_more slots slot (Some found.0) (omega arith) (is ∙ found.1));
            room = (let kept = c.loop-slot.invariant.room in
                let more = w.push.ensures.capacity in
                let new = ap (λ filled. vec_capacity filled) w.filled-is in
                omega (arith, kept, more, new));
          }
      | else-is_some w ↦
          record {
            filled = ap (λ filled. filled.items) w.filled-is ∙ c.loop-slot.invariant.filled
                ∙ sym (filled_more slots slot None (omega arith)
                (is ∙ no_entry c.index-slots-slot.result w.if-is_some.ensures)
                ∙ append-nil (filled_from (take slot slots) 0));
            room = (let kept = c.loop-slot.invariant.room in
                let new = ap (λ filled. vec_capacity filled) w.filled-is in
                omega (arith, kept, new));
          }
    ]
