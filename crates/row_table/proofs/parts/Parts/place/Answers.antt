use Rattle.row_table.proofs.Common.{List, ℕ, Option, Some, IsSome, IfSome, subst, sym, ◌∙◌, held, IsPlaceOf}
use Rattle.row_table.proofs.Slots.{place_found}
use Rattle.row_table.proofs.parts.Parts.place.Goals as goal

pub returns : goal.returns
returns g c =
    let slots = c.args.self.now.slots.items in
    let there = subst (λ (slot : Option ℕ). IfSome slot
    (λ slot. IsSome (held slots slot))) c.in_ok-slot.was c.requires.row in
    let found = place_found slots c.as_slice.result.now c.in_ok-slot.field-0 c.place_of.result
    (c.as_slice.ensures.value ∙ c.requires.stands.filled) there c.place_of.ensures.some c.place_of.ensures.none in
    subst (λ slot. IsPlaceOf c.args.self.now.filled.items slot c.place_of.result) (sym c.in_ok-slot.was)
    (subst (λ (filled : List ℕ). IsPlaceOf filled (Some c.in_ok-slot.field-0) c.place_of.result) c.as_slice.ensures.value found)
