use Rattle.link_waiting.proofs.Common.{◌≡◌, ℕ, Option, Some, None, refl, sym, ap, ◌∙◌, eqb-true, ◌==◌, true}
use Rattle.link_waiting.proofs.Common.{get_or_from_slice_get}
use Rattle.std.specs.Option.{option_eq}
use Rattle.link_waiting.proofs.Idle.Stands.{told_at, told_already}
use Rattle.link_waiting.proofs.slots.tell.Goals as goal

as_told : (one other : Option ℕ) → option_eq (λ a b. a == b) one other ≡ true → one ≡ other
as_told None None e = refl
as_told None (Some b) e = cc
as_told (Some a) None e = cc
as_told (Some a) (Some b) e = ap Some (eqb-true a b e)

pub returns-then-eq-clause-told : goal.returns-then-eq-clause-told
returns-then-eq-clause-told c =
    told_already c.args.sinces.now.items c.args.pair c.args.moment
    (get_or_from_slice_get c.args.sinces.now.items c.args.pair c.at.result.now None c.at.ensures
    ∙ as_told c.at.result.now c.args.moment (sym c.eq.ensures ∙ c.if-eq.true))

pub returns-clause-told : goal.returns-clause-told
returns-clause-told c =
    rw c.in_ok-set.ensures.items
    (told_at c.args.sinces.now.items c.args.pair c.args.moment c.requires.room)
