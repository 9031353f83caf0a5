use Rattle.link_flights.proofs.Common.{◌≡◌, ◌-◌, Bool, false, take, refl, All, sym, subst, All-append, replicate}
use Rattle.link_flights.proofs.Common.{All-take}
use Rattle.std.proofs.Common.{vec_len}
use Rattle.std.proofs.lemmas.List.Elements.{All-replicate}
use Rattle.link_flights.proofs.Flights.Noted.{nowhere_noted}
use Rattle.link_flights.proofs.notes.Notes.take.Goals as goal

abbrev IsNot : Bool → Type 0
IsNot b = b ≡ false

pub returns-clause-none : goal.returns-clause-none
returns-clause-none c =
    let old = c.replace-noted.result in
    let before : All IsNot old.items = subst (λ (v : _). All IsNot v.items) (sym c.replace-noted.ensures.value)
    c.self.invariant in
    nowhere_noted c.resize.new.self.items
    (subst (All IsNot) (sym c.in_ok-resize.ensures.items)
    (All-append IsNot (take c.args.count old.items) (replicate (c.args.count - vec_len old) false)
    (All-take IsNot c.args.count old.items before)
    (All-replicate IsNot (c.args.count - vec_len old) false refl)))
