use Rattle.link_flights.proofs.Common.{◌≡◌, ◌<◌, suc, ◌+◌, true, false, get_or, length, drop, ◌∙◌, subst, arith, refl}
use Rattle.link_flights.proofs.Common.{length-set, In, in_from_contains, slice_get_within}
use Rattle.std.proofs.Math.Seq.{drop-cons}
use Rattle.std.proofs.lemmas.List.{drop_all}
use Rattle.link_flights.proofs.Flights.Noted.{noted_but_one, none_left_noted}
use Rattle.link_flights.proofs.notes.Notes.give_back.Goals as goal

pub loop-at-init : goal.loop-at-init
loop-at-init c = (λ p is. in_from_contains c.args.near.now p (c.requires.listed p is), refl)

pub loop-at-preserved : goal.loop-at-preserved
loop-at-preserved c =
    let noted = c.loop-at.noted.items in
    let near = c.args.near.now in
    let at = get_or near c.loop-at.at-index 0 in
    let within : at < length noted =
    omega (
      arith,
      slice_get_within c.args.noted.items at true
          (c.requires.only c.loop-at.at-index 0 c.loop-at-test.true),
      c.loop-at.invariant.1,
    ) in
    let next : suc c.loop-at.at-index ≡ c.loop-at.at-index + 1 = omega arith in
    let rest = drop-cons near c.loop-at.at-index 0 c.loop-at-test.true in (
      λ p is. subst (λ k. In (drop k near) p) next
          (noted_but_one noted at (drop (suc c.loop-at.at-index) near) within
          (λ q has. subst (λ places. In places q) rest (c.loop-at.invariant.0 q has)) p is),
      length-set noted at false ∙ c.loop-at.invariant.1,
    )

pub index_mut-requires : goal.index_mut-requires
index_mut-requires c =
    omega (
      arith,
      slice_get_within c.args.noted.items (get_or c.args.near.now c.loop-at.at-index 0) true
          (c.requires.only c.loop-at.at-index 0 c.loop-at-test.true),
      c.loop-at.invariant.1,
    )

pub invariant_of-self : goal.invariant_of-self
invariant_of-self c =
    none_left_noted c.loop-at.noted.items (λ p is.
    subst (λ places. In places p) (drop_all c.loop-at.at-index c.args.near.now c.loop-at-test.false)
    (c.loop-at.invariant.0 p is))
