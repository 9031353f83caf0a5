use Rattle.link_flights.proofs.Common.{◌≡◌, ◌<◌, ◌+◌, true, false, Some, length, slice_get, subst, sym, ap, ◌∙◌, arith}
use Rattle.link_flights.proofs.Common.{slice_get-get_or}
use Rattle.link_flights.proofs.Flights.Noted.{AreListedUpTo, one_more_noted, none_more_noted}
use Rattle.link_flights.proofs.component.list_again.Goals.{then-noted-at+in_ok-push, else-noted-at}
use Rattle.link_flights.proofs.component.list_again.Goals as goal

pub loop-at-preserved : goal.loop-at-preserved
loop-at-preserved c =
    let noted = c.args.noted.now in
    let at = c.loop-at.at in
    let places = c.loop-at.places.items in
    let inside : at < length noted = omega (arith, c.loop-at-test.true) in
    elim c.if-noted-at.branch [
      | then-noted-at+in_ok-push w ↦
          let here : slice_get noted at ≡ Some true =
          slice_get-get_or noted at false inside ∙ ap Some w.if-noted-at.true in
          subst (λ (x : _). AreListedUpTo noted (at + 1) x.items) (sym w.places-is)
          (subst (AreListedUpTo noted (at + 1)) (sym w.in_ok-push.ensures.items)
          (one_more_noted noted at places c.loop-at.invariant here))
      | else-noted-at w ↦
          let here : slice_get noted at ≡ Some false =
          slice_get-get_or noted at false inside ∙ ap Some w.if-noted-at.false in
          subst (λ (x : _). AreListedUpTo noted (at + 1) x.items) (sym w.places-is)
          (none_more_noted noted at places c.loop-at.invariant here)
    ]
