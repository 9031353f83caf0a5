use Rattle.link_flights.proofs.Common.{true, slice_set, subst, sym, AreNoted}
use Rattle.link_flights.proofs.Flights.Noted.{noted_with_one}
use Rattle.link_flights.proofs.component.list.Goals as goal

pub returns-clause-noted : goal.returns-clause-noted
returns-clause-noted c =
    let places = c.args.places.now.items in
    let noted = c.args.noted.now.items in
    subst (λ l. AreNoted l (slice_set noted c.args.at true)) (sym c.in_ok-push.ensures.items)
    (noted_with_one places noted c.args.at c.requires.within c.requires.noted)
