use Rattle.link_flights.proofs.Common.{◌≡◌, Some, true, slice_get, All-contains}
use Rattle.std.proofs.lemmas.Result.{IfOk-weaker}
use Rattle.link_flights.proofs.component.put_in_order.Goals as goal

pub returns-clause-still : goal.returns-clause-still
returns-clause-still c =
    IfOk-weaker c.list_again.result _ _
    (λ done listed at was. listed at (All-contains (λ k. slice_get c.args.noted.now k ≡ Some true)
    c.args.places.now.items at c.requires.noted.only was))
    c.list_again.ensures.listed

pub returns-clause-only : goal.returns-clause-only
returns-clause-only c =
    IfOk-weaker c.list_again.result _ _
    (λ done only at is. c.requires.noted.listed at (All-contains (λ k. slice_get c.args.noted.now k ≡ Some true)
    c.list_again.new.places.items at only is))
    c.list_again.ensures.only
