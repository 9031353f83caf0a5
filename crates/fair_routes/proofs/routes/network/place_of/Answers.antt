use Rattle.fair_routes.proofs.Common.{◌≡◌, Some, ℕ, sym, subst, Option, ◌↔◌}
use Rattle.std.proofs.Common.{slice_get}
use Rattle.fair_routes.proofs.Network.Told.{found_place}
use Rattle.fair_routes.proofs.routes.network.place_of.Goals as goal

pub returns : goal.returns
returns c =
    subst (λ (o : Option ℕ). (place : ℕ) → (o ≡ Some place) ↔ (slice_get c.args.links.now place ≡ Some c.args.link))
    (sym c.ok.ensures.value)
    (found_place c.args.links.now c.requires c.args.link c.binary_search.result c.binary_search.ensures.position)
