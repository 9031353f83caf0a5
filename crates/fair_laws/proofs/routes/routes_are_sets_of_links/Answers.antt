use Rattle.fair_routes.proofs.Network.Said.{routes_are_sets_of_links}
use Rattle.fair_laws.proofs.routes.routes_are_sets_of_links.Goals as goal

pub returns : goal.returns
returns c = routes_are_sets_of_links
