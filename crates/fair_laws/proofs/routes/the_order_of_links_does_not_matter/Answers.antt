use Rattle.fair_routes.proofs.Network.Said.{the_order_of_links_does_not_matter}
use Rattle.fair_laws.proofs.routes.the_order_of_links_does_not_matter.Goals as goal

pub returns : goal.returns
returns c = the_order_of_links_does_not_matter
