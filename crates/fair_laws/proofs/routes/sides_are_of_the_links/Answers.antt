use Rattle.fair_routes.proofs.Network.LinkSides.{sides_are_of_the_links}
use Rattle.fair_laws.proofs.routes.sides_are_of_the_links.Goals as goal

pub returns : goal.returns
returns c = sides_are_of_the_links
