use Rattle.fair_laws.proofs.Network.Alone.{a_flow_alone_has_the_least_cap}
use Rattle.fair_laws.proofs.routes.a_flow_alone_has_the_least_cap.Goals as goal

pub returns : goal.returns
returns c = a_flow_alone_has_the_least_cap
