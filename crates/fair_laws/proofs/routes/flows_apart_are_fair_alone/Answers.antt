use Rattle.fair_laws.proofs.Network.Apart.{flows_apart_are_fair_alone}
use Rattle.fair_laws.proofs.routes.flows_apart_are_fair_alone.Goals as goal

pub returns : goal.returns
returns c = flows_apart_are_fair_alone
