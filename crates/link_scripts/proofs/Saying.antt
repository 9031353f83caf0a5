-- What is said stays said.
use Rattle.link_scripts.proofs.Common.{◌∙◌, Result, Ok, Err, OnOk, OnErr, Error, Answer, Session, SaysSame}
use Rattle.link_scripts.proofs.Common.{KeepsPlanned}

-- what stays said twice stays said
pub says_same_on : (a b c : Session) → SaysSame a b → SaysSame b c → SaysSame a c
says_same_on a b c (first, told) (then, told_then) = (
  record {
    flows_are = then.flows_are ∙ first.flows_are;
    egress_is = λ peer. then.egress_is peer ∙ first.egress_is peer;
    ingress_is = λ peer. then.ingress_is peer ∙ first.ingress_is peer;
    link_is = λ origin recipient. then.link_is origin recipient ∙ first.link_is origin recipient;
  },
  record {
    routes_are = λ flow. told_then.routes_are flow ∙ told.routes_are flow;
    caps_are = λ link. told_then.caps_are link ∙ told.caps_are link;
    weights_are = λ flow. told_then.weights_are flow ∙ told.weights_are flow;
  },
)

-- a call changes nothing that is said, whether it is made or refused
pub says_same_after_call : (old new : Session) (result : Result Answer Error) → OnOk result (SaysSame old new)
    → OnErr result (SaysSame old new × KeepsPlanned old new) → SaysSame old new
says_same_after_call old new (Ok answer) said kept = said
says_same_after_call old new (Err why) said kept = kept.0
