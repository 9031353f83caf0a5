use Rattle.link_simulation.proofs.Common.{call_limit, call_limit_link, call_enqueue, call_advance, call_enqueue_all}
use Rattle.link_simulation.proofs.Common.{call_next, same_limit, same_limit_link, same_enqueue, same_enqueue_all}
use Rattle.link_simulation.proofs.Common.{same_advance, same_next, SameMessage, zip-same}
use Rattle.link_simulation.proofs.Simulation.AlikeMessages.{same_itself, message_itself}
use Rattle.link_laws.proofs.model.same.a_call_is_the_same_as_itself.Goals as goal

pub returns : goal.returns
returns g c (call_limit now peer egress ingress) = same_limit (same_itself g.P.Ord.cmp g.met.P.Ord.total peer)
returns g c (call_limit_link now origin recipient cap) =
    same_limit_link (same_itself g.P.Ord.cmp g.met.P.Ord.total origin)
    (same_itself g.P.Ord.cmp g.met.P.Ord.total recipient)
returns g c (call_enqueue now m) = same_enqueue (message_itself g.P.Ord.cmp g.met.P.Ord.total m)
returns g c (call_enqueue_all now ms) =
    same_enqueue_all (zip-same (SameMessage g.P.Ord.cmp) (message_itself g.P.Ord.cmp g.met.P.Ord.total) ms)
returns g c (call_advance now) = same_advance
returns g c call_next = same_next
