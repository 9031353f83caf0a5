-- Planned worlds that are the same up to equal peers are in order alike.
use Rattle.link_simulation.proofs.Common.{arith, ◌∙◌, SameMessage, IsSameRatedFlight, Ordering, IsTotalOrder, Completed}
use Rattle.link_simulation.proofs.Common.{List, Call, Planned, rated_messages, IsSamePlanned, GoesByRule, IsOrderly}
use Rattle.link_simulation.proofs.Laws.Orderly.{obeys_orderly}
use Rattle.link_simulation.proofs.Rule.SamePlanned.{pairs_turned, pairs_chain, caps_turned, caps_chain}
use Rattle.link_simulation.proofs.Rule.SameSteps.{none_same, flows_same}
use Rattle.link_simulation.proofs.Rule.SameStands.{rated_same, one_each_same, order_same}

module _ {P : Type 0} (cmp : P → P → Ordering) (order : IsTotalOrder cmp) where
  pub orderly_same : (p q : Planned P) → IsSamePlanned cmp p q → IsOrderly cmp p → IsOrderly cmp q
  orderly_same p q same h = record {
    rated = rated_same cmp order p q same h.rated;
    one_each =
        one_each_same cmp order (rated_messages p.sending) (rated_messages q.sending)
        (flows_same cmp order p.sending q.sending same.sending) h.one_each;
    pair_order = order_same cmp order p.waiting q.waiting same.waiting h.pair_order;
    empty_at_first = λ free.
        let empty = h.empty_at_first (same.limited ∙ free) in (
          none_same (IsSameRatedFlight cmp) p.sending q.sending same.sending empty.0,
          none_same (SameMessage cmp) p.waiting q.waiting same.waiting empty.1,
        );
    caps = caps_chain cmp order q.caps p.caps q.caps (caps_turned cmp order p.caps q.caps same.caps) same.caps;
    last_arrival =
        pairs_chain cmp order q.last_arrival p.last_arrival q.last_arrival
        (pairs_turned cmp order p.last_arrival q.last_arrival same.last_arrival) same.last_arrival;
  }

  -- and after a call that goes on one of them
  pub goes_orderly : (p q : Planned P) (call : Call P) (cs : List (Completed P)) → GoesByRule cmp p call cs q
      → IsOrderly cmp p → IsOrderly cmp q
  goes_orderly p q call cs went h = grind (arith, orderly_same, obeys_orderly)
