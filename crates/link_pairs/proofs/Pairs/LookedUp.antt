-- What is looked up of equal peers and of equal pairs is the same.
use Rattle.std.proofs.Common.{List, None}
use Rattle.std.specs.Cmp.{IsTotalOrder}
use Rattle.std.specs.declared.cmp.Ordering.{Ordering}
use Rattle.fairness.specs.Fairness.UnderCaps.{AreOfPeers}
use Rattle.fairness.proofs.Lists.Sorted.{is_eq_equal, value_respects}
use Rattle.link_simulation.specs.Simulation.Messages.{PairsAlike}
use Rattle.link_pairs.specs.Pairs.PeerCaps.{PeerCaps}
use Rattle.link_pairs.specs.Pairs.Entries.{Pair, arrival_of}
use Rattle.link_pairs.specs.Pairs.CapsOf.{caps_of}
use Rattle.link_pairs.proofs.Pairs.Entries.{links_alike, arrivals_alike}

-- the caps are those of the peers
pub looked_up : {P : Type 0} (cmp : P → P → Ordering) → IsTotalOrder cmp
    → (peers : List (PeerCaps P)) (pairs : List (Pair P)) → AreOfPeers cmp (caps_of cmp peers pairs)
looked_up {P} cmp order peers pairs = record {
  egress = λ p q same.
      value_respects cmp order (λ (entry : PeerCaps P). entry.peer) (λ (entry : PeerCaps P). entry.egress) None
      peers p q (is_eq_equal _ same);
  ingress = λ p q same.
      value_respects cmp order (λ (entry : PeerCaps P). entry.peer) (λ (entry : PeerCaps P). entry.ingress) None
      peers p q (is_eq_equal _ same);
  link = links_alike cmp order pairs;
}

-- the last arrivals of equal pairs are the same
pub arrivals_looked_up : {P : Type 0} (cmp : P → P → Ordering) → IsTotalOrder cmp → (es : List (Pair P))
    → PairsAlike cmp (arrival_of cmp es) (arrival_of cmp es)
arrivals_looked_up cmp order es = arrivals_alike cmp order es
