-- The caps that are kept, as caps by peer and by ordered pair.
use Rattle.std.specs.Prelude.{List}
use Rattle.std.specs.declared.cmp.Ordering.{Ordering}
use Rattle.fairness.specs.Sides.Caps.{Caps}
use Rattle.link_pairs.specs.Pairs.PeerCaps.{PeerCaps, egress_of, ingress_of}
use Rattle.link_pairs.specs.Pairs.Entries.{Pair, link_of}

-- the caps of peers and of ordered pairs
abbrev pub caps_of : {P : Type 0} → (P → P → Ordering) → List (PeerCaps P) → List (Pair P) → Caps P
caps_of cmp peers pairs = record {
  egress = egress_of cmp peers;
  ingress = ingress_of cmp peers;
  link = link_of cmp pairs;
}
