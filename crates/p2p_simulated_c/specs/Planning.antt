-- The caps that are kept to be looked up.
use Rattle.std.specs.Prelude.{ℕ}
use Rattle.std.specs.BTreeMap.{get}
use Rattle.std.specs.Ordering.{nat_cmp}
use Rattle.fairness.specs.Sides.Caps as caps
use Rattle.link_pairs.specs.Pairs.Entries.{pair_cmp}
use Rattle.p2p_simulated_c.specs.declared.planner.Caps.{Caps}

abbrev pub caps_in : Caps → caps.Caps ℕ
caps_in c = record {
  egress = get nat_cmp c.egress;
  ingress = get nat_cmp c.ingress;
  link = λ origin recipient. get (pair_cmp nat_cmp) c.links (origin, recipient);
}
