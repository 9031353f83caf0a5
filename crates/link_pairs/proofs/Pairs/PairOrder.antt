-- Ordered pairs of peers.
use Rattle.std.proofs.Common.{◌≡◌, ◌&&◌, refl}
use Rattle.std.specs.declared.cmp.Ordering.{Ordering}
use Rattle.std.specs.declared.cmp.Ordering.TheVariants.{Less, Equal, Greater}
use Rattle.std.specs.Ordering.{is_eq, ordering_then}
use Rattle.std.specs.Cmp.{IsTotalOrder}
use Rattle.std.proofs.lemmas.Cmp.{on_total, then_total}
use Rattle.link_pairs.specs.Pairs.Entries.{pair_cmp}

-- pairs are ordered totally
pub pair_total : {P : Type 0} (cmp : P → P → Ordering) → IsTotalOrder cmp → IsTotalOrder (pair_cmp cmp)
pair_total {P} cmp total = then_total (on_total (λ (p : P × P). p.0) total) (on_total (λ (p : P × P). p.1) total)

-- two pairs are equal where both parts are
pub is_eq-then : (o p : Ordering) → is_eq (ordering_then o p) ≡ (is_eq o && is_eq p)
is_eq-then Less p = refl
is_eq-then Equal p = refl
is_eq-then Greater p = refl
