-- What subjects of sides have in common that are one by the order of peers.
use Rattle.fairness.proofs.Common.{◌≡◌, true, ◌&&◌, refl, IsTotalOrder, Ordering, and_parts, false≢true}
use Rattle.fairness.proofs.Common.{eq_by_cmp_equiv, Flow, Subject, sent_by, received_by, sent_between, same_peer}
use Rattle.fairness.proofs.Common.{same_subject, Caps, cap_of, AreOfPeers, limits, rules}
use Rattle.std.specs.Cmp.{IsEquivalence}

module _ {P : Type 0} (cmp : P → P → Ordering) (order : IsTotalOrder cmp) where
  abbrev laws : IsEquivalence (same_peer cmp)
  laws = eq_by_cmp_equiv order

  pub same_peer_itself : (p : P) → same_peer cmp p p ≡ true
  same_peer_itself p = laws.refl p

  -- both peers the same
  pair_congr : (p q r s t u : P) → (same_peer cmp p r && same_peer cmp q s) ≡ true
      → (same_peer cmp p t && same_peer cmp q u) ≡ (same_peer cmp r t && same_peer cmp s u)
  pair_congr p q r s t u e = search (rules, and_parts)

  -- one subject has one cap
  pub one_cap : (caps : Caps P) → AreOfPeers cmp caps → (s t : Subject P) → same_subject cmp s t ≡ true
      → cap_of caps s ≡ cap_of caps t
  one_cap caps of (sent_by p) (sent_by q) e = of.egress p q e
  one_cap caps of (received_by p) (received_by q) e = of.ingress p q e
  one_cap caps of (sent_between p q) (sent_between r s) e = search (rules, and_parts)
  one_cap caps of (sent_by p) (received_by q) e = absurd (false≢true e)
  one_cap caps of (sent_by p) (sent_between q r) e = absurd (false≢true e)
  one_cap caps of (received_by p) (sent_by q) e = absurd (false≢true e)
  one_cap caps of (received_by p) (sent_between q r) e = absurd (false≢true e)
  one_cap caps of (sent_between p q) (sent_by r) e = absurd (false≢true e)
  one_cap caps of (sent_between p q) (received_by r) e = absurd (false≢true e)

  -- and limits the same flows
  pub same_limits : (s t : Subject P) (f : Flow P) → same_subject cmp s t ≡ true → limits cmp s f ≡ limits cmp t f
  same_limits (sent_by p) (sent_by q) f e = laws.congr p q f.origin e
  same_limits (received_by p) (received_by q) f e = rw (laws.congr p q f.recipient e) refl
  same_limits (sent_between p q) (sent_between r s) f e = pair_congr p q r s f.origin f.recipient e
  same_limits (sent_by p) (received_by q) f e = absurd (false≢true e)
  same_limits (sent_by p) (sent_between q r) f e = absurd (false≢true e)
  same_limits (received_by p) (sent_by q) f e = absurd (false≢true e)
  same_limits (received_by p) (sent_between q r) f e = absurd (false≢true e)
  same_limits (sent_between p q) (sent_by r) f e = absurd (false≢true e)
  same_limits (sent_between p q) (received_by r) f e = absurd (false≢true e)
