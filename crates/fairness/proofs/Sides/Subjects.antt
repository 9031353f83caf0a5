-- That two subjects are one is an equivalence.
use Rattle.fairness.proofs.Common.{◌≡◌, true, refl, ap, ◌∙◌, Less, Equal, Greater, is_eq, IsTotalOrder, Ordering}
use Rattle.fairness.proofs.Common.{Subject, sent_by, received_by, sent_between, same_peer, same_subject, rules}
use Rattle.std.specs.Ordering.{ordering_reverse}
use Rattle.std.specs.Cmp.{eq_by_cmp_equiv}
use Rattle.fairness.proofs.Lists.Booleans.{first_of_both, second_of_both}

reversed : (o : Ordering) → is_eq (ordering_reverse o) ≡ is_eq o
reversed Less = refl
reversed Equal = refl
reversed Greater = refl

module _ {P : Type 0} (cmp : P → P → Ordering) (o : IsTotalOrder cmp) where
  pub peer_sym : (p q : P) → same_peer cmp p q ≡ same_peer cmp q p
  peer_sym p q = ap is_eq (o.antisymm p q) ∙ reversed (cmp q p)

  pub peer_congr : (p q r : P) → same_peer cmp p q ≡ true → same_peer cmp p r ≡ same_peer cmp q r
  peer_congr p q r e = (eq_by_cmp_equiv o).congr p q r e

  pub same_symm : (s t : Subject P) → same_subject cmp s t ≡ same_subject cmp t s
  same_symm (sent_by p) (sent_by q) = peer_sym p q
  same_symm (received_by p) (received_by q) = peer_sym p q
  same_symm (sent_between p q) (sent_between r s) = search (rules, peer_sym)
  same_symm s t = refl

  pub same_congr : (s t u : Subject P) → same_subject cmp s t ≡ true → same_subject cmp s u ≡ same_subject cmp t u
  same_congr (sent_by p) (sent_by q) (sent_by r) e = peer_congr p q r e
  same_congr (sent_by p) (sent_by q) u e = refl
  same_congr (received_by p) (received_by q) (received_by r) e = peer_congr p q r e
  same_congr (received_by p) (received_by q) u e = refl
  same_congr (sent_between p q) (sent_between r s) (sent_between x y) e =
      search (rules, peer_congr, first_of_both, second_of_both)
  same_congr (sent_between p q) (sent_between r s) u e = refl
  same_congr s t u e = cc e

  pub same_itself : (s : Subject P) → same_subject cmp s s ≡ true
  same_itself (sent_by p) = (eq_by_cmp_equiv o).refl p
  same_itself (received_by p) = (eq_by_cmp_equiv o).refl p
  same_itself (sent_between p q) = search rules
