-- The order of pairs, and lists in that order.
use Rattle.link_simulation.proofs.Common.{arith, ◌≡◌, List, [], ◌∷◌, Bool, true, false, cond, Option, Some, None, refl}
use Rattle.link_simulation.proofs.Common.{sym, ap, ◌∙◌, find, Ordering, Less, Equal, Greater, is_eq, is_lt}
use Rattle.link_simulation.proofs.Common.{IsTotalOrder, least_pair, Message, OneForEachPair, pair_before, same_pair}
use Rattle.link_simulation.proofs.Common.{Each, find_from_any, subst}
use Rattle.link_simulation.proofs.Simulation.Queue.{pair_like}
use Rattle.std.specs.Ordering.{is_gt, ordering_reverse, ordering_then}
use Rattle.std.specs.Cmp.{then_total, tied_then, upto}
use Rattle.std.proofs.lemmas.Cmp.{on_total, tied_itself}
use Rattle.link_simulation.specs.Simulation.Pass.{IsBeforeEach, IsByPair, by_pair, insert_by_pair}
use Rattle.link_simulation.proofs.Simulation.OtherPairs.{each_more}
use Rattle.link_simulation.proofs.Simulation.AlikeMessages.{pair_itself}
use Rattle.fairness.proofs.Lists.Sorted.{is_lt_less}

lt_turned : (r : Ordering) → is_lt (ordering_reverse r) ≡ is_gt r
lt_turned Less = refl
lt_turned Equal = refl
lt_turned Greater = refl

not_eq_if_lt : (r : Ordering) → is_lt r ≡ true → is_eq r ≡ false
not_eq_if_lt Less e = refl
not_eq_if_lt Equal e = cc
not_eq_if_lt Greater e = cc

not_gt_if_lt : (r : Ordering) → is_lt r ≡ true → is_gt r ≡ false
not_gt_if_lt Less e = refl
not_gt_if_lt Equal e = refl
not_gt_if_lt Greater e = cc

module _ {P : Type 0} (cmp : P → P → Ordering) (order : IsTotalOrder cmp) where
  abbrev pub pair_cmp : Message P → Message P → Ordering
  pair_cmp m n = ordering_then (cmp m.origin n.origin) (cmp m.recipient n.recipient)

  pub pairs_total : IsTotalOrder pair_cmp
  pairs_total = then_total (on_total _ order) (on_total _ order)

  turned : (m n : Message P) → pair_before cmp m n ≡ is_gt (pair_cmp n m)
  turned m n = ap is_lt (pairs_total.antisymm m n) ∙ lt_turned (pair_cmp n m)

  pub not_before_itself : (m : Message P) → pair_before cmp m m ≡ false
  not_before_itself m = ap is_lt (tied_itself pairs_total m)

  pub not_before_back : (m n : Message P) → pair_before cmp m n ≡ true → pair_before cmp n m ≡ false
  not_before_back m n e = turned n m ∙ not_gt_if_lt (pair_cmp m n) e

  pub apart_if_before : (m n : Message P) → pair_before cmp m n ≡ true → same_pair cmp m n ≡ false
  apart_if_before m n e = tied_then _ _ ∙ not_eq_if_lt _ e

  pub before_each_other : (m n k : Message P) → pair_before cmp m n ≡ true → pair_before cmp n k ≡ true
      → pair_before cmp m k ≡ true
  before_each_other m n k e f = ap is_lt (pairs_total.trans m n k (is_lt_less _ e) (is_lt_less _ f))

  pub not_before_on : (m n k : Message P) → pair_before cmp m n ≡ false → pair_before cmp n k ≡ false
      → pair_before cmp m k ≡ false
  not_before_on m n k e f = turned m k ∙ upto pairs_total k n m (sym (turned n k) ∙ f) (sym (turned m n) ∙ e)

  pub before_if_not : (m n : Message P) → pair_before cmp n m ≡ false → same_pair cmp m n ≡ false
      → pair_before cmp m n ≡ true
  before_if_not m n e f = grind arith

  -- ---- the least pair

  pub least_none : (ms : List (Message P)) → least_pair cmp ms ≡ None → ms ≡ []
  least_none [] e = refl
  least_none (m ∷ ms) e = cc

  abbrev IsLeast : Message P → List (Message P) → Type 0
  IsLeast l ms = (find (same_pair cmp l) ms ≡ Some l) × Each (λ (n : Message P). pair_before cmp n l ≡ false) ms

  pub least_is : (l : Message P) (ms : List (Message P)) → least_pair cmp ms ≡ Some l → IsLeast l ms
  least_is l [] e = cc
  least_is l (m ∷ ms) e = by_rest (least_pair cmp ms) refl e (λ n. least_is n ms)
    where
      itself : IsLeast m (m ∷ []) × (cond (same_pair cmp m m) (Some m) (find (same_pair cmp m) ms) ≡ Some m)
      itself = ((rw (pair_itself cmp order m) refl, (not_before_itself m, tt)), rw (pair_itself cmp order m) refl)

      by_test : (n : Message P) (b : Bool) → pair_before cmp n m ≡ b → IsLeast n ms → IsLeast (cond b n m) (m ∷ ms)
      by_test n true before least = grind (arith, apart_if_before, not_before_back)
      by_test n false before least = grind (arith, itself, not_before_itself, each_more, not_before_on)

      by_rest : (o : Option (Message P)) → least_pair cmp ms ≡ o
          → Some (elim o [ None ↦ m | Some n ↦ cond (pair_before cmp n m) n m ]) ≡ Some l
          → ((n : Message P) → least_pair cmp ms ≡ Some n → IsLeast n ms) → IsLeast l (m ∷ ms)
      by_rest None is at ih = grind (arith, least_none, itself, not_before_itself)
      by_rest (Some n) is at ih =
          let same : cond (pair_before cmp n m) n m ≡ l = cc in
          subst (λ (k : Message P). IsLeast k (m ∷ ms)) same (by_test n (pair_before cmp n m) refl (ih n is))

  -- ---- lists by pair

  pub found_in : (Q : Message P → Type 0) (p : Message P → Bool) (x : Message P) (ms : List (Message P)) → Each Q ms
      → find p ms ≡ Some x → Q x
  found_in Q p x [] h e = cc
  found_in Q p x (m ∷ ms) h e = grind (arith, (found_in Q p x ms))

  pub as_each : (m : Message P) (ms : List (Message P)) → IsBeforeEach cmp m ms
      → Each (λ (n : Message P). pair_before cmp m n ≡ true) ms
  as_each m [] h = tt
  as_each m (n ∷ ns) h = (h.0, as_each m ns h.1)

  pub find_nowhere : (p : Message P → Bool) (ms : List (Message P)) → Each (λ (n : Message P). p n ≡ false) ms
      → find p ms ≡ None
  find_nowhere p [] h = refl
  find_nowhere p (m ∷ ms) h = rw (h.0) (find_nowhere p ms h.1)

  find_inserted : (k m : Message P) (ns : List (Message P)) → find (same_pair cmp m) ns ≡ None
      → find (same_pair cmp k) (insert_by_pair cmp m ns) ≡ cond (same_pair cmp k m) (Some m) (find (same_pair cmp k) ns)
  find_inserted k m [] h = refl
  find_inserted k m (n ∷ ns) h = by_order _ _ refl h (find_inserted k m ns)
    where
      exchanged : (a b : Bool) → same_pair cmp k m ≡ a → same_pair cmp k n ≡ b → same_pair cmp m n ≡ false
          → cond b (Some n) (cond a (Some m) (find (same_pair cmp k) ns))
          ≡ cond a (Some m) (cond b (Some n) (find (same_pair cmp k) ns))
      exchanged true true e f apart = let both : same_pair cmp m n ≡ true = pair_like cmp order k m n e ∙ f in cc
      exchanged true false e f apart = refl
      exchanged false true e f apart = refl
      exchanged false false e f apart = refl

      by_order : (a b : Bool) → same_pair cmp m n ≡ b → cond b (Some n) (find (same_pair cmp m) ns) ≡ None
          → (find (same_pair cmp m) ns ≡ None → find (same_pair cmp k) (insert_by_pair cmp m ns)
          ≡ cond (same_pair cmp k m) (Some m) (find (same_pair cmp k) ns))
          → find (same_pair cmp k) (cond a (n ∷ insert_by_pair cmp m ns) (m ∷ n ∷ ns))
          ≡ cond (same_pair cmp k m) (Some m) (cond (same_pair cmp k n) (Some n) (find (same_pair cmp k) ns))
      by_order a true is none ih = cc
      by_order true false is none ih =
          ap (λ (o : Option (Message P)). cond (same_pair cmp k n) (Some n) o) (ih none) ∙ exchanged _ _ refl refl is
      by_order false false is none ih = refl

  -- ordering finds what was there
  pub find_by_pair : (ms : List (Message P)) → OneForEachPair cmp ms → (k : Message P)
      → find (same_pair cmp k) (by_pair cmp ms) ≡ find (same_pair cmp k) ms
  find_by_pair [] one k = refl
  find_by_pair (m ∷ ms) one k =
      find_inserted k m (by_pair cmp ms) (find_by_pair ms one.1 m ∙ find_from_any (same_pair cmp m) ms one.0)
      ∙ ap (λ (o : Option (Message P)). cond (same_pair cmp k m) (Some m) o) (find_by_pair ms one.1 k)

  before_inserted : (k m : Message P) (ns : List (Message P)) → pair_before cmp k m ≡ true → IsBeforeEach cmp k ns
      → IsBeforeEach cmp k (insert_by_pair cmp m ns)
  before_inserted k m [] e h = (e, tt)
  before_inserted k m (n ∷ ns) e h = grind (arith, (before_inserted k m ns e))

  before_all : (m n : Message P) (ks : List (Message P)) → pair_before cmp m n ≡ true → IsBeforeEach cmp n ks
      → IsBeforeEach cmp m ks
  before_all m n [] e h = tt
  before_all m n (k ∷ ks) e h = (before_each_other m n k e h.0, before_all m n ks e h.1)

  inserted_by_pair : (m : Message P) (ns : List (Message P)) → find (same_pair cmp m) ns ≡ None → IsByPair cmp ns
      → IsByPair cmp (insert_by_pair cmp m ns)
  inserted_by_pair m [] none h = (tt, tt)
  inserted_by_pair m (n ∷ ns) none h =
      grind (arith, before_inserted, before_if_not, before_all, (inserted_by_pair m ns))

  pub ordered_by_pair : (ms : List (Message P)) → OneForEachPair cmp ms → IsByPair cmp (by_pair cmp ms)
  ordered_by_pair [] one = tt
  ordered_by_pair (m ∷ ms) one = grind (arith, inserted_by_pair, find_by_pair, find_from_any, (ordered_by_pair ms))
