-- At most one message of each pair is in flight.
use Rattle.link_events.proofs.Common.{Option, ◌≡◌, ℕ, Bool, true, false, not, ◌||◌, cond, List, [], ◌∷◌, ◌++◌, refl}
use Rattle.link_events.proofs.Common.{sym, ap, ◌∙◌, subst, ∥∥₁_elim, props, filter, list_any, Ordering, IsTotalOrder}
use Rattle.link_events.proofs.Common.{or_from, map-append, by_bool, Message, OneForEachPair, same_pair, Planned}
use Rattle.link_events.proofs.Common.{RatedFlight, rated_messages, drained_to, is_spent, Accounts, any_like}
use Rattle.link_events.proofs.Common.{stayed_messages, Pair, of_pairs, is_sending, is_of_pair, AreAtRest, alike_from}
use Rattle.link_simulation.proofs.Simulation.Queue.{one_pair_more}
use Rattle.link_simulation.proofs.Laws.Orderly.{any_of_fewer, drained_messages, one_of_fewer}

module _ {P : Type 0} (cmp : P → P → Ordering) where
  one_each_prop : (ms : List (Message P)) → IsProp (OneForEachPair cmp ms)
  one_each_prop [] x y = let none : IsProp (OneForEachPair cmp []) = hlevel props in none x y
  one_each_prop (m ∷ ms) x y =
      let first : IsProp (list_any (same_pair cmp m) ms ≡ false) = hlevel props in
      λ i. (first x.0 y.0 i, one_each_prop ms x.1 y.1 i)

  -- what is said to hold of some proof holds
  pub one_if_so : (ms : List (Message P)) → ∥ OneForEachPair cmp ms ∥₁ → OneForEachPair cmp ms
  one_if_so ms so = ∥∥₁_elim so (one_each_prop ms) (λ one. one)

module _ {P : Type 0} (cmp : P → P → Ordering) (order : IsTotalOrder cmp) where
  -- the pair of what leaves is not among those of what stays
  pub one_apart : (spent : RatedFlight P → Bool) (fs : List (RatedFlight P)) → OneForEachPair cmp (rated_messages fs)
      → (a b : P) → list_any (is_of_pair cmp a b) (rated_messages (filter spent fs)) ≡ true
      → list_any (is_of_pair cmp a b) (rated_messages (filter (λ f. not (spent f)) fs)) ≡ false
  one_apart spent [] one a b some = refl
  one_apart spent (f ∷ fs) one a b some = by_test (spent f) (is_of_pair cmp a b f.message) refl some
      (one_apart spent fs one.1 a b)
    where
      none_else : is_of_pair cmp a b f.message ≡ true → list_any (is_of_pair cmp a b) (rated_messages fs) ≡ false
      none_else is =
          let k : Message P = record f.message { origin = a; recipient = b } in
          sym (any_like cmp order k f.message (rated_messages fs) is) ∙ one.0

      by_test : (c d : Bool) → is_of_pair cmp a b f.message ≡ d
          → list_any (is_of_pair cmp a b) (rated_messages (cond c (f ∷ filter spent fs) (filter spent fs))) ≡ true
          → (list_any (is_of_pair cmp a b) (rated_messages (filter spent fs)) ≡ true
          → list_any (is_of_pair cmp a b) (rated_messages (filter (λ g. not (spent g)) fs)) ≡ false)
          → list_any (is_of_pair cmp a b)
          (rated_messages
          (cond (not c) (f ∷ filter (λ g. not (spent g)) fs) (filter (λ g. not (spent g)) fs)))
          ≡ false
      by_test true true is some ih = any_of_fewer (is_of_pair cmp a b) (λ g. not (spent g)) fs (none_else is)
      by_test true false is some ih =
          ih (sym (ap (λ c. c || list_any (is_of_pair cmp a b) (rated_messages (filter spent fs))) is) ∙ some)
      by_test false true is some ih =
          let none : list_any (is_of_pair cmp a b) (rated_messages (filter spent fs)) ≡ false
          = any_of_fewer (is_of_pair cmp a b) spent fs (none_else is) in
          cc
      by_test false false is some ih = or_from (is_of_pair cmp a b f.message) _ is (ih some)

  -- while all that is in flight drains
  pub one_drained : (t : ℕ) (fs : List (RatedFlight P)) → OneForEachPair cmp (rated_messages fs)
      → OneForEachPair cmp (rated_messages (drained_to t fs))
  one_drained t fs one = subst (OneForEachPair cmp) (sym (drained_messages t fs)) one

  -- of what stays
  pub one_stays : (t : ℕ) (spent : RatedFlight P → Bool) (fs after : List (RatedFlight P))
      → OneForEachPair cmp (rated_messages fs) → after ≡ filter (λ f. not (spent f)) (drained_to t fs)
      → OneForEachPair cmp (rated_messages after)
  one_stays t spent fs after one rest =
      subst (λ (gs : List (RatedFlight P)). OneForEachPair cmp (rated_messages gs)) (sym rest)
      (one_of_fewer cmp order (λ f. not (spent f)) (drained_to t fs) (one_drained t fs one))

  -- with one more, whose pair was idle
  pub one_joins : (fs after : List (RatedFlight P)) (f : RatedFlight P) → OneForEachPair cmp (rated_messages fs)
      → list_any (same_pair cmp f.message) (rated_messages fs) ≡ false → after ≡ fs ++ f ∷ []
      → OneForEachPair cmp (rated_messages after)
  one_joins fs after f one idle pushed =
      subst (λ (gs : List (RatedFlight P)). OneForEachPair cmp (rated_messages gs)) (sym pushed)
      (subst (OneForEachPair cmp) (sym (map-append (λ (g : RatedFlight P). g.message) fs (f ∷ [])))
      (one_pair_more cmp order (rated_messages fs) f.message one idle))

-- no pair is busy after an account that was not before
pub account_idles : {P : Type 0} (cmp : P → P → Ordering) (t : ℕ) (old new : Planned P) (leavers : List (Message P))
    → Accounts cmp t old leavers new → (a b : P) → is_sending cmp old a b ≡ false → is_sending cmp new a b ≡ false
account_idles {P} cmp t old new leavers account a b idle =
    let still : RatedFlight P → Bool = λ f. not (is_spent cmp old.caps f) in
    ap (list_any (is_of_pair cmp a b))
    (stayed_messages t (filter still (drained_to t old.sending)) new.sending account.stayed)
    ∙ any_of_fewer (is_of_pair cmp a b) still (drained_to t old.sending)
    (ap (list_any (is_of_pair cmp a b)) (drained_messages t old.sending) ∙ idle)

-- the pairs that are at rest where nothing is in flight are so beside messages of other pairs
pub rests_beside : {P : Type 0} (cmp : P → P → Ordering) (pairs : List (Pair P)) (ms : List (Message P))
    (sending : List (RatedFlight P)) (leavers : List (Message P)) (old new : P → P → Option ℕ)
    → ((a b : P) → list_any (is_of_pair cmp a b) leavers ≡ true
    → list_any (is_of_pair cmp a b) (rated_messages sending) ≡ false)
    → AreAtRest cmp (of_pairs cmp pairs ms []) leavers old new
    → AreAtRest cmp (of_pairs cmp pairs ms sending) leavers old new
rests_beside cmp pairs ms sending leavers old new idle rests a b =
    rests a b ∙ by_bool (list_any (is_of_pair cmp a b) leavers)
    (λ h. rw h
    (sym (alike_from cmp (of_pairs cmp pairs ms []) (of_pairs cmp pairs ms sending) a b (idle a b h) refl refl)))
    (λ h. rw h refl)
