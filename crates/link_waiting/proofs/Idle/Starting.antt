-- Whether the first waiting message of a pair starts, and what then is.
use Rattle.link_waiting.proofs.Common.{◌≡◌, ℕ, ◌+◌, ◌<◌, ◌≤◌, List, [], ◌∷◌, ◌++◌, length, Bool, true, false, not}
use Rattle.link_waiting.proofs.Common.{cond, ◌&&◌, Option, Some, None, Result, Ok, Err, refl, sym, ap, ◌∙◌, subst}
use Rattle.link_waiting.proofs.Common.{arith, nat_le, is_none, find, list_any, Ordering, IsTotalOrder, and_from}
use Rattle.link_waiting.proofs.Common.{leb-true, le-leb, by_bool, first_of_both, second_of_both, without_first}
use Rattle.link_waiting.proofs.Common.{same_peer, first_moment, first_of, Message, PairsAlike, same_pair, pair_before}
use Rattle.link_waiting.proofs.Common.{same_peer_itself, Planned, rated_messages, may_launch, queued, may_launch_first}
use Rattle.link_waiting.proofs.Common.{find_passes, pair_like, last_moment, with_queued, any_like}
use Rattle.std.proofs.Common.{IfOk}
use Rattle.fairness.specs.declared.error.Error.{Error}
use Rattle.fairness.specs.declared.error.Error.TheVariants.{FlowIdsUsedUp}
use Rattle.fairness.specs.Numbers.Amount.{whole}
use Rattle.link_simulation.specs.Simulation.World.{goes, meets, is_in_order}
use Rattle.link_simulation.specs.Rule.Events.{Launches, nothing_waits, too_early, no_id, starts, Accounts, launched}

-- two orders of numbers that hold together are one test
pub same_test : (a b c d : ℕ) → (a ≤ b → c ≤ d) → (c ≤ d → a ≤ b) → nat_le a b ≡ nat_le c d
same_test a b c d to from =
    by_bool (nat_le a b) (λ e. e ∙ sym (le-leb c d (to (leb-true a b e))))
    (λ e. by_bool (nat_le c d) (λ k. le-leb a b (from (leb-true c d k)) ∙ sym k) (λ k. e ∙ sym k))

-- a message arrives in order from its first moment on
pub in_order_from : (last : Option ℕ) (latency t : ℕ)
    → is_in_order last (t + latency) ≡ nat_le (first_moment last latency) t
in_order_from None latency t = sym (le-leb 0 t (omega arith))
in_order_from (Some last) latency t = same_test last _ _ t (λ h. omega arith) (λ h. omega arith)

module _ {P : Type 0} (cmp : P → P → Ordering) (order : IsTotalOrder cmp) where
  -- what is asked of a pair's message is asked of the pair
  pub of_pair : (o r : P) (m : Message P) → (same_peer cmp o m.origin && same_peer cmp r m.recipient) ≡ true
      → (n : Message P) → same_pair cmp m n ≡ (same_peer cmp o n.origin && same_peer cmp r n.recipient)
  of_pair o r m same n = pair_like cmp order (record m { origin = o; recipient = r }) m n same

  pub may_launch_is : (p : Planned P) (t : ℕ) (o r : P) (m : Message P) (busy ready : Bool)
      → PairsAlike cmp p.last_arrival p.last_arrival → first_of cmp p.waiting o r ≡ Some m
      → busy
      ≡ list_any (λ (n : Message P). same_peer cmp o n.origin && same_peer cmp r n.recipient)
      (rated_messages p.sending)
      → ready ≡ nat_le (first_moment (p.last_arrival o r) m.latency) t
      → (not busy && ready) ≡ may_launch_first cmp t p (first_of cmp p.waiting o r)
  may_launch_is p t o r m busy ready alike found busy_is ready_is =
      let same : (same_peer cmp o m.origin && same_peer cmp r m.recipient) ≡ true = find_passes _ m p.waiting found in
      let parts : (same_peer cmp o m.origin ≡ true) × (same_peer cmp r m.recipient ≡ true) =
      (first_of_both _ _ same, second_of_both _ _ same) in
      let sends : busy ≡ list_any (same_pair cmp m) (rated_messages p.sending) = busy_is ∙ sym
      (any_like cmp order (record m { origin = o; recipient = r }) m _ same) in
      let moment : ready ≡ is_in_order (p.last_arrival m.origin m.recipient) (t + m.latency) = ready_is ∙ ap
      (λ (last : Option ℕ). nat_le (first_moment last m.latency) t) (alike o m.origin r m.recipient parts.0 parts.1) ∙
      sym (in_order_from _ m.latency t) in
      ap (λ (b : Bool). not b && ready) sends ∙ ap (λ (b : Bool). not (list_any (same_pair cmp m)
      (rated_messages p.sending)) && b) moment ∙ ap (may_launch_first cmp t p) (sym found)

  -- ---- the launch of a pair

  pub not_started : (t : ℕ) (p : Planned P) (first : Option (Message P)) → may_launch_first cmp t p first ≡ false
      → Launches cmp t p first (goes [] p)
  not_started t p None e = nothing_waits
  not_started t p (Some m) e = too_early e

  pub no_more_ids : (t : ℕ) (p : Planned P) (first : Option (Message P)) → may_launch_first cmp t p first ≡ true
      → last_moment ≤ p.next_id → Launches cmp t p first (meets FlowIdsUsedUp)
  no_more_ids t p None e used = cc
  no_more_ids t p (Some m) e used = no_id e used

  -- the planned world once the first waiting message of a pair is taken and in flight
  abbrev pub pushed : ℕ → Planned P → P → P → Message P → Planned P
  pushed t p o r m = record p {
    sending = p.sending ++ record {
      id = p.next_id;
      message = m;
      left = whole (length m.bytes);
      rate = Some (whole 0);
      updated = t;
    } ∷ [];
    waiting = without_first (λ (n : Message P). same_peer cmp o n.origin && same_peer cmp r n.recipient) p.waiting;
    next_id = p.next_id + 1;
  }

  pub pushed_is : (t : ℕ) (p : Planned P) (o r : P) (m : Message P) → first_of cmp p.waiting o r ≡ Some m
      → pushed t p o r m ≡ launched cmp t p m
  pushed_is t p o r m found i =
      let same : (same_peer cmp o m.origin && same_peer cmp r m.recipient) ≡ true = find_passes _ m p.waiting found in
      record (launched cmp t p m) {
        waiting = without_first (λ (n : Message P). sym (of_pair o r m same n) i) p.waiting;
      }

  pub launch_starts : (t : ℕ) (p mid new : Planned P) (o r : P) (m : Message P) (leavers : List (Message P))
      → may_launch_first cmp t p (first_of cmp p.waiting o r) ≡ true → p.next_id < last_moment
      → first_of cmp p.waiting o r ≡ Some m → mid ≡ pushed t p o r m → Accounts cmp t mid leavers new
      → Launches cmp t p (first_of cmp p.waiting o r) (goes leavers new)
  launch_starts t p mid new o r m leavers may id found is accounts =
      let may_m : may_launch cmp t p m ≡ true = ap (may_launch_first cmp t p) (sym found) ∙ may in
      let there : Accounts cmp t (launched cmp t p m) leavers new =
      subst (λ (q : Planned P). Accounts cmp t q leavers new) (is ∙ pushed_is t p o r m found) accounts in
      subst (λ (first : Option (Message P)). Launches cmp t p first (goes leavers new)) (sym found)
      (starts may_m id there)

-- ---- what is answered

module _ {P : Type 0} (cmp : P → P → Ordering) (order : IsTotalOrder cmp) (t : ℕ) (p mid : Planned P) (o r : P)
    (m : Message P)
    (may : may_launch_first cmp t p (first_of cmp p.waiting o r) ≡ true) (id : p.next_id < last_moment)
    (found : first_of cmp p.waiting o r ≡ Some m) (is : mid ≡ pushed cmp order t p o r m) where
  pub launched_so : {X : Type 0} (f : X → List (Message P)) (result : Result X Error) (new : Planned P)
      → IfOk result (λ x. Accounts cmp t mid (f x) new)
      → IfOk result (λ x. Launches cmp t p (first_of cmp p.waiting o r) (goes (f x) new))
  launched_so f (Ok x) new accounts = launch_starts cmp order t p mid new o r m (f x) may id found is accounts
  launched_so f (Err e) new accounts = tt

-- ---- a message of a pair of which none waits

module _ {P : Type 0} (cmp : P → P → Ordering) (order : IsTotalOrder cmp) (m : Message P) where
  abbrev own : Message P → Bool
  own n = same_peer cmp m.origin n.origin && same_peer cmp m.recipient n.recipient

  of_itself : own m ≡ true
  of_itself =
      and_from (same_peer cmp m.origin m.origin) (same_peer cmp m.recipient m.recipient)
      (same_peer_itself cmp order m.origin) (same_peer_itself cmp order m.recipient)

  -- the first one is of another pair, and so no other is of it
  not_own : (n : Message P) (ns : List (Message P)) → find own (n ∷ ns) ≡ None → own n ≡ false
  not_own n ns none =
      by_bool (own n) (λ t. let some : Some n ≡ None = sym (ap (λ c. cond c (Some n) (find own ns)) t) ∙ none in cc)
      (λ t. t)

  none_after : (n : Message P) (ns : List (Message P)) → find own (n ∷ ns) ≡ None → find own ns ≡ None
  none_after n ns none = sym (ap (λ c. cond c (Some n) (find own ns)) (not_own n ns none)) ∙ none

  -- once it has joined those that wait, it is the first of its pair
  pub first_joined : (ns : List (Message P)) → find own ns ≡ None
      → first_of cmp (queued cmp m ns) m.origin m.recipient ≡ Some m
  first_joined [] none = ap (λ c. cond c (Some m) None) of_itself
  first_joined (n ∷ ns) none = by_bool (pair_before cmp m n)
      (λ t. rw t (ap (λ c. cond c (Some m) (find own (n ∷ ns))) of_itself))
      (λ t. rw t
      (ap (λ c. cond c (Some n) (find own (queued cmp m ns))) (not_own n ns none)
      ∙ first_joined ns (none_after n ns none)))

  -- without it the others wait
  pub without_joined : (ns : List (Message P)) → find own ns ≡ None → without_first own (queued cmp m ns) ≡ ns
  without_joined [] none = ap (λ c. cond c [] (m ∷ [])) of_itself
  without_joined (n ∷ ns) none = by_bool (pair_before cmp m n)
      (λ t. rw t (ap (λ c. cond c (n ∷ ns) (m ∷ without_first own (n ∷ ns))) of_itself))
      (λ t. rw t
      (ap (λ c. cond c (queued cmp m ns) (n ∷ without_first own (queued cmp m ns))) (not_own n ns none)
      ∙ ap (λ l. n ∷ l) (without_joined ns (none_after n ns none))))

module _ {P : Type 0} (cmp : P → P → Ordering) (order : IsTotalOrder cmp) (t : ℕ) (p : Planned P) (m : Message P) where
  -- a message that is sent may start
  pub may_start_is : (busy ready : Bool) → first_of cmp p.waiting m.origin m.recipient ≡ None
      → busy ≡ list_any (same_pair cmp m) (rated_messages p.sending)
      → ready ≡ nat_le (first_moment (p.last_arrival m.origin m.recipient) m.latency) t
      → (not busy && ready) ≡ (is_none (first_of cmp p.waiting m.origin m.recipient) && may_launch cmp t p m)
  may_start_is busy ready alone busy_is ready_is =
      ap (λ (b : Bool). not b && ready) busy_is ∙ ap (λ (b : Bool). not (list_any (same_pair cmp m)
      (rated_messages p.sending)) && b) (ready_is ∙ sym (in_order_from _ m.latency t)) ∙ sym
      (ap (λ (first : Option (Message P)). is_none first && may_launch cmp t p m) alone)

  is_alone : (first : Option (Message P)) → is_none first ≡ true → first ≡ None
  is_alone None h = refl
  is_alone (Some n) h = cc

  module _ (may : (is_none (first_of cmp p.waiting m.origin m.recipient) && may_launch cmp t p m) ≡ true) where
    joined : first_of cmp (queued cmp m p.waiting) m.origin m.recipient ≡ Some m
    joined = first_joined cmp order m p.waiting (is_alone _ (first_of_both _ _ may))

    may_m : may_launch cmp t p m ≡ true
    may_m = second_of_both (is_none (first_of cmp p.waiting m.origin m.recipient)) (may_launch cmp t p m) may

    pub started_so : {X : Type 0} (f : X → List (Message P)) (result : Result X Error) (mid new : Planned P)
        → p.next_id < last_moment → mid ≡ launched cmp t (with_queued cmp p m) m
        → IfOk result (λ x. Accounts cmp t mid (f x) new)
        → IfOk result
        (λ x. Launches cmp t (with_queued cmp p m) (first_of cmp (queued cmp m p.waiting) m.origin m.recipient)
        (goes (f x) new))
    started_so f (Ok x) mid new id is accounts =
        subst (λ (first : Option (Message P)). Launches cmp t (with_queued cmp p m) first (goes (f x) new)) (sym joined)
        (starts may_m id (subst (λ (q : Planned P). Accounts cmp t q (f x) new) is accounts))
    started_so f (Err e) mid new id is accounts = tt

    pub no_id_left : last_moment ≤ p.next_id
        → Launches cmp t (with_queued cmp p m) (first_of cmp (queued cmp m p.waiting) m.origin m.recipient)
        (meets FlowIdsUsedUp)
    no_id_left used =
        no_more_ids cmp order t (with_queued cmp p m) (first_of cmp (queued cmp m p.waiting) m.origin m.recipient)
        (ap (may_launch_first cmp t (with_queued cmp p m)) joined ∙ may_m) used
