-- What an account and its finishes make of a call's parts.
use Rattle.link_events.proofs.Common.{◌≡◌, ℕ, ◌+◌, List, [], ◌∷◌, ◌++◌, Bool, true, false, cond, ◌&&◌, if◌then◌else◌}
use Rattle.link_events.proofs.Common.{Option, Some, None, Result, Ok, Err, IfOk, IfErr, refl, sym, ap, ◌∙◌, subst}
use Rattle.link_events.proofs.Common.{then_some, Ordering, IsTotalOrder, Error, MomentTooLate, PeerPair, NamesPairOf}
use Rattle.link_events.proofs.Common.{first_of, Message, Completed, Course, goes, meets, completion_of, last_moment}
use Rattle.link_events.proofs.Common.{Planned, next_of, PlansStart, Launches, Finishes, Settles, Rebalances}
use Rattle.link_events.proofs.Common.{none_sending, some_sending, Enqueues, launches, with_queued, IsRefusedFor}
use Rattle.link_events.proofs.Common.{refused_more}
use Rattle.std.proofs.Common.{◌≢◌}
use Rattle.std.specs.Prelude.{nat_lt}
use Rattle.link_simulation.specs.Simulation.World.{later_of}
use Rattle.link_simulation.specs.Simulation.World.{raised}
use Rattle.link_simulation.specs.Rule.Events.{at_once, no_launch}
use Rattle.link_simulation.specs.Rule.Events.{completed_at_once}
use Rattle.link_events.proofs.Steps.Finishing.{first_of_key, then_some_is}

-- what an answer makes of a fact about it
pub if_ok : {X E : Type 0} {A B : X → Type 0} (r : Result X E) → ((x : X) → A x → B x) → IfOk r A → IfOk r B
if_ok (Ok x) f a = f x a
if_ok (Err e) f a = tt

-- and of two
pub if_ok_both : {X E : Type 0} {A B C : X → Type 0} (r : Result X E) → ((x : X) → A x → B x → C x) → IfOk r A
    → IfOk r B → IfOk r C
if_ok_both (Ok x) f a b = f x a b
if_ok_both (Err e) f a b = tt

-- and what a refusal makes of one
pub if_err : {X E : Type 0} {A B : E → Type 0} (r : Result X E) → ((e : E) → A e → B e) → IfErr r A → IfErr r B
if_err (Ok x) f a = tt
if_err (Err e) f a = f e a

module _ {P : Type 0} (cmp : P → P → Ordering) where
  -- ---- new caps

  pub as_recapped : (p : Planned P) → p.limited ≡ true → p ≡ record p { caps = p.caps; limited = true }
  as_recapped p limited i = record p { limited = limited i }

  pub rebalance_refused : (t : ℕ) (p : Planned P) → p.limited ≡ true → p.sending ≢ [] → (e : Error)
      → IsRefusedFor (λ fault. Settles cmp t p (meets fault)) e
      → IsRefusedFor (λ fault. Rebalances cmp t p.caps p (meets fault)) e
  rebalance_refused t p limited sends =
      refused_more (λ fault. Settles cmp t p (meets fault)) (λ fault. Rebalances cmp t p.caps p (meets fault))
      (λ fault h. some_sending sends (subst (λ (q : Planned P). Settles cmp t q (meets fault)) (as_recapped p limited)
      h))

  pub rebalances_settled : (t : ℕ) (p new : Planned P) (cs out : List (Completed P)) → p.limited ≡ true → p.sending ≢ []
      → Settles cmp t p (goes cs new) → out ≡ [] ++ cs → Rebalances cmp t p.caps p (goes out new)
  rebalances_settled t p new cs out limited sends h is =
      subst (λ (l : List (Completed P)). Rebalances cmp t p.caps p (goes l new)) (sym is)
      (some_sending sends (subst (λ (q : Planned P). Settles cmp t q (goes cs new)) (as_recapped p limited) h))

  pub rebalances_looked : (t : ℕ) (p new : Planned P) (out : List (Completed P)) → p.limited ≡ true → p.sending ≡ []
      → PlansStart cmp t p new → out ≡ [] → Rebalances cmp t p.caps p (goes out new)
  rebalances_looked t p new out limited none h is =
      subst (λ (l : List (Completed P)). Rebalances cmp t p.caps p (goes l new)) (sym is)
      (none_sending none (subst (λ (q : Planned P). PlansStart cmp t q new) (as_recapped p limited) h))

  -- ---- a message is sent

  pub at_once_refused : (t : ℕ) (m : Message P) (p : Planned P) → p.limited ≡ false → (e : Error)
      → IsRefusedFor (λ fault. completed_at_once cmp t p m ≡ meets fault) e
      → IsRefusedFor (λ fault. Enqueues cmp t m p (meets fault)) e
  at_once_refused t m p free =
      refused_more (λ fault. completed_at_once cmp t p m ≡ meets fault) (λ fault. Enqueues cmp t m p (meets fault))
      (λ fault h. subst (Enqueues cmp t m p) h (at_once free))

  pub enqueues_at_once : (t : ℕ) (m : Message P) (p new : Planned P) (c : Completed P) → p.limited ≡ false
      → completed_at_once cmp t p m ≡ goes (c ∷ []) new → Enqueues cmp t m p (goes (c ∷ []) new)
  enqueues_at_once t m p new c free h = subst (Enqueues cmp t m p) h (at_once free)

  -- the completion of a message before any limit
  pub completes_so : (t : ℕ) (p new : Planned P) (m : Message P) (at : ℕ) (c : Completed P)
      → (m.should_deliver && nat_lt last_moment (t + m.latency)) ≡ false
      → at ≡ (if m.should_deliver then later_of (p.last_arrival m.origin m.recipient) (t + m.latency) else t)
      → c ≡ completion_of m t (then_some m.should_deliver at)
      → new ≡ record p { last_arrival = raised cmp p.last_arrival m at }
      → completed_at_once cmp t p m ≡ goes (c ∷ []) new
  completes_so t p new m at c in_time is completion world =
      let when = if m.should_deliver then later_of (p.last_arrival m.origin m.recipient) (t + m.latency) else t in
      let course : Course (Completed P) (Planned P) =
      goes (completion_of m t (if m.should_deliver then Some when else None) ∷ [])
      (record p { last_arrival = raised cmp p.last_arrival m when }) in
      let here : completed_at_once cmp t p m ≡ course =
      ap (λ (b : Bool). cond b (meets MomentTooLate) course) in_time in
      let answer : c ≡ completion_of m t (if m.should_deliver then Some when else None) =
      completion ∙ ap (completion_of m t) (then_some_is m.should_deliver m.should_deliver at when refl is) in
      let after : new ≡ record p { last_arrival = raised cmp p.last_arrival m when } =
      world ∙ ap (λ (n : ℕ). record p { last_arrival = raised cmp p.last_arrival m n }) is in
      here ∙ sym (λ i. goes (answer i ∷ []) (after i))

  pub too_late : (t : ℕ) (p : Planned P) (m : Message P)
      → (m.should_deliver && nat_lt last_moment (t + m.latency)) ≡ true
      → completed_at_once cmp t p m ≡ meets MomentTooLate
  too_late t p m is =
      let when = if m.should_deliver then later_of (p.last_arrival m.origin m.recipient) (t + m.latency) else t in
      let course : Course (Completed P) (Planned P) =
      goes (completion_of m t (if m.should_deliver then Some when else None) ∷ [])
      (record p { last_arrival = raised cmp p.last_arrival m when }) in
      ap (λ (b : Bool). cond b (meets MomentTooLate) course) is

  pub too_late_refused : (t : ℕ) (p : Planned P) (m : Message P) (e : Error)
      → (m.should_deliver && nat_lt last_moment (t + m.latency)) ≡ true → e ≡ MomentTooLate
      → IsRefusedFor (λ fault. completed_at_once cmp t p m ≡ meets fault) e
  too_late_refused t p m e is e_is =
      subst (IsRefusedFor (λ fault. completed_at_once cmp t p m ≡ meets fault)) (sym e_is) (too_late t p m is)

  module _ (t : ℕ) (m : Message P) (p : Planned P) (limited : p.limited ≡ true) where
    pub enqueue_launch_refused : (e : Error)
        → IsRefusedFor (λ fault. Launches cmp t (with_queued cmp p m) (next_of cmp (with_queued cmp p m) m)
        (meets fault)) e
        → IsRefusedFor (λ fault. Enqueues cmp t m p (meets fault)) e
    enqueue_launch_refused =
        refused_more (λ fault. Launches cmp t (with_queued cmp p m) (next_of cmp (with_queued cmp p m) m) (meets fault))
        (λ fault. Enqueues cmp t m p (meets fault)) (λ fault h. no_launch limited h)

    module _ (next : Planned P) (leavers : List (Message P))
        (launch : Launches cmp t (with_queued cmp p m) (next_of cmp (with_queued cmp p m) m) (goes leavers next)) where
      pub enqueue_finish_refused : (e : Error) → IsRefusedFor (λ fault. Finishes cmp t leavers next (meets fault)) e
          → IsRefusedFor (λ fault. Enqueues cmp t m p (meets fault)) e
      enqueue_finish_refused =
          refused_more (λ fault. Finishes cmp t leavers next (meets fault)) (λ fault. Enqueues cmp t m p (meets fault))
          (λ fault h. launches limited launch h)

      pub enqueues_launched : (new : Planned P) (cs : List (Completed P)) → Finishes cmp t leavers next (goes cs new)
          → Enqueues cmp t m p (goes cs new)
      enqueues_launched new cs finishes = launches limited launch finishes

  module _ (order : IsTotalOrder cmp) where
    -- what is said of the first message of a key's pair in one world is said of a message's pair in an equal one
    pub of_message : (F : Planned P → Option (Message P) → Type 0) (p q : Planned P) (key : PeerPair P) (m : Message P)
        → p ≡ q → NamesPairOf cmp key m → F p (first_of cmp p.waiting key.origin key.recipient) → F q (next_of cmp q m)
    of_message F p q key m same is h =
        subst (F q) (first_of_key cmp order key m q.waiting is)
        (subst (λ (r : Planned P). F r (first_of cmp r.waiting key.origin key.recipient)) same h)
