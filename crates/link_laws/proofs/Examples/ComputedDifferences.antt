-- Replies that do not agree with the simulation, found by computing: for worked examples.
use Rattle.link_simulation.proofs.Common.{arith, ◌≡◌, ℕ, ◌-◌, ◌≤◌, List, [], ◌∷◌, Bool, true, false, not, Option, Some}
use Rattle.link_simulation.proofs.Common.{None, refl, sym, ◌∙◌, subst, ◌&&◌, ◌||◌, ◌==◌, nat_le, nat_lt, AllZip}
use Rattle.link_simulation.proofs.Common.{Ordering, IsTotalOrder, leb-true, ltb-true, eq-eqb, and_parts, Error}
use Rattle.link_simulation.proofs.Common.{OutOfMemory, NumberTooLarge, MomentTooLate, FlowIdsUsedUp, same_peer, World}
use Rattle.link_simulation.proofs.Common.{new_world, Completed, Course, goes, meets, IsSound, Call, call_limit}
use Rattle.link_simulation.proofs.Common.{call_limit_link, call_enqueue, call_advance, call_enqueue_all, call_next}
use Rattle.link_simulation.proofs.Common.{moment_of, Runs, IsBeforeNext, Reply, reply_done, reply_next, reply_refused}
use Rattle.link_simulation.proofs.Common.{SameCompletion, Faults, MayRefuse, Agrees}
use Rattle.link_simulation.proofs.Simulation.OneNext.{next_is_one}
use Rattle.link_simulation.proofs.Simulation.OneRun.{runs_are_one}
use Rattle.link_simulation.proofs.Simulation.Sound.{call_keeps_sound, new_world_sound}
use Rattle.link_laws.proofs.Examples.ComputedReplies.{Shares, may_tick, may_seek, seek, next_so, course_of, runs_so}

module _ {P : Type 0} (cmp : P → P → Ordering) (order : IsTotalOrder cmp) (plan : World P → Shares) where
  -- ---- tests

  abbrev pub same_moment : Option ℕ → Option ℕ → Bool
  same_moment None None = true
  same_moment None (Some t) = false
  same_moment (Some s) None = false
  same_moment (Some s) (Some t) = s == t

  abbrev pub same_bytes : List ℕ → List ℕ → Bool
  same_bytes [] [] = true
  same_bytes [] (b ∷ bs) = false
  same_bytes (a ∷ bs) [] = false
  same_bytes (a ∷ bs) (c ∷ cs) = (a == c) && same_bytes bs cs

  abbrev pub same_one : Completed P → Completed P → Bool
  same_one c d =
      same_peer cmp c.origin d.origin && same_peer cmp c.recipient d.recipient && (c.channel == d.channel)
      && same_bytes c.bytes d.bytes && (c.done_at == d.done_at) && same_moment c.deliver_at d.deliver_at

  abbrev pub same_each : List (Completed P) → List (Completed P) → Bool
  same_each [] [] = true
  same_each [] (d ∷ ds) = false
  same_each (c ∷ cs) [] = false
  same_each (c ∷ cs) (d ∷ ds) = same_one c d && same_each cs ds

  abbrev pub is_later : Option ℕ → ℕ → Bool
  is_later None now = true
  is_later (Some t) now = nat_lt now t

  abbrev before_next : ℕ → World P → ℕ → Bool
  before_next n w now = nat_le w.moment now && may_seek cmp order plan n w && is_later (seek cmp order plan n w) now

  abbrev differ_done : Course (Completed P) (World P) → List (Completed P) → (World P → Bool) → Bool
  differ_done (goes ds v) cs rest = not (same_each cs ds) || rest v
  differ_done (meets fault) cs rest = true

  -- whether the course meets that fault
  abbrev pub is_met : Error → Course (Completed P) (World P) → Bool
  is_met MomentTooLate (meets MomentTooLate) = true
  is_met FlowIdsUsedUp (meets FlowIdsUsedUp) = true
  is_met _ _ = false

  -- whether the call does not meet it
  abbrev is_none_such : World P → Call P → ℕ → Error → Bool
  is_none_such w call now why =
      may_tick cmp order plan (now - w.moment) w && not (is_met why (course_of cmp order plan w call now))

  abbrev differ_refused : World P → Call P → ℕ → Error → Bool → Bool
  differ_refused w call now OutOfMemory rest = rest
  differ_refused w call now NumberTooLarge rest = true
  differ_refused w call now MomentTooLate rest = is_none_such w call now MomentTooLate || rest
  differ_refused w call now FlowIdsUsedUp rest = is_none_such w call now FlowIdsUsedUp || rest

  abbrev differ_at : World P → Call P → ℕ → Reply P → (World P → Bool) → Bool
  differ_at w call now (reply_next t) rest = true
  differ_at w call now (reply_refused why) rest = differ_refused w call now why (rest w)
  differ_at w call now (reply_done cs) rest =
      may_tick cmp order plan (now - w.moment) w && differ_done (course_of cmp order plan w call now) cs rest

  -- whether a reply, up to which all calls are in turn, is not that of the simulation
  abbrev pub differ : ℕ → World P → List (Call P) → List (Reply P) → Bool
  differ n w [] [] = false
  differ n w [] (reply ∷ replies) = true
  differ n w (call ∷ calls) [] = true
  differ n w (call_next ∷ calls) (reply_next t ∷ replies) =
      may_seek cmp order plan n w && (not (same_moment (seek cmp order plan n w) t) || differ n w calls replies)
  differ n w (call_next ∷ calls) (reply_done cs ∷ replies) = true
  differ n w (call_next ∷ calls) (reply_refused why ∷ replies) = true
  differ n w (call_limit now peer egress ingress ∷ calls) (reply ∷ replies) =
      before_next n w now && differ_at w (call_limit now peer egress ingress) now reply (λ v. differ n v calls replies)
  differ n w (call_limit_link now origin recipient cap ∷ calls) (reply ∷ replies) =
      before_next n w now && differ_at w (call_limit_link now origin recipient cap) now reply
      (λ v. differ n v calls replies)
  differ n w (call_enqueue now m ∷ calls) (reply ∷ replies) =
      before_next n w now && differ_at w (call_enqueue now m) now reply (λ v. differ n v calls replies)
  differ n w (call_enqueue_all now ms ∷ calls) (reply ∷ replies) =
      before_next n w now && differ_at w (call_enqueue_all now ms) now reply (λ v. differ n v calls replies)
  differ n w (call_advance now ∷ calls) (reply ∷ replies) =
      nat_le w.moment now && differ_at w (call_advance now) now reply (λ v. differ n v calls replies)

  -- ---- what they show

  moment_shown : (s t : Option ℕ) → s ≡ t → same_moment s t ≡ true
  moment_shown None None e = refl
  moment_shown None (Some t) e = cc
  moment_shown (Some s) None e = cc
  moment_shown (Some s) (Some t) e = let same : s ≡ t = cc in eq-eqb s t same

  bytes_shown : (bs : List ℕ) → same_bytes bs bs ≡ true
  bytes_shown [] = refl
  bytes_shown (b ∷ bs) = rw (eq-eqb b b refl, bytes_shown bs) refl

  each_shown : (cs ds : List (Completed P)) → AllZip (SameCompletion cmp) cs ds → same_each cs ds ≡ true
  each_shown [] [] all = refl
  each_shown [] (d ∷ ds) all = absurd all
  each_shown (c ∷ cs) [] all = absurd all
  each_shown (c ∷ cs) (d ∷ ds) all = grind (arith, bytes_shown, eq-eqb, moment_shown, (each_shown cs ds))

  either : (a b : Bool) {R : Type 0} → (not a || b) ≡ true → a ≡ true → (b ≡ true → R) → R
  either true true e is next = next refl
  either true false e is next = cc
  either false b e is next = cc

  -- a call before the next event is in turn
  pub in_turn : (n : ℕ) (w : World P) (now : ℕ) → IsSound cmp w → before_next n w now ≡ true → (w.moment ≤ now)
      × IsBeforeNext cmp now w
  in_turn n w now sound e =
      let two = and_parts _ _ e in
      let one = and_parts (nat_le w.moment now) (may_seek cmp order plan n w) two.0 in
      grind (arith, next_is_one, is_later, ltb-true, (leb-true w.moment now one.0), (next_so cmp order plan n w one.1))

  abbrev Disagrees : ℕ → List (Call P) → List (Reply P) → Type 0
  Disagrees n calls replies =
      (w : World P) → IsSound cmp w → differ n w calls replies ≡ true → ¬ Agrees cmp w calls replies

  abbrev Accepted : World P → Call P → List (Call P) → List (Completed P) → List (Reply P) → Type 0
  Accepted w call calls cs replies =
      (now : ℕ) × (ds : List (Completed P)) × (v : World P) × (moment_of call ≡ Some now)
      × Runs cmp w call now (goes ds v) × AllZip (SameCompletion cmp) cs ds × Agrees cmp v calls replies

  not_done : (n : ℕ) (w : World P) (call : Call P) (calls : List (Call P)) (now : ℕ) (cs : List (Completed P))
      (replies : List (Reply P)) → Disagrees n calls replies → IsSound cmp w → moment_of call ≡ Some now
      → differ_at w call now (reply_done cs) (λ v. differ n v calls replies) ≡ true → ¬ Accepted w call calls cs replies
  not_done n w call calls now cs replies ih sound at e (now_too, ds, v, at_too, runs, same, rest) =
      let two : (may_tick cmp order plan (now - w.moment) w ≡ true) × (differ_done (course_of cmp order plan w call now)
      cs (λ u. differ n u calls replies) ≡ true) = grind (arith, and_parts) in
      let here = sym at_too ∙ at in
      let it : now_too ≡ now = cc in
      let runs_here = subst (λ (t : ℕ). Runs cmp w call t (goes ds v)) it runs in
      let one = runs_are_one cmp order w call now (course_of cmp order plan w call now) (goes ds v) sound
      (runs_so cmp order plan w call now two.0) runs_here in
      let left : (not (same_each cs ds) || differ n v calls replies) ≡ true = grind arith in
      let sound_v = call_keeps_sound cmp order w call now (goes ds v) sound runs_here in
      grind (arith, either, (each_shown cs ds same))

  -- a fault that is met is the one that is computed
  met : (w : World P) (call : Call P) (now : ℕ) (why : Error) → IsSound cmp w → moment_of call ≡ Some now
      → is_none_such w call now why ≡ true → Faults cmp w call why → is_met why (meets why) ≡ true → ⊥
  met w call now why sound at e (now_too, at_too, runs) is =
      let two : (may_tick cmp order plan (now - w.moment) w ≡ true)
      × (not (is_met why (course_of cmp order plan w call now)) ≡ true)
      = grind (arith, and_parts) in
      let here : Some now_too ≡ Some now = sym at_too ∙ at in
      let it : now_too ≡ now = cc in
      let one = runs_are_one cmp order w call now (course_of cmp order plan w call now) (meets why) sound
      (runs_so cmp order plan w call now two.0) (subst (λ (t : ℕ). Runs cmp w call t (meets why)) it runs) in
      let not_met : not (is_met why (meets why)) ≡ true = grind arith in
      let clash : not true ≡ true = subst (λ (b : Bool). not b ≡ true) is not_met in
      cc

  either_too : (a b : Bool) {R : Type 0} → (a || b) ≡ true → (a ≡ true → ⊥) → (b ≡ true → R) → R
  either_too true b e never next = absurd (never refl)
  either_too false b e never next = next e

  not_refused : (n : ℕ) (w : World P) (call : Call P) (calls : List (Call P)) (now : ℕ) (why : Error)
      (replies : List (Reply P)) → Disagrees n calls replies → IsSound cmp w → moment_of call ≡ Some now
      → differ_at w call now (reply_refused why) (λ v. differ n v calls replies) ≡ true
      → ¬ (MayRefuse cmp w call why × Agrees cmp w calls replies)
  not_refused n w call calls now OutOfMemory replies ih sound at e (may, rest) = ih w sound e rest
  not_refused n w call calls now NumberTooLarge replies ih sound at e (may, rest) = may
  not_refused n w call calls now why replies ih sound at e (may, rest) =
      either_too _ _ e (λ none. met w call now why sound at none may refl) (λ d. ih w sound d rest)

  -- such replies do not agree
  pub disagree : (n : ℕ) (calls : List (Call P)) (replies : List (Reply P)) → Disagrees n calls replies
  disagree n [] [] w sound e agrees = cc
  disagree n [] (reply ∷ replies) w sound e agrees = agrees
  disagree n (call ∷ calls) [] w sound e agrees = agrees
  disagree n (call_next ∷ calls) (reply_next t ∷ replies) w sound e agrees =
      let two : (may_seek cmp order plan n w ≡ true)
      × ((not (same_moment (seek cmp order plan n w) t) || differ n w calls replies) ≡ true)
      = grind (arith, and_parts, same_moment) in
      let same : seek cmp order plan n w ≡ t =
      next_is_one cmp order w (seek cmp order plan n w) t sound.positive (next_so cmp order plan n w two.0) agrees.0 in
      either _ _ two.1 (moment_shown _ t same) (λ d. disagree n calls replies w sound d agrees.1)
  disagree n (call_next ∷ calls) (reply_done cs ∷ replies) w sound e agrees = agrees
  disagree n (call_next ∷ calls) (reply_refused why ∷ replies) w sound e agrees = agrees
  disagree n (call_advance now ∷ calls) (reply_done cs ∷ replies) w sound e agrees =
      let two = and_parts _ _ e in
      not_done n w (call_advance now) calls now cs replies (disagree n calls replies) sound refl two.1
      (agrees (leb-true w.moment now two.0))
  disagree n (call_advance now ∷ calls) (reply_refused why ∷ replies) w sound e agrees =
      grind (arith, and_parts, not_refused, leb-true, (disagree n calls replies))
  disagree n (call ∷ calls) (reply_next t ∷ replies) w sound e agrees = agrees
  disagree n (call ∷ calls) (reply_done cs ∷ replies) w sound e agrees =
      let two = and_parts _ _ e in
      not_done n w call calls _ cs replies (disagree n calls replies) sound refl two.1
      (agrees (in_turn n w _ sound two.0))
  disagree n (call ∷ calls) (reply_refused why ∷ replies) w sound e agrees =
      grind (arith, and_parts, not_refused, in_turn, (disagree n calls replies))

  -- from the new world on
  pub never_agree : (n id : ℕ) (calls : List (Call P)) (replies : List (Reply P))
      → differ n (new_world id) calls replies ≡ true → ¬ Agrees cmp (new_world id) calls replies
  never_agree n id calls replies e = disagree n calls replies (new_world id) (new_world_sound cmp order id) e
