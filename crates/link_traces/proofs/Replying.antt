-- Replies of a scheduler, one by one.
use Rattle.link_traces.proofs.Common.{◌≡◌, ℕ, ◌<◌, ◌≤◌, List, [], ◌∷◌, ◌++◌, Option, Some, refl, sym, ◌∙◌, subst}
use Rattle.link_traces.proofs.Common.{IfSome, append_assoc, reply_of, IsReplyTo, planned_of, Makes, one_more, Planned}
use Rattle.link_traces.proofs.Common.{new_planned, Obeyed, StandsFor, Call, call_enqueue, moment_of, IsInTurn, Reply}
use Rattle.link_traces.proofs.Common.{reply_done, reply_refused, World, Completed, new_world, reached_after}
use Rattle.link_traces.proofs.Common.{AgreesInTurn, IsSimulatedReply}
use Rattle.std.proofs.Common.{◌≢◌}
use Rattle.std.specs.declared.cmp.Ord.{Ghosts}
use Rattle.std.specs.declared.cmp.Ordering.{Ordering}
use Rattle.std.specs.Cmp.{IsTotalOrder}
use Rattle.fairness.specs.declared.error.Error.{Error}
use Rattle.fairness.specs.declared.error.Error.TheVariants.{OutOfMemory, NumberTooLarge, MomentTooLate, FlowIdsUsedUp}
use Rattle.link_scheduler.specs.declared.call.Reply as reply_code
use Rattle.link_scheduler.specs.declared.call.Reply.TheVariants as replies
use Rattle.link_scheduler.specs.declared.transmitter.State.{State}
use Rattle.link_scheduler.specs.Calls.Replay.{IsAnswered, MayRefuseCall}
use Rattle.link_scheduler.specs.Calls.State.{Refuses}
use Rattle.link_simulation.specs.Rule.Simulated.{MeetsFault, IsNextInSimulation, IsRun}
use Rattle.link_simulation.proofs.Rule.OneMeaning.{one_next}
use Rattle.link_simulation.specs.Simulation.Calls.{call_limit, call_limit_link, call_advance}
use Rattle.link_simulation.specs.Simulation.Calls.{call_enqueue_all, call_next}
use Rattle.link_simulation.specs.Simulation.Replies.{MayRefuse}
use Rattle.link_simulation.specs.Simulation.RefusalCauses.{IsRefusedFor}
use Rattle.link_simulation.specs.Simulation.Time.{NextIs}
use Rattle.link_traces.specs.Turns.{IsTimely, RepliesSo}

module _ {P : Type 0} (cmp : P → P → Ordering) (order : IsTotalOrder cmp) where
  -- ---- a call that is in turn

  before_next : (p : Planned P) (w : World P) (now : ℕ) (next : Option ℕ) → IsNextInSimulation cmp p next
      → StandsFor cmp p w → IfSome next (λ t. now < t)
      → (other : Option ℕ) → NextIs cmp w other → IfSome other (λ t. now < t)
  before_next p w now next simulated stands later other is =
      subst (λ (o : Option ℕ). IfSome o (λ t. now < t)) (one_next cmp order p w next other simulated stands is) later

  -- a call that is timely comes in its turn
  pub timely_is_in_turn : (p : Planned P) (w : World P) (reached : ℕ) (next : Option ℕ) (call : Call P)
      → IsNextInSimulation cmp p next → StandsFor cmp p w → w.moment ≡ reached → IsTimely reached next call
      → IsInTurn cmp w call
  timely_is_in_turn p w reached next (call_limit now peer egress ingress) simulated stands at timely =
      (subst (λ (m : ℕ). m ≤ now) (sym at) timely.0, before_next p w now next simulated stands timely.1)
  timely_is_in_turn p w reached next (call_limit_link now origin recipient cap) simulated stands at timely =
      (subst (λ (m : ℕ). m ≤ now) (sym at) timely.0, before_next p w now next simulated stands timely.1)
  timely_is_in_turn p w reached next (call_enqueue now m) simulated stands at timely =
      (subst (λ (m : ℕ). m ≤ now) (sym at) timely.0, before_next p w now next simulated stands timely.1)
  timely_is_in_turn p w reached next (call_enqueue_all now ms) simulated stands at timely =
      (subst (λ (m : ℕ). m ≤ now) (sym at) timely.0, before_next p w now next simulated stands timely.1)
  timely_is_in_turn p w reached next (call_advance now) simulated stands at timely =
      subst (λ (m : ℕ). m ≤ now) (sym at) timely
  timely_is_in_turn p w reached next call_next simulated stands at timely = tt

  -- ---- what it is answered

  pub made_is_simulated : (p q : Planned P) (w : World P) (call : Call P) (now : ℕ) (cs : List (Completed P))
      → Makes cmp p call cs q → StandsFor cmp p w → IsInTurn cmp w call → moment_of call ≡ Some now
      → reached_after w.moment call (reply_done cs) ≡ now → IsSimulatedReply cmp w call (reply_done cs) q
  made_is_simulated p q w call now cs makes stands turn at reached =
      let run : IsRun cmp w call now cs q = makes.simulated w now (record { stands = stands; moment = at; turn = turn })
      in
      record {
        after = run.after;
        replies = (now, run.answers, at, run.runs, run.same);
        stands = run.stands;
        moment = run.moment ∙ sym reached;
      }

  refused_for : (p : Planned P) (w : World P) (call : Call P) (now : ℕ) (why : Error) → StandsFor cmp p w
      → IsInTurn cmp w call → moment_of call ≡ Some now → IsRefusedFor (MeetsFault cmp p call) why
      → MayRefuse cmp w call why
  refused_for p w call now OutOfMemory stands turn at cause = tt
  refused_for p w call now NumberTooLarge stands turn at cause = cause
  refused_for p w call now MomentTooLate stands turn at cause =
      cause w now (record { stands = stands; moment = at; turn = turn })
  refused_for p w call now FlowIdsUsedUp stands turn at cause =
      cause w now (record { stands = stands; moment = at; turn = turn })

  refused_is_simulated : (p q : Planned P) (w : World P) (call : Call P) (now : ℕ) (why : Error)
      → Refuses cmp p call why → q ≡ p → StandsFor cmp p w → IsInTurn cmp w call → moment_of call ≡ Some now
      → call ≢ call_next → w.moment ≡ reached_after w.moment call (reply_refused why)
      → IsSimulatedReply cmp w call (reply_refused why) q
  refused_is_simulated p q w call now why refuses same stands turn at other reached = record {
    after = w;
    replies = (other, refused_for p w call now why stands turn at refuses.simulated.cause, refl);
    stands = subst (λ (r : Planned P). StandsFor cmp r w) (sym same) stands;
    moment = reached;
  }

  -- ---- one call more

  pub obeys_more : (p q : Planned P) (calls : List (Call P)) (replies : List (Reply P)) (call : Call P)
      (reply : Reply P)
      → ((cs : List (Call P)) (rs : List (Reply P)) → Obeyed cmp p cs rs
      → Obeyed cmp (new_planned 0) (calls ++ cs) (replies ++ rs))
      → IsReplyTo cmp p call reply q
      → (cs : List (Call P)) (rs : List (Reply P)) → Obeyed cmp q cs rs
      → Obeyed cmp (new_planned 0) ((calls ++ call ∷ []) ++ cs) ((replies ++ reply ∷ []) ++ rs)
  obeys_more p q calls replies call reply so is cs rs rest =
      subst (λ (l : List (Call P)). Obeyed cmp (new_planned 0) l ((replies ++ reply ∷ []) ++ rs))
      (sym (append_assoc calls (call ∷ []) cs))
      (subst (Obeyed cmp (new_planned 0) (calls ++ call ∷ cs)) (sym (append_assoc replies (reply ∷ []) rs))
      (so (call ∷ cs) (reply ∷ rs) (one_more cmp order p q call reply cs rs is rest)))

  pub in_turn_more : (w v : World P) (calls : List (Call P)) (replies : List (Reply P)) (call : Call P)
      (reply : Reply P)
      → ((cs : List (Call P)) (rs : List (Reply P)) → AgreesInTurn cmp w cs rs
      → AgreesInTurn cmp (new_world 0) (calls ++ cs) (replies ++ rs))
      → IsInTurn cmp w call → RepliesSo cmp w call reply v
      → (cs : List (Call P)) (rs : List (Reply P)) → AgreesInTurn cmp v cs rs
      → AgreesInTurn cmp (new_world 0) ((calls ++ call ∷ []) ++ cs) ((replies ++ reply ∷ []) ++ rs)
  in_turn_more w v calls replies call reply so turn is cs rs rest =
      subst (λ (l : List (Call P)). AgreesInTurn cmp (new_world 0) l ((replies ++ reply ∷ []) ++ rs))
      (sym (append_assoc calls (call ∷ []) cs))
      (subst (AgreesInTurn cmp (new_world 0) (calls ++ call ∷ cs)) (sym (append_assoc replies (reply ∷ []) rs))
      (so (call ∷ cs) (reply ∷ rs) (turn, (v, is, rest))))

-- ---- of schedulers

module _ {P : Type 0} {order : Ghosts P} {b : _} {c : _} (total : IsTotalOrder order.cmp)
    (old new : State P (List ℕ) order b c) (w : World P) (stands : StandsFor order.cmp (planned_of old) w) where
  pub answered_is_simulated : (call : Call P) (reply : reply_code.Reply P (List ℕ)) → IsAnswered old call reply new
      → IsInTurn order.cmp w call → IsSimulatedReply order.cmp w call (reply_of reply) (planned_of new)
  answered_is_simulated call_next (replies.Next moment) h turn = record {
    after = w;
    replies = (refl, h.0.simulated w stands, refl);
    stands = subst (λ (s : State P (List ℕ) order b c). StandsFor order.cmp (planned_of s) w) (sym h.1) stands;
    moment = refl;
  }
  answered_is_simulated call_next (replies.Done completions) h turn = absurd h
  answered_is_simulated call_next (replies.Refused why) h turn = absurd h
  answered_is_simulated (call_limit now peer egress ingress) (replies.Done completions) h turn =
      made_is_simulated order.cmp total _ _ w _ now _ h stands turn refl refl
  answered_is_simulated (call_limit now peer egress ingress) (replies.Next moment) h turn = absurd h
  answered_is_simulated (call_limit now peer egress ingress) (replies.Refused why) h turn = absurd h
  answered_is_simulated (call_limit_link now origin recipient cap) (replies.Done completions) h turn =
      made_is_simulated order.cmp total _ _ w _ now _ h stands turn refl refl
  answered_is_simulated (call_limit_link now origin recipient cap) (replies.Next moment) h turn = absurd h
  answered_is_simulated (call_limit_link now origin recipient cap) (replies.Refused why) h turn = absurd h
  answered_is_simulated (call_enqueue now m) (replies.Done completions) h turn =
      made_is_simulated order.cmp total _ _ w _ now _ h stands turn refl refl
  answered_is_simulated (call_enqueue now m) (replies.Next moment) h turn = absurd h
  answered_is_simulated (call_enqueue now m) (replies.Refused why) h turn = absurd h
  answered_is_simulated (call_enqueue_all now ms) (replies.Done completions) h turn =
      made_is_simulated order.cmp total _ _ w _ now _ h stands turn refl refl
  answered_is_simulated (call_enqueue_all now ms) (replies.Next moment) h turn = absurd h
  answered_is_simulated (call_enqueue_all now ms) (replies.Refused why) h turn = absurd h
  answered_is_simulated (call_advance now) (replies.Done completions) h turn =
      made_is_simulated order.cmp total _ _ w _ now _ h stands turn refl refl
  answered_is_simulated (call_advance now) (replies.Next moment) h turn = absurd h
  answered_is_simulated (call_advance now) (replies.Refused why) h turn = absurd h

  pub refused_is_answered : (call : Call P) (why : Error) → MayRefuseCall old call why
      → planned_of new ≡ planned_of old → IsInTurn order.cmp w call
      → IsSimulatedReply order.cmp w call (reply_refused why) (planned_of new)
  refused_is_answered call_next why h same turn = absurd h
  refused_is_answered (call_limit now peer egress ingress) why h same turn =
      refused_is_simulated order.cmp total _ _ w _ now why h same stands turn refl (λ e. cc) refl
  refused_is_answered (call_limit_link now origin recipient cap) why h same turn =
      refused_is_simulated order.cmp total _ _ w _ now why h same stands turn refl (λ e. cc) refl
  refused_is_answered (call_enqueue now m) why h same turn =
      refused_is_simulated order.cmp total _ _ w _ now why h same stands turn refl (λ e. cc) refl
  refused_is_answered (call_enqueue_all now ms) why h same turn =
      refused_is_simulated order.cmp total _ _ w _ now why h same stands turn refl (λ e. cc) refl
  refused_is_answered (call_advance now) why h same turn =
      refused_is_simulated order.cmp total _ _ w _ now why h same stands turn refl (λ e. cc) refl
