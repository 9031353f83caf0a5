-- Replies by the event rule agree with the simulation.
use Rattle.link_simulation.proofs.Common.{arith, ◌≡◌, ℕ, ◌≤◌, List, [], ◌∷◌, Some, refl, AllZip, Ordering, IsTotalOrder}
use Rattle.link_simulation.proofs.Common.{Error, OutOfMemory, NumberTooLarge, MomentTooLate, FlowIdsUsedUp, World}
use Rattle.link_simulation.proofs.Common.{new_world, Completed, goes, meets, last_moment, Call, call_next, moment_of}
use Rattle.link_simulation.proofs.Common.{Runs, IsInTurn, Reply, reply_done, reply_next, reply_refused, SameCompletion}
use Rattle.link_simulation.proofs.Common.{Faults, MayRefuse, Agrees, Planned, new_planned, Obeys, MayBeRefused, Obeyed}
use Rattle.link_simulation.proofs.Common.{InTime, StandsFor}
use Rattle.link_simulation.proofs.Rule.Limit.{new_stands}
use Rattle.link_simulation.proofs.Rule.NextEvent.{next_is_planned}
use Rattle.link_simulation.proofs.Rule.Obeys.{obeys_alike}

module _ {P : Type 0} (cmp : P → P → Ordering) (order : IsTotalOrder cmp) where
  pub same_trans : (c d e : Completed P) → SameCompletion cmp c d → SameCompletion cmp d e → SameCompletion cmp c e
  same_trans c d e f g = grind arith

  pub all_trans : (cs ds es : List (Completed P)) → AllZip (SameCompletion cmp) cs ds
      → AllZip (SameCompletion cmp) ds es → AllZip (SameCompletion cmp) cs es
  all_trans [] [] es f g = g
  all_trans [] (d ∷ ds) es f g = absurd f
  all_trans (c ∷ cs) [] es f g = absurd f
  all_trans (c ∷ cs) (d ∷ ds) [] f g = absurd g
  all_trans (c ∷ cs) (d ∷ ds) (e ∷ es) f g = (same_trans c d e f.0 g.0, all_trans cs ds es f.1 g.1)

  abbrev Led : Planned P → World P → Call P → ℕ → List (Completed P) → Planned P → Type 0
  Led p w call now ds q =
      (es : List (Completed P)) × (v : World P) × Runs cmp w call now (goes es v) × AllZip (SameCompletion cmp) ds es
      × StandsFor cmp q v

  leads : (p : Planned P) (w : World P) (call : Call P) (now : ℕ) (ds : List (Completed P)) (q : Planned P)
      → StandsFor cmp p w → moment_of call ≡ Some now → now ≤ last_moment
      → IsInTurn cmp w call → Obeys cmp p call (goes ds q) → Led p w call now ds q
  leads p w call now ds q stands at within turn obeys = grind (arith, obeys_alike)

  meets_too : (p : Planned P) (w : World P) (call : Call P) (now : ℕ) (fault : Error) → StandsFor cmp p w
      → moment_of call ≡ Some now → now ≤ last_moment → IsInTurn cmp w call
      → Obeys cmp p call (meets fault) → Faults cmp w call fault
  meets_too p w call now fault stands at within turn obeys = grind (arith, obeys_alike)

  refuses : (p : Planned P) (w : World P) (call : Call P) (now : ℕ) (why : Error) → StandsFor cmp p w
      → moment_of call ≡ Some now
      → now ≤ last_moment → IsInTurn cmp w call → MayBeRefused cmp p call why → MayRefuse cmp w call why
  refuses p w call now OutOfMemory stands at within turn may = tt
  refuses p w call now NumberTooLarge stands at within turn may = may
  refuses p w call now MomentTooLate stands at within turn may = grind (arith, meets_too)
  refuses p w call now FlowIdsUsedUp stands at within turn may = grind (arith, meets_too)

  Follow : List (Call P) → Type 0
  Follow calls =
      (replies : List (Reply P)) (p : Planned P) (w : World P) → StandsFor cmp p w → InTime calls
      → Obeyed cmp p calls replies → Agrees cmp w calls replies

  abbrev Accepted : World P → Call P → List (Call P) → List (Completed P) → List (Reply P) → Type 0
  Accepted w call calls cs replies =
      (now : ℕ) × (ds : List (Completed P)) × (v : World P) × (moment_of call ≡ Some now)
      × Runs cmp w call now (goes ds v) × AllZip (SameCompletion cmp) cs ds × Agrees cmp v calls replies

  accepts : (call : Call P) (calls : List (Call P)) (now : ℕ) (cs : List (Completed P)) (replies : List (Reply P))
      (p : Planned P) (w : World P)
      → Follow calls → StandsFor cmp p w → moment_of call ≡ Some now → now ≤ last_moment → InTime calls
      → IsInTurn cmp w call
      → (ds : List (Completed P)) × (q : Planned P) × Obeys cmp p call (goes ds q) × AllZip (SameCompletion cmp) cs ds
      × Obeyed cmp q calls replies → Accepted w call calls cs replies
  unfolding Follow
  accepts call calls now cs replies p w ih stands at within in_time turn (ds, q, obeys, same, rest) =
      grind (arith, leads, all_trans)

  -- replies by the event rule agree with the simulation
  follows : (calls : List (Call P)) → Follow calls
  unfolding Follow
  follows [] [] p w stands in_time obeyed = tt
  follows [] (reply ∷ replies) p w stands in_time obeyed = obeyed
  follows (call ∷ calls) [] p w stands in_time obeyed = obeyed
  follows (call_next ∷ calls) (reply_next t ∷ replies) p w stands in_time obeyed =
      grind (arith, next_is_planned, (follows calls replies p w stands))
  follows (call_next ∷ calls) (reply_done cs ∷ replies) p w stands in_time obeyed = obeyed
  follows (call_next ∷ calls) (reply_refused why ∷ replies) p w stands in_time obeyed = obeyed
  follows (call ∷ calls) (reply_next t ∷ replies) p w stands in_time obeyed = obeyed
  follows (call ∷ calls) (reply_done cs ∷ replies) p w stands in_time obeyed =
      λ turn. accepts call calls _ cs replies p w (follows calls) stands refl (in_time.0 _ refl) in_time.1 turn obeyed
  follows (call ∷ calls) (reply_refused why ∷ replies) p w stands in_time obeyed =
      λ turn. (
        refuses p w call _ why stands refl (in_time.0 _ refl) turn obeyed.0,
        follows calls replies p w stands in_time.1 obeyed.1,
      )

  pub obeyed_agree : (calls : List (Call P)) (replies : List (Reply P)) → InTime calls
      → Obeyed cmp (new_planned 0) calls replies → Agrees cmp (new_world 0) calls replies
  unfolding Follow
  obeyed_agree calls replies in_time obeyed =
      follows calls replies (new_planned 0) (new_world 0) (new_stands cmp order 0) in_time obeyed
