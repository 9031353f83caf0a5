-- Which calls come in their turn, and what the simulation replies to them.
use Rattle.std.specs.Prelude.{◌≡◌, ◌≢◌, ⊤, ℕ, ◌<◌, ◌≤◌, List, [], ◌∷◌, Option, Some, IfSome}
use Rattle.std.specs.List.{AllZip}
use Rattle.std.specs.declared.cmp.Ordering.{Ordering}
use Rattle.link_simulation.specs.Rule.Planned.{Planned}
use Rattle.link_simulation.specs.Rule.StandsFor.{StandsFor}
use Rattle.link_simulation.specs.Simulation.World.{World, Completed, goes}
use Rattle.link_simulation.specs.Simulation.Time.{NextIs}
use Rattle.link_simulation.specs.Simulation.Calls.{Call, call_limit, call_limit_link, call_enqueue, call_advance}
use Rattle.link_simulation.specs.Simulation.Calls.{call_enqueue_all, call_next, moment_of, Runs, IsInTurn}
use Rattle.link_simulation.specs.Simulation.Replies.{Reply, reply_done, reply_next, reply_refused}
use Rattle.link_simulation.specs.Simulation.Replies.{SameCompletion, MayRefuse}

-- with that moment reached and that next event to come, the call does not go back, and where it changes caps or sends
-- messages it comes before the event
abbrev pub IsTimely : {P : Type 0} → ℕ → Option ℕ → Call P → Type 0
IsTimely reached next (call_limit now peer egress ingress) = (reached ≤ now) × IfSome next (λ t. now < t)
IsTimely reached next (call_limit_link now origin recipient cap) = (reached ≤ now) × IfSome next (λ t. now < t)
IsTimely reached next (call_enqueue now m) = (reached ≤ now) × IfSome next (λ t. now < t)
IsTimely reached next (call_enqueue_all now ms) = (reached ≤ now) × IfSome next (λ t. now < t)
IsTimely reached next (call_advance now) = reached ≤ now
IsTimely reached next call_next = ⊤

-- the moment that is reached after a call with that reply: its own, where it was made
abbrev pub reached_after : {P : Type 0} → ℕ → Call P → Reply P → ℕ
reached_after reached (call_limit now peer egress ingress) (reply_done cs) = now
reached_after reached (call_limit_link now origin recipient cap) (reply_done cs) = now
reached_after reached (call_enqueue now m) (reply_done cs) = now
reached_after reached (call_enqueue_all now ms) (reply_done cs) = now
reached_after reached (call_advance now) (reply_done cs) = now
reached_after reached call_next (reply_done cs) = reached
reached_after reached call (reply_next t) = reached
reached_after reached call (reply_refused why) = reached

module _ {P : Type 0} (cmp : P → P → Ordering) where
  -- the simulation replies so to the call on the world w, and is then in the world v
  abbrev pub RepliesSo : World P → Call P → Reply P → World P → Type 0
  RepliesSo w call (reply_next t) v = (call ≡ call_next) × NextIs cmp w t × (v ≡ w)
  RepliesSo w call (reply_refused why) v = (call ≢ call_next) × MayRefuse cmp w call why × (v ≡ w)
  RepliesSo w call (reply_done cs) v =
      (now : ℕ) × (ds : List (Completed P)) × (moment_of call ≡ Some now) × Runs cmp w call now (goes ds v)
      × AllZip (SameCompletion cmp) cs ds

  -- each call comes in its turn, and has the simulation's reply
  abbrev pub AgreesInTurn : World P → List (Call P) → List (Reply P) → Type 0
  AgreesInTurn w [] [] = ⊤
  AgreesInTurn w [] (reply ∷ replies) = ⊥
  AgreesInTurn w (call ∷ calls) [] = ⊥
  AgreesInTurn w (call ∷ calls) (reply ∷ replies) =
      IsInTurn cmp w call × ((v : World P) × RepliesSo w call reply v × AgreesInTurn v calls replies)

  -- the simulation replies so to the call on the world w, and the planned world q stands for the one that it is in then
  pub record IsSimulatedReply (w : World P) (call : Call P) (reply : Reply P) (q : Planned P) : Type 0 where
    pub after : World P
    pub replies : RepliesSo w call reply after
    pub stands : StandsFor cmp q after
    pub moment : after.moment ≡ reached_after w.moment call reply
