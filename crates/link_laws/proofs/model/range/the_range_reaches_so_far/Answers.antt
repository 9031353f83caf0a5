use Rattle.link_simulation.proofs.Common.{common_steps, ◌≡◌, ℕ, zero, suc, ◌<◌, ◌^◌, List, ◌∷◌, refl, ap, arith}
use Rattle.link_simulation.proofs.Common.{IfSome, Message, Call, call_enqueue, moment_of, enqueued}
use Rattle.std.proofs.Common.{replicate}
use Rattle.std.proofs.lemmas.List.{length-replicate}
use Rattle.std.proofs.lemmas.List.Elements.{All-replicate}
use Rattle.link_laws.proofs.model.range.the_range_reaches_so_far.Goals as goal
use Rattle.link_laws.specs.Examples.Rows.{message}

abbrev IsSoon : Call ℕ → Type 0
IsSoon call = IfSome (moment_of call) (λ now. now < 2 ^ 63)

abbrev IsNear : Message ℕ → Type 0
IsNear m = m.latency < 2 ^ 63

-- the last nanosecond of the range
abbrev edge : ℕ
edge = 9_223_372_036_854_775_807

abbrev at_edge : Call ℕ
at_edge = call_enqueue edge (message 1 2 0 edge)

pub returns-clause-calls : goal.returns-clause-calls
returns-clause-calls c = grind arith

alike : (n : ℕ) (m : Message ℕ) → enqueued (replicate n (call_enqueue 0 m)) ≡ replicate n m
alike zero m = refl
alike (suc n) m = ap (λ (ms : List (Message ℕ)). m ∷ ms) (alike n m)

pub returns-clause-messages : goal.returns-clause-messages
returns-clause-messages c n few = grind (arith, common_steps, All-replicate, alike, length-replicate)

pub returns-clause-planned : goal.returns-clause-planned
returns-clause-planned c = grind arith

pub returns-clause-held : goal.returns-clause-held
returns-clause-held c p none one id = grind arith
