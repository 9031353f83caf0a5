-- How far a trace is checked.
use Rattle.std.specs.Prelude.{◌≡◌, ℕ, List, [], ◌++◌, All, map, length, drop, None}
use Rattle.std.specs.List.{flat_map}
use Rattle.std.specs.Ordering.{nat_cmp}
use Rattle.link_scheduler.specs.declared.call.Call as script
use Rattle.link_scheduler.specs.Calls.State.{planned_of}
use Rattle.link_scripts.specs.Schedule.{world_call}
use Rattle.link_scripts.specs.Script.{IsCallOfScriptInRange}
use Rattle.link_simulation.specs.Rule.Planned.{new_planned}
use Rattle.link_simulation.specs.Rule.Refusals.{Obeyed}
use Rattle.link_simulation.specs.Rule.StandsFor.{StandsFor}
use Rattle.link_simulation.specs.Simulation.Calls.{Call}
use Rattle.link_simulation.specs.Simulation.Replies.{Reply}
use Rattle.link_simulation.specs.Simulation.World.{World, new_world}
use Rattle.link_traces.specs.declared.linkcheck.progress.Progress.{Progress}
use Rattle.link_traces.specs.Trace.{done_in, transcript_of}
use Rattle.link_traces.specs.Turns.{AgreesInTurn}

-- what the last call is answered and the trace has not said yet
abbrev pub due : Progress → List ℕ
due p = drop p.said p.answers.items

-- the trace said these bytes so far: of calls and of what they are answered nothing else is due
pub record IsTold (said : List ℕ) (p : Progress) : Type 0 where
  pub calls : List (script.Call ℕ ℕ)
  pub replies : List (Reply ℕ)
  -- what the simulation says in their place
  pub told : List ℕ
  pub in_range : All IsCallOfScriptInRange calls
  pub paired : length calls ≡ length replies
  pub written : told ++ due p ≡ transcript_of calls replies
  pub exact : p.off ≡ None → said ≡ told
  -- what follows by the event rule from where the scheduler is follows the calls so far
  pub obeys : (cs : List (Call ℕ)) (rs : List (Reply ℕ)) → Obeyed nat_cmp (planned_of p.scheduler) cs rs →
      Obeyed nat_cmp (new_planned 0) (map world_call calls ++ cs) (replies ++ rs)
  -- and so in the simulation, where no call came out of turn
  pub in_turn : p.out_of_turn ≡ None → (w : World ℕ) × (w.moment ≡ p.reached)
      × StandsFor nat_cmp (planned_of p.scheduler) w
      × ((cs : List (Call ℕ)) (rs : List (Reply ℕ)) → AgreesInTurn nat_cmp w cs rs →
      AgreesInTurn nat_cmp (new_world 0) (map world_call calls ++ cs) (replies ++ rs))
  pub call_count : length calls ≡ p.calls
  pub completion_count : length (flat_map done_in replies) ≡ p.completions

-- nothing was said
pub record IsNew (p : Progress) : Type 0 where
  pub none_due : p.answers.items ≡ []
  pub planned : planned_of p.scheduler ≡ new_planned 0
  pub stands : StandsFor nat_cmp (planned_of p.scheduler) (new_world 0)
  pub reached : p.reached ≡ 0
  pub calls : p.calls ≡ 0
  pub completions : p.completions ≡ 0
