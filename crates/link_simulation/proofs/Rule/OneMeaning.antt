-- What is simulated is the one course of the simulation.
use Rattle.link_simulation.proofs.Common.{arith, ◌≡◌, ℕ, ◌≤◌, List, ◌++◌, Option, Some, refl, sym, ◌∙◌, subst, AllZip}
use Rattle.link_simulation.proofs.Common.{Ordering, IsTotalOrder, Error, OutOfMemory, NumberTooLarge, MomentTooLate}
use Rattle.link_simulation.proofs.Common.{FlowIdsUsedUp, IsSamePlanned, GoesByRule, World, Completed, goes, meets}
use Rattle.link_simulation.proofs.Common.{Obeys, MayBeRefused, NextIs, Call, call_advance, Runs, SameCompletion, Faults}
use Rattle.link_simulation.proofs.Common.{Planned, StandsFor, IsCalled}
use Rattle.link_simulation.specs.Simulation.RefusalCauses.{IsRefusedFor}
use Rattle.link_simulation.specs.Rule.Simulated.{IsSimulated, IsSplitAnywhere, IsNextInSimulation, MeetsFault}
use Rattle.link_simulation.specs.Rule.Simulated.{IsRefusedInSimulation}
use Rattle.link_simulation.proofs.Laws.AdvanceOnward.{advance_splits}
use Rattle.link_simulation.proofs.Rule.OneCourse.{course_is_one}
use Rattle.link_simulation.proofs.Simulation.OneNext.{next_is_one}
use Rattle.link_simulation.proofs.Simulation.OneRun.{runs_are_one}
use Rattle.link_simulation.proofs.Rule.Simulated.{sound_of_stands}

module _ {P : Type 0} (cmp : P → P → Ordering) (order : IsTotalOrder cmp) where
  -- where two courses go and are one, what holds of the one holds of the other
  alike : (cs ds es : List (Completed P)) (q : Planned P) (v u : World P) → goes ds v ≡ goes es u
      → AllZip (SameCompletion cmp) cs es → StandsFor cmp q u → AllZip (SameCompletion cmp) cs ds × StandsFor cmp q v
  alike cs ds es q v u one same stands = grind arith

  pub one_run : (p q : Planned P) (w v : World P) (call : Call P) (now : ℕ) (cs ds : List (Completed P))
      → IsSimulated cmp p call cs q → IsCalled cmp p call now w → Runs cmp w call now (goes ds v)
      → AllZip (SameCompletion cmp) cs ds × StandsFor cmp q v
  one_run p q w v call now cs ds simulated called runs =
      let run = simulated w now called in
      grind (
        arith,
        (alike cs ds run.answers q v run.after (runs_are_one cmp order w call now (goes ds v)
            (goes run.answers run.after) (sound_of_stands cmp order p w called.stands) runs run.runs) run.same run.stands),
      )

  pub no_fault : (p q : Planned P) (w : World P) (call : Call P) (now : ℕ) (cs : List (Completed P))
      → IsSimulated cmp p call cs q → IsCalled cmp p call now w → (fault : Error) → ¬ Faults cmp w call fault
  no_fault p q w call now cs simulated called fault meets_it = (simulated w now called).no_fault fault meets_it

  pub one_split : (p q : Planned P) (w v : World P) (between now : ℕ) (cs ds : List (Completed P))
      → IsSplitAnywhere cmp p now cs q
      → StandsFor cmp p w → w.moment ≤ between → between ≤ now → Runs cmp w (call_advance now) now (goes ds v)
      → AllZip (SameCompletion cmp) cs ds × StandsFor cmp q v
  one_split p q w v between now cs ds split stands after before runs =
      let two = split w between stands after before in
      grind (
        arith,
        (alike cs ds (two.first_answers ++ two.second_answers) q v two.after (runs_are_one cmp order w
            (call_advance now) now (goes ds v) (goes (two.first_answers ++ two.second_answers) two.after)
            (sound_of_stands cmp order p w stands) runs (advance_splits cmp order w two.between between now two.first_answers
            (goes two.second_answers two.after) after before two.runs_first two.runs_second)) two.same two.stands),
      )

  pub one_next : (p : Planned P) (w : World P) (told next : Option ℕ) → IsNextInSimulation cmp p told
      → StandsFor cmp p w → NextIs cmp w next → told ≡ next
  one_next p w told next simulated stands is = grind (arith, next_is_one, sound_of_stands)

  -- ---- what a call may be refused for that could go

  -- what goes by the event rule has its one course
  pub one_going : (p q r : Planned P) (call : Call P) (cs ds : List (Completed P)) → GoesByRule cmp p call cs q
      → Obeys cmp p call (goes ds r) → AllZip (SameCompletion cmp) cs ds × IsSamePlanned cmp r q
  one_going p q r call cs ds went obeys = grind (arith, course_is_one)

  -- it is refused for memory alone
  pub not_refused : (p q : Planned P) (call : Call P) (why : Error) (cs : List (Completed P))
      → MayBeRefused cmp p call why → Obeys cmp p call (goes cs q) → why ≡ OutOfMemory
  not_refused p q call why cs may obeys = grind (arith, course_is_one)

  -- and so in the simulation
  pub not_refused_in_simulation : (p : Planned P) (w v : World P) (call : Call P) (now : ℕ) (why : Error)
      (cs : List (Completed P))
      → IsRefusedInSimulation cmp p call why → IsCalled cmp p call now w → Runs cmp w call now (goes cs v)
      → why ≡ OutOfMemory
  not_refused_in_simulation p w v call now why cs refused called runs = by_cause why refused.cause
    where
      never : (fault : Error) → MeetsFault cmp p call fault → ⊥
      never fault meets_it = by_fault (meets_it w now called)
        where
          by_fault : Faults cmp w call fault → ⊥
          by_fault (at, is, faults) =
              let both : Some at ≡ Some now = sym is ∙ called.moment in
              let same : at ≡ now = cc in
              let one = runs_are_one cmp order w call now (goes cs v) _ (sound_of_stands cmp order p w called.stands)
              runs (subst (λ (t : ℕ). Runs cmp w call t (meets fault)) same faults) in
              cc

      by_cause : (why : Error) → IsRefusedFor (MeetsFault cmp p call) why → why ≡ OutOfMemory
      by_cause OutOfMemory may = refl
      by_cause NumberTooLarge may = absurd may
      by_cause MomentTooLate may = absurd (never MomentTooLate may)
      by_cause FlowIdsUsedUp may = absurd (never FlowIdsUsedUp may)
