-- An advance that goes by the event rule is an advance to any moment on the way and then on.
use Rattle.link_simulation.proofs.Common.{◌≡◌, ℕ, ◌-◌, ◌≤◌, List, refl, sym, subst, arith, Ordering, IsTotalOrder}
use Rattle.link_simulation.proofs.Common.{World, Completed, Course, goes, meets, preceded, last_moment, Ticks}
use Rattle.link_simulation.proofs.Common.{call_advance, Runs, Planned, GoesByRule, IsRun}
use Rattle.link_simulation.specs.Simulation.Time.{Continues}
use Rattle.link_simulation.specs.Rule.Simulated.{RunsInTwo, IsSplitAnywhere}
use Rattle.link_simulation.proofs.Simulation.Split.{ticks_apart}
use Rattle.link_simulation.proofs.Simulation.QuietInstants.{IsAt, ends_at, ticks_end_at}
use Rattle.link_simulation.proofs.Simulation.SettlingEnds.{goes_no_fault}
use Rattle.link_simulation.proofs.Laws.AdvanceOnward.{nothing_more, ticks_of}
use Rattle.link_simulation.proofs.Rule.Simulated.{calls_simulated}

module _ {P : Type 0} (cmp : P → P → Ordering) (order : IsTotalOrder cmp) where
  runs_of : (w : World P) (now : ℕ) (c : Course (Completed P) (World P)) → Ticks cmp (now - w.moment) w c
      → Runs cmp w (call_advance now) now c
  runs_of w now c ticks = record { ticked = c; ticks = ticks; acts = sym (nothing_more cmp order c) }

  pub advance_split_anywhere : (p q : Planned P) (now : ℕ) (completions : List (Completed P)) → now ≤ last_moment
      → GoesByRule cmp p (call_advance now) completions q → IsSplitAnywhere cmp p now completions q
  advance_split_anywhere p q now completions in_time go w between stands after before =
      let run = calls_simulated cmp order p q _ completions (λ t at. let same : now ≡ t = cc in
      subst (λ (s : ℕ). s ≤ last_moment) same in_time) go w now (record {
        stands = stands;
        moment = refl;
        turn = omega arith;
      }) in
      let apart = ticks_apart cmp (ticks_of cmp order w now _ run.runs) _ _ (omega arith) in
      by_first run apart.0 apart.1 apart.2
    where
      by_rest : (run : IsRun cmp w (call_advance now) now completions q) (ds : List (Completed P)) (v : World P)
          → Runs cmp w (call_advance between) between (goes ds v) → v.moment ≡ between
          → (rest : Course (Completed P) (World P)) → Ticks cmp (now - between) v rest
          → goes run.answers run.after ≡ preceded ds rest → RunsInTwo cmp w between now completions q
      by_rest run ds v first at (goes es u) ticks is = grind (arith, runs_of)
      by_rest run ds v first at (meets fault) ticks is = absurd (goes_no_fault (sym is))

      by_first : (run : IsRun cmp w (call_advance now) now completions q) (first : Course (Completed P) (World P))
          → Ticks cmp (between - w.moment) w first
          → Continues cmp (now - between) first (goes run.answers run.after) → RunsInTwo cmp w between now completions q
      by_first run (goes ds v) ticks (rest, more, is) =
          let at = ends_at cmp order (IsAt cmp order _) (goes ds v) ds v refl (ticks_end_at cmp order ticks) in
          by_rest run ds v (runs_of w between (goes ds v) ticks) (omega arith) rest more is
      by_first run (meets fault) ticks is = absurd (goes_no_fault (sym is))
