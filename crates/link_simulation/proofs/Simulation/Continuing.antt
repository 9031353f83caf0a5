-- Fair rates exist for each world, so time goes on from it, and it has a next event or none.
use Rattle.link_simulation.proofs.Common.{◌≡◌, ℕ, zero, suc, ◌+◌, ◌-◌, ◌<◌, ◌⊎◌, inl, inr, List, [], ◌∷◌, length, Bool}
use Rattle.link_simulation.proofs.Common.{true, false, Option, Some, None, refl, arith, list_any, Ordering}
use Rattle.link_simulation.proofs.Common.{IsTotalOrder, World, Completed, Course, goes, meets, and_then, preceded}
use Rattle.link_simulation.proofs.Common.{flows, instant, is_done, ready, IsQuiet, last_moment, Call, Runs, act}
use Rattle.link_simulation.proofs.Common.{Message, Caps, Parts, AreFair, capped_sides, rates_from, Drains, Passes}
use Rattle.link_simulation.proofs.Common.{no_time, quiet_tick, Ticks, no_tick, one_tick, tick_faults, NextIs}
use Rattle.link_simulation.proofs.Common.{never_comes, comes_next, drifted}
use Rattle.std.proofs.Common.{le_refl}
use Rattle.fairness.proofs.Fairness.Denominators.{denominator_of}
use Rattle.fairness.proofs.Filling.FairPartsExist.{fair_parts}
use Rattle.link_simulation.proofs.Simulation.AlikeMessages.{same_itself}
use Rattle.link_simulation.proofs.Simulation.QuietInstants.{next_moment, passes_end_at}
use Rattle.link_simulation.proofs.Simulation.SideUsers.{users_below, users_distinct}

module _ {P : Type 0} (cmp : P → P → Ordering) (order : IsTotalOrder cmp) where
  pub rates_exist : (caps : Caps P) (ms : List (Message P))
      → (per : ℕ) × (rates : Parts) × AreFair cmp caps ms per rates
  rates_exist caps ms =
      let own = same_itself cmp order in
      let parts = fair_parts (length ms) (capped_sides cmp caps ms)
      (users_below cmp order own caps ms (length ms) (le_refl (length ms))) (users_distinct cmp order own caps ms) in (
        denominator_of (length ms),
        rates_from cmp caps parts.0 0 ms,
        record { parts = parts.0; fair = parts.1; rated = refl },
      )

  drains_on : (w : World P) → (v : World P) × Drains cmp w v
  drains_on w =
      let fair = rates_exist w.caps (flows w) in
      (drifted w fair.0 fair.1 1, record { per = fair.0; rates = fair.1; fair = fair.2; world = refl })

  -- ---- courses

  ticks_on : (n : ℕ) (w : World P) → (course : Course (Completed P) (World P)) × Ticks cmp n w course
  ticks_on zero w = (goes [] w, no_tick)
  ticks_on (suc n) w = let d = drains_on w in by_instant d.0 d.1 (instant cmp d.0) refl (ticks_on n)
    where
      by_instant : (v : World P) → Drains cmp w v → (i : Course (Completed P) (World P)) → instant cmp v ≡ i
          → ((u : World P) → (course : Course (Completed P) (World P)) × Ticks cmp n u course)
          → (course : Course (Completed P) (World P)) × Ticks cmp (suc n) w course
      by_instant v drains (goes cs u) is ih = (preceded cs (ih u).0, one_tick drains is (ih u).1)
      by_instant v drains (meets fault) is ih = (meets fault, tick_faults drains is)

  pub runs_on : (w : World P) (call : Call P) (now : ℕ)
      → (course : Course (Completed P) (World P)) × Runs cmp w call now course
  runs_on w call now =
      let t = ticks_on (now - w.moment) w in
      (and_then t.0 (λ v. act cmp v call), record { ticked = t.0; ticks = t.1; acts = refl })

  -- ---- the next event

  pub quiet_or_not : (w : World P) → IsQuiet cmp w.moment w ⊎ (¬ IsQuiet cmp w.moment w)
  quiet_or_not w = by_test (list_any (is_done cmp w) w.sending) refl (ready cmp w.moment w) refl
    where
      by_test : (b : Bool) → list_any (is_done cmp w) w.sending ≡ b → (ms : List (Message P))
          → ready cmp w.moment w ≡ ms → IsQuiet cmp w.moment w ⊎ (¬ IsQuiet cmp w.moment w)
      by_test true done ms is = grind arith
      by_test false done [] is = inl (record { none_done = done; none_ready = is })
      by_test false done (m ∷ ms) is = inr (λ quiet. cc)

  -- within so many nanoseconds some event comes
  record ComesWithin (n : ℕ) (w : World P) : Type 0 where
    before : ℕ
    less : before < n
    last : World P
    passes : Passes cmp before w last
    first : World P
    drains : Drains cmp last first
    busy : ¬ IsQuiet cmp first.moment first

  comes_or_not : (n : ℕ) (w : World P) → ((v : World P) × Passes cmp n w v) ⊎ ComesWithin n w
  comes_or_not zero w = inl (w, no_time)
  comes_or_not (suc n) w = let d = drains_on w in by_quiet d.0 d.1 (quiet_or_not d.0) (comes_or_not n d.0)
    where
      by_quiet : (v : World P) → Drains cmp w v → IsQuiet cmp v.moment v ⊎ (¬ IsQuiet cmp v.moment v)
          → ((u : World P) × Passes cmp n v u) ⊎ ComesWithin n v
          → ((u : World P) × Passes cmp (suc n) w u) ⊎ ComesWithin (suc n) w
      by_quiet v drains (inr busy) ih =
          inr (record {
            before = 0;
            less = omega arith;
            last = w;
            passes = no_time;
            first = v;
            drains = drains;
            busy = busy;
          })
      by_quiet v drains (inl quiet) (inl (u, passes)) = inl (u, quiet_tick drains quiet passes)
      by_quiet v drains (inl quiet) (inr comes) = inr (record {
        before = suc comes.before;
        less = omega (arith, comes.less);
        last = comes.last;
        passes = quiet_tick drains quiet comes.passes;
        first = comes.first;
        drains = comes.drains;
        busy = comes.busy;
      })

  pub next_on : (w : World P) → (next : Option ℕ) × NextIs cmp w next
  next_on w = by_cases (comes_or_not (last_moment - w.moment) w)
    where
      by_cases : ((v : World P) × Passes cmp (last_moment - w.moment) w v) ⊎ ComesWithin (last_moment - w.moment) w
          → (next : Option ℕ) × NextIs cmp w next
      by_cases (inl (v, passes)) = (None, never_comes passes)
      by_cases (inr comes) =
          let end : comes.last.moment ≡ w.moment + comes.before = passes_end_at cmp order comes.passes in
          let on = next_moment cmp order comes.last comes.first comes.drains in (
            Some comes.first.moment,
            comes_next comes.passes comes.drains comes.busy (omega (arith, end, on, comes.less)),
          )
