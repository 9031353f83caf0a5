-- A call has one course.
use Rattle.link_simulation.proofs.Common.{◌≡◌, ℕ, suc, List, [], refl, sym, ap, ◌∙◌, subst, arith, ◌⊎◌, inl, inr}
use Rattle.link_simulation.proofs.Common.{Ordering, IsTotalOrder, Completed, Course, World, goes, instant, meets}
use Rattle.link_simulation.proofs.Common.{preceded, Call, Runs, Drains, IsSound, Ticks, no_tick, one_tick, tick_faults}
use Rattle.link_simulation.proofs.Common.{Error}
use Rattle.link_simulation.proofs.Simulation.OneWorld.{one_world}
use Rattle.link_simulation.proofs.Simulation.AlikeMessages.{same_itself}
use Rattle.link_simulation.proofs.Simulation.QuietInstants.{ends_at}
use Rattle.link_simulation.proofs.Simulation.Sound.{IsFit, drains_fit, instant_fit}

module _ {P : Type 0} (cmp : P → P → Ordering) (order : IsTotalOrder cmp) where
  -- ---- a course of ticks, taken apart

  abbrev GoesOn : ℕ → World P → Course (Completed P) (World P) → Type 0
  GoesOn m w c =
      (v : World P) × (u : World P) × (cs : List (Completed P)) × (rest : Course (Completed P) (World P))
      × Drains cmp w v × (instant cmp v ≡ goes cs u) × Ticks cmp m u rest × (c ≡ preceded cs rest)

  abbrev Stops : World P → Course (Completed P) (World P) → Type 0
  Stops w c = (v : World P) × (fault : Error) × Drains cmp w v × (instant cmp v ≡ meets fault) × (c ≡ meets fault)

  no_ticks : {k : ℕ} {w : World P} {c : Course (Completed P) (World P)} → Ticks cmp k w c → k ≡ 0 → c ≡ goes [] w
  no_ticks no_tick e = refl
  no_ticks (one_tick d i t) e = absurd (omega arith)
  no_ticks (tick_faults d i) e = absurd (omega arith)

  first_tick : {k : ℕ} {w : World P} {c : Course (Completed P) (World P)} → Ticks cmp k w c → (m : ℕ) → k ≡ suc m
      → GoesOn m w c ⊎ Stops w c
  first_tick no_tick m e = absurd (omega arith)
  first_tick (one_tick {n = n} {v = v} {u = u} {cs = cs} {rest = rest} d i t) m e = grind arith
  first_tick (tick_faults {v = v} {fault = fault} d i) m e = inr (v, fault, d, i, refl)

  state_of : (cs ds : List (Completed P)) (v u : World P)
      → ◌≡◌ {A = Course (Completed P) (World P)} (goes cs v) (goes ds u) → v ≡ u
  state_of cs ds v u e = cc

  outcome_of : (cs ds : List (Completed P)) (v u : World P)
      → ◌≡◌ {A = Course (Completed P) (World P)} (goes cs v) (goes ds u) → cs ≡ ds
  outcome_of cs ds v u e = cc

  preceded_alike : (cs ds : List (Completed P)) (c d : Course (Completed P) (World P)) → cs ≡ ds → c ≡ d
      → preceded cs c ≡ preceded ds d
  preceded_alike cs ds c d e f = rw (e, f) refl

  -- ticking has one outcome
  pub ticks_are_one : {n : ℕ} {w : World P} {c : Course (Completed P) (World P)} → Ticks cmp n w c
      → (d : Course (Completed P) (World P)) → IsFit cmp order w → Ticks cmp n w d → c ≡ d
  ticks_are_one no_tick d fit t = sym (no_ticks t refl)
  ticks_are_one (one_tick {n = n} {w = w} {v = v} {u = u} {cs = cs} {rest = rest} here i more) d fit t =
      by_first (first_tick t n refl) (ticks_are_one more)
    where
      by_first : GoesOn n w d ⊎ Stops w d
          → ((e : Course (Completed P) (World P)) → IsFit cmp order u → Ticks cmp n u e → rest ≡ e)
          → preceded cs rest ≡ d
      by_first (inl g) ih =
          let world : g.0 ≡ v = one_world cmp (same_itself cmp order) w g.0 v fit.positive g.4 here in
          let same : goes g.2 g.1 ≡ goes cs u = sym g.5 ∙ ap (instant cmp) world ∙ i in
          let state : g.1 ≡ u = state_of g.2 cs g.1 u same in
          let rests = ih g.3 (ends_at cmp order _ _ cs u i (instant_fit cmp order v
          (drains_fit cmp order w v here fit))) (subst (λ (x : World P). Ticks cmp n x g.3) state g.6) in
          preceded_alike cs g.2 rest g.3 (sym (outcome_of g.2 cs g.1 u same)) rests ∙ sym g.7
      by_first (inr g) ih =
          let world : g.0 ≡ v = one_world cmp (same_itself cmp order) w g.0 v fit.positive g.2 here in
          let clash : meets g.1 ≡ goes cs u = sym g.3 ∙ ap (instant cmp) world ∙ i in
          cc
  ticks_are_one (tick_faults {n = n} {w = w} {v = v} {fault = fault} here i) d fit t = by_first (first_tick t n refl)
    where
      by_first : GoesOn n w d ⊎ Stops w d → meets fault ≡ d
      by_first (inl g) =
          let world : g.0 ≡ v = one_world cmp (same_itself cmp order) w g.0 v fit.positive g.4 here in
          let clash : goes g.2 g.1 ≡ meets fault = sym g.5 ∙ ap (instant cmp) world ∙ i in
          cc
      by_first (inr g) =
          let world : g.0 ≡ v = one_world cmp (same_itself cmp order) w g.0 v fit.positive g.2 here in
          let same : meets g.1 ≡ meets fault = sym g.3 ∙ ap (instant cmp) world ∙ i in
          sym (g.4 ∙ same)

  -- a call has one course
  pub runs_are_one : (w : World P) (call : Call P) (now : ℕ) (c d : Course (Completed P) (World P)) → IsSound cmp w
      → Runs cmp w call now c → Runs cmp w call now d → c ≡ d
  runs_are_one w call now c d sound r s = grind (arith, ticks_are_one)
