-- There is at most one next event.
use Rattle.link_simulation.proofs.Common.{◌≡◌, ℕ, zero, suc, ◌+◌, ◌-◌, ◌<◌, ◌≤◌, List, [], ◌∷◌, Option, Some, None}
use Rattle.link_simulation.proofs.Common.{refl, ap, subst, arith, ◌⊎◌, inl, inr, Ordering, IsTotalOrder, cases_lt}
use Rattle.link_simulation.proofs.Common.{mul-pos, Amount, reduced, Flight, IsQuiet, World, last_moment, Parts}
use Rattle.link_simulation.proofs.Common.{drained_by, rate_of, ArePositive, Drains, NextIs, Passes, comes_next}
use Rattle.link_simulation.proofs.Common.{drain_each, never_comes, no_time, quiet_tick, reduced_positive}
use Rattle.link_simulation.proofs.Simulation.OneWorld.{one_world}
use Rattle.link_simulation.proofs.Simulation.AlikeMessages.{same_itself}
use Rattle.link_simulation.proofs.Simulation.QuietInstants.{next_moment, passes_end_at, IsQuietNow}

module _ {P : Type 0} (cmp : P → P → Ordering) (order : IsTotalOrder cmp) where
  -- ---- amounts stay over a number above zero

  drained_positive : (per : ℕ) (rate : Option ℕ) (n : ℕ) (left : Amount) → 0 < per → 0 < left.den
      → 0 < (drained_by (rate_of per rate) n left).den
  drained_positive per None n left h j = omega arith
  drained_positive per (Some a) n left h j = grind (arith, reduced, reduced_positive, mul-pos)

  pub drain_each_positive : (per : ℕ) (rates : Parts) (n : ℕ) (fs : List (Flight P)) → 0 < per → ArePositive fs
      → ArePositive (drain_each per rates n fs)
  drain_each_positive per rates n [] h pos = grind arith
  drain_each_positive per [] n (f ∷ fs) h pos = pos
  drain_each_positive per (r ∷ rs) n (f ∷ fs) h pos =
      (drained_positive per r n f.left h pos.0, drain_each_positive per rs n fs h pos.1)

  pub drains_positive : (w v : World P) → Drains cmp w v → ArePositive w.sending → ArePositive v.sending
  drains_positive w v d pos = grind (arith, drain_each_positive)

  -- ---- passing is one way

  first_step : {k : ℕ} {w x : World P} → Passes cmp k w x → (m : ℕ) → k ≡ suc m
      → (v : World P) × Drains cmp w v × IsQuiet cmp v.moment v × Passes cmp m v x
  first_step no_time m e = absurd (omega arith)
  first_step (quiet_tick {n = n} {v = v} {u = u} d q p) m e = grind arith

  -- what passes longer passes here quietly
  passes_through : {n : ℕ} {w v : World P} → Passes cmp n w v → (k : ℕ) (x u : World P) → Passes cmp (suc k) w x → n ≤ k
      → ArePositive w.sending → Drains cmp v u → IsQuietNow cmp order u
  passes_through {w = w} no_time k x u p le pos d =
      let f : (v : World P) × Drains cmp w v × IsQuiet cmp v.moment v × Passes cmp k v x = first_step p k refl in
      subst (λ (v : World P). IsQuiet cmp v.moment v) (one_world cmp (same_itself cmp order) w f.0 u pos f.1 d) f.2
  passes_through (quiet_tick here quiet rest) zero x u p le pos d = absurd (omega arith)
  passes_through (quiet_tick {n = n} {w = w} {v = v} here quiet rest) (suc k) x u p le pos d =
      let f = first_step p (suc k) refl in
      passes_through rest k x u
      (subst (λ (y : World P). Passes cmp (suc k) y x) (one_world cmp (same_itself cmp order) w f.0 v pos f.1 here)
      f.3) (omega arith) (drains_positive w v here pos) d

  -- an event stops what would pass it
  not_passed : (w : World P) (n k : ℕ) (v u x : World P) → ArePositive w.sending → Passes cmp n w v → Drains cmp v u
      → ¬ IsQuiet cmp u.moment u → Passes cmp k w x → n < k → ⊥
  not_passed w n zero v u x pos p d event q lt = absurd (omega arith)
  not_passed w n (suc k) v u x pos p d event q lt = event (passes_through p k x u q (omega arith) pos d)

  -- there is at most one next event
  pub next_is_one : (w : World P) (a b : Option ℕ) → ArePositive w.sending → NextIs cmp w a → NextIs cmp w b → a ≡ b
  next_is_one w a b pos (never_comes p) (never_comes q) = refl
  next_is_one w a b pos (never_comes {v = x} p) (comes_next {n = n} {v = v} {u = u} q d event h) =
      let at : v.moment ≡ w.moment + n = passes_end_at cmp order q in
      let on : u.moment ≡ v.moment + 1 = next_moment cmp order v u d in
      absurd (not_passed w n (last_moment - w.moment) v u x pos q d event p (omega arith))
  next_is_one w a b pos (comes_next {n = n} {v = v} {u = u} q d event h) (never_comes {v = x} p) =
      let at : v.moment ≡ w.moment + n = passes_end_at cmp order q in
      let on : u.moment ≡ v.moment + 1 = next_moment cmp order v u d in
      absurd (not_passed w n (last_moment - w.moment) v u x pos q d event p (omega arith))
  next_is_one w a b pos (comes_next {n = n} {v = v} {u = u} q d event h)
      (comes_next {n = k} {v = y} {u = x} p e other j) = grind (arith, passes_end_at, next_moment, by_order, cases_lt)
    where
      by_order : (n < k) ⊎ (k ≤ n) → (k < n) ⊎ (n ≤ k) → v.moment ≡ w.moment + n → u.moment ≡ v.moment + 1
          → y.moment ≡ w.moment + k → x.moment ≡ y.moment + 1 → Some u.moment ≡ Some x.moment
      by_order (inl lt) o f g f' g' = absurd (not_passed w n k v u y pos q d event p lt)
      by_order (inr le) (inl lt) f g f' g' = absurd (not_passed w k n y x v pos p e other q lt)
      by_order (inr le) (inr ge) f g f' g' = let same : u.moment ≡ x.moment = omega arith in ap Some same
