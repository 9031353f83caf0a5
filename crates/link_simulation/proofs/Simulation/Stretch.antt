-- Over a stretch without an event, ticking n nanoseconds is draining once for n nanoseconds.
use Rattle.link_simulation.proofs.Common.{◌≡◌, ℕ, zero, suc, ◌+◌, ◌<◌, ◌≤◌, List, [], ◌∷◌, map, Option, Some, None}
use Rattle.link_simulation.proofs.Common.{refl, ap, subst, arith, add-one, Ordering, Amount, reduced, reduced_positive}
use Rattle.link_simulation.proofs.Common.{Flight, IsQuiet, World, flows, AreFair, Parts, drained_by, rate_of}
use Rattle.link_simulation.proofs.Common.{ArePositive, Drains, Passes, drain_each, drifted, no_time, quiet_tick}
use Rattle.fairness.proofs.Numbers.Draining.{drained_twice}

module _ {P : Type 0} (cmp : P → P → Ordering) where
  pub drained_at_twice : (per : ℕ) (rate : Option ℕ) (a b : ℕ) (left : Amount) → 0 < per → 0 < left.den
      → drained_by (rate_of per rate) b (drained_by (rate_of per rate) a left)
      ≡ drained_by (rate_of per rate) (a + b) left
  drained_at_twice per None a b left h j = refl
  drained_at_twice per (Some r) a b left h j = drained_twice left (reduced r per) a b j (reduced_positive r per h)

  pub drain_each_twice : (per : ℕ) (rates : Parts) (a b : ℕ) (fs : List (Flight P)) → 0 < per → ArePositive fs
      → drain_each per rates b (drain_each per rates a fs) ≡ drain_each per rates (a + b) fs
  drain_each_twice per rates a b [] h pos = grind arith
  drain_each_twice per [] a b (f ∷ fs) h pos = refl
  drain_each_twice per (r ∷ rs) a b (f ∷ fs) h pos =
      rw (drained_at_twice per r a b f.left h pos.0, drain_each_twice per rs a b fs h pos.1) refl

  pub flows_drained : (per : ℕ) (rates : Parts) (n : ℕ) (fs : List (Flight P))
      → map (λ (f : Flight P). f.message) (drain_each per rates n fs) ≡ map (λ (f : Flight P). f.message) fs
  flows_drained per rates n [] = refl
  flows_drained per [] n (f ∷ fs) = refl
  flows_drained per (r ∷ rs) n (f ∷ fs) = ap (λ ms. f.message ∷ ms) (flows_drained per rs n fs)

  pub longer_at_end : {n : ℕ} {w v u : World P} → Passes cmp n w v → Drains cmp v u → IsQuiet cmp u.moment u
      → Passes cmp (suc n) w u
  longer_at_end no_time d q = quiet_tick d q no_time
  longer_at_end (quiet_tick e r more) d q = quiet_tick e r (longer_at_end more d q)

  pub drifts_on : (w : World P) (per : ℕ) (rates : Parts) (n : ℕ) → AreFair cmp w.caps (flows w) per rates
      → ArePositive w.sending → Drains cmp (drifted w per rates n) (drifted w per rates (n + 1))
  drifts_on w per rates n fair pos = grind (arith, flows_drained, drain_each_twice)

  -- ticking n quiet nanoseconds is draining once for n nanoseconds
  pub stretch : (w : World P) (per : ℕ) (rates : Parts) → AreFair cmp w.caps (flows w) per rates → ArePositive w.sending
      → (n : ℕ) → ((k : ℕ) → 0 < k → k ≤ suc n → IsQuiet cmp (w.moment + k) (drifted w per rates k))
      → Passes cmp (suc n) w (drifted w per rates (suc n))
  stretch w per rates fair pos zero quiet =
      quiet_tick (record { per = per; rates = rates; fair = fair; world = refl }) (quiet 1 (omega arith) (omega arith))
      no_time
  stretch w per rates fair pos (suc n) quiet =
      let on : Drains cmp (drifted w per rates (suc n)) (drifted w per rates (suc n + 1)) = grind (arith, drifts_on) in
      longer_at_end (stretch w per rates fair pos n (λ k h j. quiet k h (omega arith)))
      (subst (λ m. Drains cmp (drifted w per rates (suc n)) (drifted w per rates m)) (add-one (suc n)) on)
      (quiet (suc (suc n)) (omega arith) (omega arith))
