-- One event at the planned finish, in ticks: where nothing may start at once, the planned world stands for the world
-- after it.
use Rattle.link_simulation.proofs.Common.{◌≡◌, ℕ, zero, suc, ◌<◌, ◌≤◌, List, [], true, false, Option, Some, None, refl}
use Rattle.link_simulation.proofs.Common.{ap, subst, arith, ◌⊎◌, inl, inr, list_any, Ordering, IsTotalOrder, cases_lt}
use Rattle.link_simulation.proofs.Common.{Completed, Course, IsQuiet, World, and_then, goes, instant, is_done}
use Rattle.link_simulation.proofs.Common.{last_moment, meets, preceded, settle, settle_within, wake, Message}
use Rattle.link_simulation.proofs.Common.{IsLeastMoment, Planned, SomeReadyAt, may_launch, IsSettled, StandsFor, Drains}
use Rattle.link_simulation.proofs.Common.{Passes, Ticks, no_tick, no_time, one_tick, quiet_tick, tick_faults}
use Rattle.link_simulation.proofs.Common.{find_from_any}
use Rattle.std.proofs.lemmas.List.{append-nil}
use Rattle.link_simulation.proofs.Simulation.Queue.{settle_none, preceded_none}
use Rattle.link_simulation.proofs.Rule.BeforeNext.{none_ready_at}
use Rattle.link_simulation.proofs.Simulation.Pass.{wake_none}

module _ {P : Type 0} (cmp : P → P → Ordering) (order : IsTotalOrder cmp) where
  -- ---- a quiet instant

  pub settle_quiet : (n t : ℕ) (w : World P) → list_any (is_done cmp w) w.sending ≡ false
      → settle_within cmp n t w ≡ goes [] w
  settle_quiet zero t w e = refl
  settle_quiet (suc n) t w e = settle_none cmp order n t w (find_from_any (is_done cmp w) w.sending e)

  pub instant_is : (w v : World P) (cs : List (Completed P)) → settle cmp w.moment w ≡ goes cs v
      → instant cmp w ≡ preceded cs (wake cmp v.moment v)
  instant_is w v cs e = ap (λ (c : Course (Completed P) (World P)). and_then c (λ u. wake cmp u.moment u)) e

  pub instant_quiet : (w : World P) → IsQuiet cmp w.moment w → instant cmp w ≡ goes [] w
  instant_quiet w quiet = grind (arith, instant_is, settle_quiet, wake_none)

  -- ---- quiet ticks, and then one

  pub last_tick : (w v : World P) (c : Course (Completed P) (World P)) → Drains cmp w v → instant cmp v ≡ c
      → Ticks cmp 1 w c
  last_tick w v (goes cs u) drains e =
      subst (λ (ds : List (Completed P)). Ticks cmp 1 w (goes ds u)) (append-nil cs) (one_tick drains e no_tick)
  last_tick w v (meets fault) drains e = tick_faults drains e

  pub ticks_through : {n : ℕ} {w v : World P} → Passes cmp n w v → (u : World P) (c : Course (Completed P) (World P))
      → Drains cmp v u → instant cmp u ≡ c → Ticks cmp (suc n) w c
  ticks_through {w = w} no_time u c drains e = last_tick w u c drains e
  ticks_through {w = w} (quiet_tick {n = n} {v = x} drift quiet more) u c drains e =
      subst (λ (d : Course (Completed P) (World P)). Ticks cmp (suc (suc n)) w d) ((preceded_none c))
      (one_tick drift (instant_quiet x quiet) (ticks_through more u c drains e))

  pub ticks_quiet : {n : ℕ} {w v : World P} → Passes cmp n w v → Ticks cmp n w (goes [] v)
  ticks_quiet no_time = no_tick
  ticks_quiet (quiet_tick {v = x} drift quiet more) = one_tick drift (instant_quiet x quiet) (ticks_quiet more)

  -- ---- a settled world where nothing may start at once

  may_later : (p : Planned P) (m : Message P) (s t : ℕ) → s ≤ t → may_launch cmp s p m ≡ true
      → may_launch cmp t p m ≡ true
  may_later p m s t le e = grind arith

  pub ready_later : (p : Planned P) (s t : ℕ) → s ≤ t → SomeReadyAt cmp p s → SomeReadyAt cmp p t
  ready_later p s t le some = (some.0, some.1, may_later p some.0 s t le some.2)

  pub start_is : (p : Planned P) (t : ℕ) (o : Option ℕ) → IsLeastMoment (λ s. (t ≤ s) × SomeReadyAt cmp p s) o
      → t ≤ last_moment → SomeReadyAt cmp p t → o ≡ Some t
  start_is p t None least within some = absurd (least t within (omega arith, some))
  start_is p t (Some e) least within some =
      let up : e ≤ t = least.2 t (omega arith, some) in
      let down : t ≤ e = least.1.0 in
      let same : e ≡ t = omega arith in
      ap Some same

  pub start_from : (p : Planned P) (t : ℕ) (o : Option ℕ) → IsLeastMoment (λ s. (t ≤ s) × SomeReadyAt cmp p s) o
      → ¬ SomeReadyAt cmp p t → IsLeastMoment (SomeReadyAt cmp p) o
  start_from p t None least not_now = λ s within some. by_order s some within (cases_lt s t)
    where
      by_order : (s : ℕ) → SomeReadyAt cmp p s → s ≤ last_moment → (s < t) ⊎ (t ≤ s) → ⊥
      by_order s some within (inl lt) = not_now (ready_later p s t (omega arith) some)
      by_order s some within (inr le) = least s within (le, some)
  start_from p t (Some e) least not_now = (least.0, least.1.1, λ s some. by_order s some (cases_lt s t))
    where
      by_order : (s : ℕ) → SomeReadyAt cmp p s → (s < t) ⊎ (t ≤ s) → e ≤ s
      by_order s some (inl lt) = absurd (not_now (ready_later p s t (omega arith) some))
      by_order s some (inr le) = least.2 s (le, some)

  -- with nothing to start at once, a settled planned world stands for its world
  pub settled_stands : (t : ℕ) (p : Planned P) (w : World P) → t ≤ last_moment → IsSettled cmp t p w
      → ¬ SomeReadyAt cmp p t → StandsFor cmp p w
  settled_stands t p w within settled not_now = grind (arith, none_ready_at, start_from)

  pub settled_wakes : (t : ℕ) (p : Planned P) (w : World P) → IsSettled cmp t p w → ¬ SomeReadyAt cmp p t
      → wake cmp w.moment w ≡ goes [] w
  settled_wakes t p w settled not_now = grind (arith, wake_none, none_ready_at)
