-- Ticking for a while and then for another is ticking for both.
use Rattle.link_simulation.proofs.Common.{◌≡◌, ℕ, zero, suc, ◌+◌, List, [], ◌++◌, refl, sym, ap, ◌∙◌, subst, arith}
use Rattle.link_simulation.proofs.Common.{append_assoc, Ordering, Completed, Course, World, goes, meets, preceded}
use Rattle.link_simulation.proofs.Common.{Ticks, no_tick, one_tick, tick_faults, Error}
use Rattle.link_simulation.specs.Simulation.Time.{Continues}
use Rattle.link_simulation.proofs.Simulation.Queue.{preceded_none}

module _ {P : Type 0} (cmp : P → P → Ordering) where
  pub preceded_append : (xs ys : List (Completed P)) (c : Course (Completed P) (World P))
      → preceded xs (preceded ys c) ≡ preceded (xs ++ ys) c
  preceded_append xs ys (goes zs s) = ap (λ (l : List (Completed P)). goes l s) (sym (append_assoc xs ys zs))
  preceded_append xs ys (meets f) = refl

  pub rest_is : (ds : List (Completed P)) (rest : Course (Completed P) (World P)) (cs : List (Completed P))
      (v : World P) → preceded ds rest ≡ goes cs v → (es : List (Completed P)) × (rest ≡ goes es v) × (ds ++ es ≡ cs)
  rest_is ds (goes es u) cs v e = (es, cc, cc)
  rest_is ds (meets f) cs v e = cc

  pub ticks_on : {a : ℕ} {w : World P} {course : Course (Completed P) (World P)} → Ticks cmp a w course
      → (b : ℕ) (v : World P) (cs : List (Completed P)) (c : Course (Completed P) (World P)) → course ≡ goes cs v
      → Ticks cmp b v c → Ticks cmp (b + a) w (preceded cs c)
  ticks_on {w = w} no_tick b v cs c e more = grind arith
  ticks_on {w = w} (one_tick {n = n} {u = u} {cs = ds} {rest = rest} d i t) b v cs c e more =
      let r : (es : List (Completed P)) × (rest ≡ goes es v) × (ds ++ es ≡ cs) = rest_is ds rest cs v e in
      let later : Ticks cmp (b + n) u (preceded r.0 c) = ticks_on t b v r.0 c r.1 more in
      let count : suc (b + n) ≡ b + suc n = omega arith in
      subst (λ (k : ℕ). Ticks cmp k w (preceded cs c)) count (subst (λ (d : Course _ _). Ticks cmp (suc (b + n)) w d)
      (preceded_append ds r.0 c ∙ ap (λ (xs : List _). preceded xs c) r.2) (one_tick d i later))
  ticks_on (tick_faults d i) b v cs c e more = cc

  -- a fault ends the ticks, however many were to come
  pub ticks_stop : {a : ℕ} {w : World P} {course : Course (Completed P) (World P)} → Ticks cmp a w course
      → (b : ℕ) (fault : Error) → course ≡ meets fault → Ticks cmp (b + a) w (meets fault)
  ticks_stop no_tick b fault e = cc
  ticks_stop {w = w} (one_tick {n = n} {cs = ds} {rest = rest} d i t) b fault e =
      let later : rest ≡ meets fault = rest_stops ds rest fault e in
      let count : suc (b + n) ≡ b + suc n = omega arith in
      subst (λ (k : ℕ). Ticks cmp k w (meets fault)) count (one_tick d i (ticks_stop t b fault later))
    where
      rest_stops : (ds : List (Completed P)) (rest : Course (Completed P) (World P)) (fault : Error)
          → preceded ds rest ≡ meets fault → rest ≡ meets fault
      rest_stops ds (goes es u) fault e = cc
      rest_stops ds (meets f) fault e = e
  ticks_stop {w = w} (tick_faults {n = n} {fault = f} d i) b fault e =
      let count : suc (b + n) ≡ b + suc n = omega arith in
      let same : f ≡ fault = cc in
      subst (λ (k : ℕ). Ticks cmp k w (meets fault)) count
      (subst (λ (g : Error). Ticks cmp (suc (b + n)) w (meets g)) same (tick_faults d i))

  continued : (cs : List (Completed P)) (first rest : Course (Completed P) (World P)) (b : ℕ)
      → Continues cmp b first rest → Continues cmp b (preceded cs first) (preceded cs rest)
  continued cs (goes ds v) rest b (more, t, e) = (more, t, ap (preceded cs) e ∙ preceded_append cs ds more)
  continued cs (meets fault) rest b e = ap (preceded cs) e

  -- ticking for both is ticking for a while and then for another
  pub ticks_apart : {k : ℕ} {w : World P} {course : Course (Completed P) (World P)} → Ticks cmp k w course → (a b : ℕ)
      → k ≡ a + b → (first : Course (Completed P) (World P)) × Ticks cmp a w first × Continues cmp b first course
  ticks_apart {k = k} {w = w} {course = course} t zero b e =
      let count : k ≡ b = omega arith in
      (goes [] w, no_tick, (course, subst (λ (n : ℕ). Ticks cmp n w course) count t, sym (preceded_none course)))
  ticks_apart no_tick (suc a) b e = absurd (omega arith)
  ticks_apart (one_tick {n = n} {u = u} {cs = cs} {rest = rest} d i t) (suc a) b e =
      let ih = ticks_apart {k = n} {w = u} {course = rest} t a b (omega arith) in
      (preceded cs ih.0, one_tick d i ih.1, continued cs ih.0 rest b ih.2)
  ticks_apart (tick_faults {fault = fault} d i) (suc a) b e = (meets fault, tick_faults d i, refl)

  pub ticks_both : (a b : ℕ) (w : World P) (first course : Course (Completed P) (World P)) → Ticks cmp a w first
      → Continues cmp b first course → Ticks cmp (a + b) w course
  ticks_both a b w (goes cs v) course t (rest, more, e) = grind (arith, (ticks_on t b v cs rest refl more))
  ticks_both a b w (meets fault) course t e = grind (arith, (ticks_stop t b fault refl))
