-- As time goes by, the part of a world that is a set's messages goes its own way.
use Rattle.link_simulation.proofs.Common.{◌≡◌, ℕ, suc, ◌+◌, List, [], ◌∷◌, ◌++◌, map, length, Bool, true, Option, refl}
use Rattle.link_simulation.proofs.Common.{sym, ap, ◌∙◌, subst, arith, filter, Ordering, IsTotalOrder, filter-append}
use Rattle.link_simulation.proofs.Common.{Completed, Course, Flight, World, flows, goes, instant, Message, same_pair}
use Rattle.link_simulation.proofs.Common.{AreFair, Parts, Drains, Ticks, drain_each, no_tick, one_tick, tick_faults}
use Rattle.link_simulation.proofs.Common.{Each, flagged}
use Rattle.link_simulation.proofs.Laws.PartRates.{SharesNoSide, fair_part}
use Rattle.link_simulation.proofs.Simulation.Split.{rest_is}
use Rattle.link_simulation.proofs.Simulation.Rates.{one_each}
use Rattle.link_simulation.proofs.Laws.Isolation.{part, IsPart, IsPartOf, part_alike, instant_part}

module _ {P : Type 0} (cmp : P → P → Ordering) (order : IsTotalOrder cmp) (inside : P → Bool)
    (alike : (m n : Message P) → same_pair cmp m n ≡ true → inside m.origin ≡ inside n.origin) (T : Message P → Type 0)
    (shares : (w : World P) → Each T (flows w)
    → SharesNoSide cmp w.caps (λ (m : Message P). inside m.origin) (flows w)) where
  abbrev mine : Message P → Bool
  mine m = inside m.origin

  abbrev flying : Flight P → Bool
  flying f = mine f.message

  abbrev messages : List (Flight P) → List (Message P)
  messages fs = map (λ (f : Flight P). f.message) fs

  abbrev Small : (P → P → Option ℕ) → ℕ → World P → World P
  Small last id w = part cmp order inside alike T last id w

  abbrev Within : (P → P → Option ℕ) → ℕ → World P → Type 0
  Within last id w = IsPart cmp order inside alike T last id w

  map_kept : (fs : List (Flight P)) → messages (filter flying fs) ≡ filter mine (messages fs)
  map_kept [] = refl
  map_kept (f ∷ fs) = grind (arith, (map_kept fs))

  each_message : (fs : List (Flight P)) → Each (λ (f : Flight P). T f.message) fs → Each T (messages fs)
  each_message [] e = tt
  each_message (f ∷ fs) e = (e.0, each_message fs e.1)

  each_drained : (per : ℕ) (rates : Parts) (n : ℕ) (fs : List (Flight P)) → Each (λ (f : Flight P). T f.message) fs
      → Each (λ (f : Flight P). T f.message) (drain_each per rates n fs)
  each_drained per rates n [] e = grind arith
  each_drained per [] n (f ∷ fs) e = e
  each_drained per (r ∷ rs) n (f ∷ fs) e = (e.0, each_drained per rs n fs e.1)

  drain_kept : (per : ℕ) (rates : Parts) (n : ℕ) (fs : List (Flight P)) → length rates ≡ length fs
      → filter flying (drain_each per rates n fs)
      ≡ drain_each per (flagged (map mine (messages fs)) rates) n (filter flying fs)
  drain_kept per [] n [] e = refl
  drain_kept per (r ∷ rs) n [] e = absurd (omega arith)
  drain_kept per [] n (f ∷ fs) e = absurd (omega arith)
  drain_kept per (r ∷ rs) n (f ∷ fs) e = grind (arith, (drain_kept per rs n fs))

  -- a nanosecond of the world is one of its part
  pub drain_part : (w v : World P) (last : P → P → Option ℕ) (id : ℕ) → Within last id w → Drains cmp w v
      → Within last id v × Drains cmp (Small last id w) (Small last id v)
  drain_part w v last id is d =
      let u : World P = record w { sending = drain_each d.per d.rates 1 w.sending; moment = w.moment + 1 } in
      let as_many = one_each cmp w.caps (flows w) d.per d.rates d.fair ∙ length_messages w.sending in
      let fair : AreFair cmp w.caps (filter mine (flows w)) d.per (flagged (map mine (flows w)) d.rates)
      = fair_part cmp w.caps mine (flows w) d.per d.rates (shares w (each_message w.sending is.sending)) d.fair in
      let drains : Drains cmp (Small last id w) (Small last id u) = record {
        per = d.per;
        rates = flagged (map mine (flows w)) d.rates;
        fair =
            subst (λ (ms : List (Message P)). AreFair cmp w.caps ms d.per (flagged (map mine (flows w)) d.rates))
            (sym (map_kept w.sending)) fair;
        world =
            part_alike cmp order inside alike T u last id _ _ _ _ (drain_kept d.per d.rates 1 w.sending as_many) refl;
      } in
      let within : Within last id u =
      record {
        arrivals = is.arrivals;
        ids = is.ids;
        sending = each_drained d.per d.rates 1 w.sending is.sending;
        waiting = is.waiting;
      } in
      subst (λ (z : World P). Within last id z × Drains cmp (Small last id w) (Small last id z)) (sym d.world)
      (within, drains)
    where
      length_messages : (fs : List (Flight P)) → length (messages fs) ≡ length fs
      length_messages [] = refl
      length_messages (f ∷ fs) = ap suc (length_messages fs)

  -- and so are any number of them: the set's completions are the same, and the part is of the world that they lead to
  pub ticks_part : {n : ℕ} {w : World P} {course : Course (Completed P) (World P)} → Ticks cmp n w course
      → (cs : List (Completed P)) (v : World P) (last : P → P → Option ℕ) (id : ℕ) → course ≡ goes cs v
      → Within last id w → (l : P → P → Option ℕ) × (i : ℕ) × Within l i v
      × Ticks cmp n (Small last id w) (goes (filter (λ (c : Completed P). inside c.origin) cs) (Small l i v))
  ticks_part {w = w} no_tick cs v last id e is = grind (arith, no_tick)
  ticks_part {w = w} (one_tick {n = n} {v = z} {u = u} {cs = ds} {rest = rest} d i t) cs v last id e is =
      let r : (es : List (Completed P)) × (rest ≡ goes es v) × (ds ++ es ≡ cs) = rest_is cmp ds rest cs v e in
      let drained : Within last id z × Drains cmp (Small last id w) (Small last id z) = drain_part w z last id is d in
      let now = instant_part cmp order inside alike T z last id drained.0 in
      let landed : IsPartOf cmp order inside alike T (goes ds u) (instant cmp (Small last id z))
      = grind arith in
      let later = ticks_part t r.0 v landed.0 landed.1 r.1 landed.2 in
      let both : filter (λ (c : Completed P). inside c.origin) ds ++ filter (λ (c : Completed P). inside c.origin) r.0
      ≡ filter (λ (c : Completed P). inside c.origin) cs = grind (arith, filter-append) in (
        later.0,
        later.1,
        later.2,
        subst (λ (es : List (Completed P)). Ticks cmp (suc n) (Small last id w) (goes es (Small later.0 later.1 v)))
            both (one_tick drained.1 landed.3 later.3),
      )
  ticks_part (tick_faults d i) cs v last id e is = cc
