-- One message alone under caps takes its least time at the least of them.
use Rattle.link_simulation.proofs.Common.{◌*◌, sym, ◌∙◌, All-from_contains, ◌≡◌, ℕ, zero, suc, ◌+◌, ◌-◌, ◌<◌, ◌≤◌, List}
use Rattle.link_simulation.proofs.Common.{[], ◌∷◌, length, true, false, Option, Some, Contains, refl, subst, arith}
use Rattle.link_simulation.proofs.Common.{add-one, ◌||◌, ◌==◌, list_any, Ordering, IsTotalOrder, eq-eqb, All-contains}
use Rattle.link_simulation.proofs.Common.{Amount, whole, reduced, drained, Side, load, World, Flight, goes, flight_of}
use Rattle.link_simulation.proofs.Common.{last_moment, is_in_order, is_done, is_late, completed, completion_of, instant}
use Rattle.link_simulation.proofs.Common.{settle, IsQuiet, out_of_flight, call_advance, Runs, Message, Caps}
use Rattle.link_simulation.proofs.Common.{is_delivered, AreFair, capped_sides, is_unlimited, Drains, Passes, no_time}
use Rattle.link_simulation.proofs.Common.{quiet_tick, Ticks, NextIs, comes_next, rules}
use Rattle.std.proofs.Common.{le_refl, ◌↔◌}
use Rattle.std.proofs.lemmas.Bool.{ne_eqb}
use Rattle.link_simulation.specs.Laws.Alone.{IsTimeFor, IsLeastCap, MayGoAlone, IsDoneAfter}
use Rattle.fairness.specs.Numbers.LowestTerms.{reduced_lowest, whole_IsReduced}
use Rattle.fairness.proofs.Numbers.Draining.{spent_from_least}
use Rattle.link_simulation.proofs.Simulation.AlikeMessages.{same_itself, pair_itself}
use Rattle.link_simulation.proofs.Simulation.Continuing.{rates_exist}
use Rattle.link_simulation.proofs.Rule.FinishEvent.{settle_quiet, ticks_quiet, ticks_through}
use Rattle.link_simulation.proofs.Laws.PartRates.{Kind, at_egress, at_ingress, at_link, cap_at, uses_at, from_sides}
use Rattle.link_simulation.proofs.Simulation.Queue.{settle_first}
use Rattle.link_simulation.proofs.Simulation.Stretch.{stretch, drifts_on}

module _ {P : Type 0} (cmp : P → P → Ordering) (order : IsTotalOrder cmp) where
  -- ---- its rate

  module _ (caps : Caps P) (m : Message P) where
    abbrev sides : List Side
    sides = capped_sides cmp caps (m ∷ [])

    uses_own : (k : Kind) (cap : ℕ) → cap_at cmp caps k m ≡ Some cap → uses_at cmp caps k m m ≡ true
    uses_own at_egress cap is = same_itself cmp order m.origin
    uses_own at_ingress cap is = grind arith
    uses_own at_link cap is = pair_itself cmp order m

    limited_by : (k : Kind) (cap : ℕ) → cap_at cmp caps k m ≡ Some cap → is_unlimited cmp caps m ≡ false
    limited_by k cap is = grind arith

    -- it is the one user of each of its sides, and uses some
    own_side : (s : Side) → Contains sides s → (s.users ≡ 0 ∷ []) × (is_unlimited cmp caps m ≡ false)
    own_side s has = search (rules, from_sides, uses_own, limited_by)

    alone_load : (cap : ℕ) (s : Side) → Contains sides s → load (λ _. cap) s ≡ cap
    alone_load cap s has = grind (arith, (own_side s has))

    alone_rate : (cap : ℕ) → IsLeastCap cmp caps m cap → AreFair cmp caps (m ∷ []) 1 (Some cap ∷ [])
    alone_rate cap is =
        let own = own_side is.side is.used in
        record {
          parts = λ _. cap;
          fair = record {
            some_part = omega arith;
            within =
                All-from_contains (λ (t : Side). load (λ _. cap) t ≤ t.cap * 1) sides
                (λ t has. let all : cap ≤ t.cap = All-contains (λ (t : Side). cap ≤ t.cap) sides t is.least has in rw
                (alone_load cap t has) (omega arith));
            held = λ flow limited. record {
              side = is.side;
              uses =
                  record {
                    listed = is.used;
                    used = subst (λ users. Contains users flow) ((own_side limited.0 limited.1.listed).0 ∙ sym own.0)
                        limited.1.used;
                  };
              full = alone_load cap is.side is.used ∙ omega (arith, is.own);
              greatest = λ k d l. le_refl cap;
            };
          };
          rated = rw own.1 refl;
        }

  -- ---- its course

  -- under limits, with those messages in flight and none that wait
  abbrev world : Caps P → (P → P → Option ℕ) → ℕ → List (Flight P) → ℕ → World P
  world caps last id fs t =
      record { caps = caps; limited = true; sending = fs; waiting = []; last_arrival = last; next_id = id; moment = t }

  -- time goes by where nothing is in flight and nothing waits
  idle_passes : (n : ℕ) (caps : Caps P) (last : P → P → Option ℕ) (id t : ℕ)
      → Passes cmp n (world caps last id [] t) (world caps last id [] (t + n))
  idle_passes zero caps last id t = let same : t + zero ≡ t = omega arith in rw same no_time
  idle_passes (suc n) caps last id t =
      let fair = rates_exist cmp order caps [] in
      let same : t + 1 + n ≡ t + suc n = omega arith in
      quiet_tick (record { per = fair.0; rates = fair.1; fair = fair.2; world = refl })
      (record { none_done = refl; none_ready = refl })
      (subst (λ k. Passes cmp n (world caps last id [] (t + 1)) (world caps last id [] k)) same
      (idle_passes n caps last id (t + 1)))

  module _ (caps : Caps P) (last : P → P → Option ℕ) (id : ℕ) (m : Message P) (now cap k : ℕ)
      (least : IsLeastCap cmp caps m cap) (is_time : IsTimeFor (length m.bytes) cap (suc k))
      (some : 0 < length m.bytes) where
    -- what is left of it after n nanoseconds
    abbrev left : ℕ → Amount
    left n = drained (whole (length m.bytes)) (reduced cap 1) n

    spent : (n : ℕ) → ((left n).num ≡ 0) ↔ (suc k ≤ n)
    spent n =
        rw (reduced_lowest cap 1 (whole_IsReduced cap))
        (spent_from_least (whole (length m.bytes)) (whole cap) (suc k) n (omega arith) (omega arith) is_time)

    -- the world in which it has just started, and the one n nanoseconds later
    abbrev sent : World P
    sent = world caps last id (flight_of m ∷ []) now

    abbrev flight : ℕ → Flight P
    flight n = record { message = m; left = left n }

    abbrev later : ℕ → World P
    later n = world caps last id (flight n ∷ []) (now + n)

    fair : AreFair cmp caps (m ∷ []) 1 (Some cap ∷ [])
    fair = alone_rate caps m cap least

    limited : is_unlimited cmp caps m ≡ false
    limited = (own_side caps m least.side least.used).1

    not_done : (a : Amount) → (a.num ≡ 0 → ⊥) → ((a.num == 0) || is_unlimited cmp caps m) ≡ false
    not_done a more = rw (ne_eqb a.num 0 more, limited) refl

    not_yet : (n : ℕ) → n < suc k → (left n).num ≡ 0 → ⊥
    not_yet n less none = absurd (omega (arith, (spent n).0 none))

    quiet : (n : ℕ) → n < suc k → IsQuiet cmp (now + n) (later n)
    quiet n less = record { none_done = rw (not_done (left n) (not_yet n less)) refl; none_ready = refl }

    reaches : (j : ℕ) → j < suc k → (v : World P) × Passes cmp j sent v × Drains cmp v (later (suc j))
    reaches zero less = (sent, no_time, record { per = 1; rates = Some cap ∷ []; fair = fair; world = refl })
    reaches (suc j) less = (
      later (suc j),
      stretch cmp sent 1 (Some cap ∷ []) fair (omega arith, tt) j (λ n more le. quiet n (omega arith)),
      subst (λ n. Drains cmp (later (suc j)) (later n)) (add-one (suc j))
          (drifts_on cmp sent 1 (Some cap ∷ []) (suc j) fair (omega arith, tt)),
    )

    gone : ((left (suc k)).num == 0) ≡ true
    gone = eq-eqb (left (suc k)).num 0 ((spent (suc k)).1 (omega arith))

    -- the world in which it has arrived
    abbrev landed : World P
    landed = out_of_flight cmp (now + suc k) (later (suc k)) m

    completes : is_late cmp (now + suc k) m ≡ false
        → instant cmp (later (suc k)) ≡ goes (completed cmp (now + suc k) m ∷ []) landed
    completes in_time = grind (arith, later, gone, settle_first)

    advances : is_late cmp (now + suc k) m ≡ false
        → Runs cmp sent (call_advance (now + suc k)) (now + suc k) (goes (completed cmp (now + suc k) m ∷ []) landed)
    advances in_time =
        let r = reaches k (omega arith) in
        let long : suc k ≡ now + suc k - now = omega arith in
        grind (
          arith,
          (ticks_through cmp order r.1 (later (suc k)) (goes (completed cmp (now + suc k) m ∷ []) landed)
              r.2 (completes in_time)),
        )

    comes : now + suc k ≤ last_moment → NextIs cmp sent (Some (now + suc k))
    comes within =
        let r = reaches k (omega arith) in
        comes_next r.1 r.2 (λ quiet. let none = quiet.none_done in
        busy none)
        within
      where
        busy : list_any (is_done cmp (later (suc k))) (later (suc k)).sending ≡ false → ⊥
        busy none = let yes : list_any (is_done cmp (later (suc k))) (later (suc k)).sending ≡ true = rw gone refl in cc

    rests : settle cmp now sent ≡ goes [] sent
    rests =
        settle_quiet cmp order 1 now sent (rw (not_done (whole (length m.bytes)) (λ none. absurd (omega arith))) refl)

  from_idle : (caps : Caps P) (last : P → P → Option ℕ) (id t : ℕ) (m : Message P) (now cap k : ℕ)
      → is_in_order (last m.origin m.recipient) (now + m.latency) ≡ true → id < last_moment
      → t ≤ now → IsLeastCap cmp caps m cap → 0 < length m.bytes → IsTimeFor (length m.bytes) cap (suc k)
      → now + suc k ≤ last_moment → is_late cmp (now + suc k) m ≡ false
      → IsDoneAfter cmp (world caps last id [] t) now m (suc k)
  from_idle caps last id t m now cap k in_order below after least some is_time within in_time =
      let there : t + (now - t) ≡ now = omega arith in
      let waits : Ticks cmp (now - t) (world caps last id [] t) (goes [] (world caps last id [] now)) = grind (
        arith,
        ticks_quiet,
        idle_passes,
      ) in
      grind (
        arith,
        rests,
        (comes caps last (id + 1) m now cap k least is_time some within),
        (advances caps last (id + 1) m now cap k least is_time some in_time),
      )

  pub alone : (w : World P) (m : Message P) (now cap time : ℕ) → MayGoAlone cmp w now m → w.moment ≤ now
      → IsLeastCap cmp w.caps m cap → 0 < length m.bytes
      → IsTimeFor (length m.bytes) cap time → now + time ≤ last_moment → is_late cmp (now + time) m ≡ false
      → IsDoneAfter cmp w now m time
  alone w m now cap zero may after least some is_time within in_time = absurd (omega (arith, is_time.covers))
  alone w m now cap (suc k) may after least some is_time within in_time =
      grind (
        arith,
        limited,
        (from_idle w.caps w.last_arrival w.next_id w.moment m now cap k may.in_order may.has_id
            after least some is_time within in_time),
      )

  pub delivered_arrives : (m : Message P) (t : ℕ) → is_delivered cmp m ≡ true
      → completed cmp t m ≡ completion_of m t (Some (t + m.latency))
  delivered_arrives m t is = rw is refl
