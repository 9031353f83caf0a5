-- Planned worlds that are the same up to equal peers stand for the same worlds, and are in the range alike.
use Rattle.link_simulation.proofs.Common.{arith, ◌≡◌, ℕ, ◌<◌, ◌^◌, List, [], ◌∷◌, sym, ◌∙◌, subst, All}
use Rattle.link_simulation.proofs.Common.{list_any, AllZip, Ordering, IsTotalOrder, All-nil, Message, SameMessage}
use Rattle.link_simulation.proofs.Common.{OneForEachPair, pair_before, rate_of, World, Flight, Planned}
use Rattle.link_simulation.proofs.Common.{RatedFlight, IsRated, AreInPairOrder, IsLeastMoment, SomeSpentAt, SomeReadyAt}
use Rattle.link_simulation.proofs.Common.{rated_messages, IsInRange, IsSameFlight, Tallies, StandsFor}
use Rattle.link_simulation.proofs.Common.{IsSameRatedFlight, IsSamePlanned, zip_chain, zip-filter, common_steps, rules}
use Rattle.std.proofs.lemmas.List.Elements.{All-cons, All-head, All-tail, length_all_zip}
use Rattle.link_simulation.proofs.Simulation.AlikeMessages.{pairs_alike, message_itself, any_alike, fair_alike}
use Rattle.link_simulation.proofs.Simulation.InOrder.{before_alike}
use Rattle.link_simulation.proofs.Rule.SamePlanned.{message_chain, pairs_chain, caps_chain, same_turned}
use Rattle.link_simulation.proofs.Rule.SameSteps.{none_same, least_same, flows_same, some_spent_same, some_ready_same}

-- ---- lists

-- what holds of each holds of those that are the same
all_across : {X : Type 0} (R : X → X → Type 0) (Q : X → Type 0) → ((x y : X) → R x y → Q x → Q y) → (xs ys : List X)
    → AllZip R xs ys → All Q xs → All Q ys
all_across R Q f [] [] all h = All-nil Q
all_across R Q f [] (y ∷ ys) all h = absurd all
all_across R Q f (x ∷ xs) [] all h = absurd all
all_across R Q f (x ∷ xs) (y ∷ ys) all h =
    All-cons Q y ys (f x y all.0 (All-head Q x xs h)) (all_across R Q f xs ys all.1 (All-tail Q x xs h))

module _ {P : Type 0} (cmp : P → P → Ordering) (order : IsTotalOrder cmp) where
  -- ---- rates

  pub rated_same : (p q : Planned P) → IsSamePlanned cmp p q → IsRated cmp p → IsRated cmp q
  rated_same p q same rated =
      grind (
        arith,
        common_steps,
        zip_chain,
        rate_of,
        (fair_alike cmp order p.caps q.caps same.caps
            (rated_messages p.sending) (rated_messages q.sending) rated.per rated.rates
            (flows_same cmp order p.sending q.sending same.sending) rated.fair),
      )

  -- ---- standing for a world

  flight_same : (t : ℕ) (f g : RatedFlight P) (h : Flight P) → IsSameRatedFlight cmp f g → IsSameFlight cmp t g h
      → IsSameFlight cmp t f h
  flight_same t f g h same flight = grind arith

  none_before_same : (m n : Message P) (ms ns : List (Message P)) → SameMessage cmp m n → AllZip (SameMessage cmp) ms ns
      → list_any (λ k. pair_before cmp k m) ms ≡ list_any (λ k. pair_before cmp k n) ns
  none_before_same m n ms ns same all = grind (arith, any_alike, before_alike)

  pub order_same : (ms ns : List (Message P)) → AllZip (SameMessage cmp) ms ns → AreInPairOrder cmp ms
      → AreInPairOrder cmp ns
  order_same [] [] all h = tt
  order_same [] (n ∷ ns) all h = absurd all
  order_same (m ∷ ms) [] all h = absurd all
  order_same (m ∷ ms) (n ∷ ns) all h = (sym (none_before_same m n ms ns all.0 all.1) ∙ h.0, order_same ms ns all.1 h.1)

  tallies_same : (t : ℕ) (p q : Planned P) (w : World P) → IsSamePlanned cmp p q → IsSamePlanned cmp q p
      → Tallies cmp t p w → Tallies cmp t q w
  tallies_same t p q w same back tallies = record {
    moment = tallies.moment;
    caps = caps_chain cmp order q.caps p.caps w.caps back.caps tallies.caps;
    limited = back.limited ∙ tallies.limited;
    last_arrival =
        pairs_chain cmp order q.last_arrival p.last_arrival w.last_arrival back.last_arrival tallies.last_arrival;
    next_id = back.next_id ∙ tallies.next_id;
    waiting = λ m.
        zip_chain (SameMessage cmp) _ _ (message_chain cmp order) _ _ _ (zip-filter _ _ _
        (λ k l e. pairs_alike cmp order m m k l (message_itself cmp order m) e) q.waiting p.waiting back.waiting)
        (tallies.waiting m);
    pair_order = order_same p.waiting q.waiting same.waiting tallies.pair_order;
    sending =
        zip_chain (IsSameRatedFlight cmp) (IsSameFlight cmp t) (IsSameFlight cmp t) (flight_same t) q.sending p.sending
        w.sending back.sending tallies.sending;
    one_each = tallies.one_each;
    empty_at_first = λ free. still_empty (tallies.empty_at_first (same.limited ∙ free));
  }
    where
      still_empty : (p.sending ≡ []) × (p.waiting ≡ []) → (q.sending ≡ []) × (q.waiting ≡ [])
      still_empty (sends) = grind (arith, none_same)

  pub stands_same : (p q : Planned P) (w : World P) → IsSamePlanned cmp p q → StandsFor cmp p w → StandsFor cmp q w
  stands_same p q w same stands =
      let back : IsSamePlanned cmp q p = same_turned cmp order p q same in
      record {
        follows = record {
          tallies = tallies_same w.moment p q w same back stands.follows.tallies;
          rated = rated_same p q same stands.follows.rated;
          finish = subst (IsLeastMoment (SomeSpentAt q.sending)) same.finish (least_same _ _ p.finish
              (λ t. some_spent_same cmp order p.sending q.sending t same.sending)
              (λ t. some_spent_same cmp order q.sending p.sending t back.sending) stands.follows.finish);
        };
        quiet = stands.quiet;
        start = subst (IsLeastMoment (SomeReadyAt cmp q)) same.start (least_same _ _ p.start
            (some_ready_same cmp order p q same) (some_ready_same cmp order q p back) stands.start);
      }

  -- ---- the range

  pub one_each_same : (ms ns : List (Message P)) → AllZip (SameMessage cmp) ms ns → OneForEachPair cmp ms
      → OneForEachPair cmp ns
  one_each_same [] [] all h = tt
  one_each_same [] (n ∷ ns) all h = absurd all
  one_each_same (m ∷ ms) [] all h = absurd all
  one_each_same (m ∷ ms) (n ∷ ns) all h = grind (arith, any_alike, pairs_alike, (one_each_same ms ns))

  near_flight_same : (f g : RatedFlight P) → IsSameRatedFlight cmp f g → f.message.latency < 2 ^ 63
      → g.message.latency < 2 ^ 63
  near_flight_same f g same near = subst (λ (n : ℕ). n < 2 ^ 63) same.message.latency near

  near_same : (m n : Message P) → SameMessage cmp m n → m.latency < 2 ^ 63 → n.latency < 2 ^ 63
  near_same m n same near = subst (λ (k : ℕ). k < 2 ^ 63) same.latency near

  pub range_same : (p q : Planned P) → IsSamePlanned cmp p q → IsInRange p → IsInRange q
  range_same p q same range = search (rules, all_across, near_flight_same, near_same, length_all_zip)
