-- An account at t takes out what is done in the world at t, and leaves the rest as it is there.
use Rattle.link_simulation.proofs.Common.{common_steps, ◌≡◌, ℕ, suc, ◌-◌, ◌<◌, List, [], ◌∷◌, map, Bool, true, false}
use Rattle.link_simulation.proofs.Common.{not, Some, None, refl, sym, ap, ◌∙◌, subst, arith, slice_get, filter, AllZip}
use Rattle.link_simulation.proofs.Common.{Ordering, IsTotalOrder, Amount, reduced, reduced_positive, Flight, World}
use Rattle.link_simulation.proofs.Common.{is_done, Accounts, Message, OneForEachPair, PairsAlike, SameMessage}
use Rattle.link_simulation.proofs.Common.{same_pair, CapsAlike, AreInPairOrder, RatedFlight, Planned, drained_to}
use Rattle.link_simulation.proofs.Common.{is_spent, left_at, rated_messages, IsLowest, Parts, is_unlimited, rate_of}
use Rattle.link_simulation.proofs.Common.{Follows, IsSameFlight, Tallies, leaving, staying, Each, zip-filter}
use Rattle.link_simulation.proofs.Simulation.LowestTerms.{drained_by_lowest, drained_none}
use Rattle.link_simulation.proofs.Simulation.Queue.{any_filter}
use Rattle.link_simulation.proofs.Simulation.AlikeMessages.{unlimited_alike}
use Rattle.fairness.proofs.Lists.Each.{each_at}
use Rattle.link_simulation.proofs.Simulation.Rates.{all_rated}

-- ---- lists

-- each that stays passes
pub each_passes : {X : Type 0} (test : X → Bool) (xs : List X) → Each (λ x. test x ≡ true) (filter test xs)
each_passes test [] = tt
each_passes {X} test (x ∷ xs) = grind (arith, (each_passes test xs))

-- what matches nothing is nothing
pub none_matched : {X Y : Type 0} (R : X → Y → Type 0) (ys : List Y) → AllZip R [] ys → ys ≡ []
none_matched R [] all = refl
none_matched R (y ∷ ys) all = absurd all

module _ {P : Type 0} (cmp : P → P → Ordering) (order : IsTotalOrder cmp) where
  -- ---- an account

  -- a message as it was drained, and as it is in the world
  record IsDrawn (n : RatedFlight P) (g : Flight P) : Type 0 where
    pub message : SameMessage cmp n.message g.message
    pub lowest : IsLowest n.left
    pub left : g.left ≡ n.left

  drawn : (t : ℕ) (fs : List (RatedFlight P)) (gs : List (Flight P)) → AllZip (IsSameFlight cmp t) fs gs
      → AllZip IsDrawn (drained_to t fs) gs
  drawn t [] [] all = tt
  drawn t [] (g ∷ gs) all = absurd all
  drawn t (f ∷ fs) [] all = absurd all
  drawn t (f ∷ fs) (g ∷ gs) all = grind (arith, drained_by_lowest, (drawn t fs gs))

  spent_alike : (p : Planned P) (w : World P) → CapsAlike cmp p.caps w.caps → (n : RatedFlight P) (g : Flight P)
      → IsDrawn n g → is_spent cmp p.caps n ≡ is_done cmp w g
  spent_alike p w caps n g same = grind (arith, unlimited_alike)

  drawn_messages : (fs : List (RatedFlight P)) (gs : List (Flight P)) → AllZip IsDrawn fs gs
      → AllZip (SameMessage cmp) (rated_messages fs) (map (λ (g : Flight P). g.message) gs)
  drawn_messages [] [] all = tt
  drawn_messages [] (g ∷ gs) all = absurd all
  drawn_messages (f ∷ fs) [] all = absurd all
  drawn_messages (f ∷ fs) (g ∷ gs) all = (all.0.message, drawn_messages fs gs all.1)

  -- draining again for no time changes nothing
  rated_flights : (t per : ℕ) (rates : Parts) (ss ns : List (RatedFlight P)) (gs : List (Flight P)) → 0 < per
      → AllZip IsDrawn ss gs
      → AllZip (λ f g. (g.id ≡ f.id) × (g.message ≡ f.message) × (g.left ≡ f.left) × (g.updated ≡ t)) ss ns
      → AllZip (λ rate f. f.rate ≡ rate_of per rate) rates ns → ((i : ℕ) → slice_get rates i ≡ Some None → ⊥)
      → AllZip (IsSameFlight cmp t) ns gs
  rated_flights t per rates [] [] [] some all stayed rated none = tt
  rated_flights t per rates [] [] (g ∷ gs) some all stayed rated none = absurd all
  rated_flights t per rates (s ∷ ss) [] gs some all stayed rated none = absurd stayed
  rated_flights t per rates [] (n ∷ ns) gs some all stayed rated none = absurd stayed
  rated_flights t per rates (s ∷ ss) (n ∷ ns) [] some all stayed rated none = absurd all
  rated_flights t per [] (s ∷ ss) (n ∷ ns) (g ∷ gs) some all stayed rated none = absurd rated
  rated_flights t per (None ∷ rates) (s ∷ ss) (n ∷ ns) (g ∷ gs) some all stayed rated none = absurd (none 0 refl)
  rated_flights t per (Some a ∷ rates) (s ∷ ss) (n ∷ ns) (g ∷ gs) some all stayed rated none =
      let rate : Amount = reduced a per in
      let positive : 0 < rate.den = reduced_positive a per some in
      let low : IsLowest n.left = subst IsLowest (sym stayed.0.2) all.0.lowest in
      let no_time : t - n.updated ≡ 0 = omega arith in
      let left : left_at t n ≡ n.left
      = grind (arith, drained_none) in (
        grind arith,
        rated_flights t per rates ss ns gs some all.1 stayed.1 rated.1 (λ i. none (suc i)),
      )

  -- what stays uses a capped side
  each_limited : (p : Planned P) (t : ℕ) (ss ns : List (RatedFlight P))
      → Each (λ f. not (is_spent cmp p.caps f) ≡ true) ss
      → AllZip (λ f g. (g.id ≡ f.id) × (g.message ≡ f.message) × (g.left ≡ f.left) × (g.updated ≡ t)) ss ns
      → Each (λ m. is_unlimited cmp p.caps m ≡ false) (rated_messages ns)
  each_limited p t [] [] stay stayed = tt
  each_limited p t [] (n ∷ ns) stay stayed = absurd stayed
  each_limited p t (s ∷ ss) [] stay stayed = absurd stayed
  each_limited p t (s ∷ ss) (n ∷ ns) stay stayed = grind (arith, (each_limited p t ss ns))

  one_filter : (test : Flight P → Bool) (fs : List (Flight P))
      → OneForEachPair cmp (map (λ (f : Flight P). f.message) fs)
      → OneForEachPair cmp (map (λ (f : Flight P). f.message) (filter test fs))
  one_filter test [] one = tt
  one_filter test (f ∷ fs) one =
      grind (arith, common_steps, (any_filter cmp order (same_pair cmp f.message) test fs one.0), (one_filter test fs one.1))

  -- an account at t takes out what is done in the world at t, and leaves the rest as it is there
  pub leavers_alike : (t : ℕ) (old new : Planned P) (leavers : List (Message P)) (w : World P) → Tallies cmp t old w
      → Accounts cmp t old leavers new
      → AllZip (SameMessage cmp) leavers (map (λ (g : Flight P). g.message) (leaving cmp w))
  unfolding leaving
  leavers_alike t old new leavers w same account = grind (arith, drawn_messages, zip-filter, spent_alike, drawn)

  pub account_follows : (t : ℕ) (old new : Planned P) (leavers : List (Message P)) (w : World P) → Tallies cmp t old w
      → Accounts cmp t old leavers new → Follows cmp t new (staying cmp w)
  unfolding staying
  account_follows t old new leavers w same account = record {
    tallies = record {
      moment = same.moment;
      caps = subst (λ (q : Planned P). CapsAlike cmp q.caps w.caps) (sym account.same) same.caps;
      limited = ap (λ (q : Planned P). q.limited) account.same ∙ same.limited;
      last_arrival =
          subst (λ (q : Planned P). PairsAlike cmp q.last_arrival w.last_arrival) (sym account.same) same.last_arrival;
      next_id = ap (λ (q : Planned P). q.next_id) account.same ∙ same.next_id;
      waiting =
          subst (λ (q : Planned P). (m : Message P)
          → AllZip (SameMessage cmp) (filter (same_pair cmp m) q.waiting) (filter (same_pair cmp m) w.waiting))
          (sym account.same) same.waiting;
      pair_order = subst (λ (q : Planned P). AreInPairOrder cmp q.waiting) (sym account.same) same.pair_order;
      sending =
          rated_flights t account.per account.rates stays new.sending
          (filter (λ (g : Flight P). not (is_done cmp w g)) w.sending) account.fair.fair.some_part
          (zip-filter IsDrawn (λ (f : RatedFlight P). not (is_spent cmp old.caps f))
          (λ (g : Flight P). not (is_done cmp w g)) (λ n g e. ap not (spent_alike old w same.caps n g e))
          (drained_to t old.sending) w.sending (drawn t old.sending w.sending same.sending))
          account.stayed account.rated
          (all_rated cmp old.caps (rated_messages new.sending) account.per account.rates account.fair
          (each_at (λ (m : Message P). is_unlimited cmp old.caps m ≡ false) (rated_messages new.sending)
          (each_limited old t stays new.sending
          (each_passes (λ (f : RatedFlight P). not (is_spent cmp old.caps f)) (drained_to t old.sending))
          account.stayed)));
      one_each = one_filter (λ (g : Flight P). not (is_done cmp w g)) w.sending same.one_each;
      empty_at_first = λ free.
          still_empty (same.empty_at_first (sym (ap (λ (q : Planned P). q.limited) account.same) ∙ free));
    };
    rated = grind arith;
    finish = account.finish;
  }
    where
      still_empty : (old.sending ≡ []) × (old.waiting ≡ []) → (new.sending ≡ []) × (new.waiting ≡ [])
      still_empty (sends) = grind (arith, none_matched)

      stays : List (RatedFlight P)
      stays = filter (λ (f : RatedFlight P). not (is_spent cmp old.caps f)) (drained_to t old.sending)
