-- An account of what is in flight, from what its steps do.
use Rattle.link_flights.proofs.Common.{◌≡◌, ◌≢◌, ℕ, suc, ◌+◌, ◌*◌, ◌<◌, Bool, true, false, not, cond, if◌then◌else◌}
use Rattle.link_flights.proofs.Common.{◌||◌, List, [], ◌∷◌, Option, Some, None, refl, sym, ◌∙◌, ap, subst, arith}
use Rattle.link_flights.proofs.Common.{zero-add, get_or, All, slice_index, length-map, get_or-map, AllZip, filter}
use Rattle.link_flights.proofs.Common.{list_all, ◌==◌, Ordering, and_from, first_of_both, second_of_both, reduced}
use Rattle.link_flights.proofs.Common.{billion, Caps, message_of, UnitFlight, AreFairlyRated, IsRatedFrom, rates_of}
use Rattle.link_flights.proofs.Common.{rated_flight_of, sending_of, Message, RatedFlight, rated_messages, drained_to}
use Rattle.link_flights.proofs.Common.{is_spent, is_unlimited, IsLeastMoment, SomeSpentAt}
use Rattle.std.proofs.lemmas.List.Elements.{filter_passes}
use Rattle.link_simulation.specs.Rule.Events.{Accounts}
use Rattle.link_simulation.specs.Rule.Planned.{Planned}
use Rattle.link_simulation.specs.Simulation.Rates.{AreFair, rate_of, rates_from}
use Rattle.link_flights.proofs.Flights.InFlight.{nothing_is_done}
use Rattle.link_flights.proofs.Flights.Standing.{messages_read, messages_kept}
use Rattle.link_flights.proofs.Flights.Units.{grown_left, units_positive, nothing_left}

-- ---- what is in flight, and what it becomes

-- each stays, and what is left of it is worth the same in smaller units
stayed_so : {P : Type 0} (now scale grown times : ℕ) → 0 < scale → 0 < grown → grown ≡ scale * times
    → (us vs : List (UnitFlight P)) → AllZip (IsRatedFrom now times) us vs
    → AllZip (λ f g. (g.id ≡ f.id) × (g.message ≡ f.message) × (g.left ≡ f.left) × (g.updated ≡ now))
    (sending_of scale us) (sending_of grown vs)
stayed_so now scale grown times some more is [] [] each = tt
stayed_so now scale grown times some more is [] (v ∷ vs) each = absurd each
stayed_so now scale grown times some more is (u ∷ us) [] each = absurd each
stayed_so now scale grown times some more is (u ∷ us) (v ∷ vs) each = (
  (
    each.0.id,
    ap message_of each.0.message,
    ap (λ n. reduced n (grown * billion)) each.0.left ∙ grown_left scale times grown u.left some more is,
    each.0.updated,
  ),
  stayed_so now scale grown times some more is us vs each.1,
)

module _ {P : Type 0} (cmp : P → P → Ordering) where
  -- something is left of what stays
  some_left : (caps : Caps P) (fs : List (RatedFlight P))
      → All (λ f. f.left.num ≢ 0) (filter (λ f. not (is_spent cmp caps f)) fs)
  some_left caps fs k d lt none =
      passes (get_or (filter (λ f. not (is_spent cmp caps f)) fs) k d) none
      (filter_passes (λ f. not (is_spent cmp caps f)) fs k d lt)
    where
      passes : (f : RatedFlight P) → f.left.num ≡ 0 → not (is_spent cmp caps f) ≡ true → ⊥
      passes f none stays = let spent : is_spent cmp caps f ≡ true = nothing_is_done f.left.num _ none in cc

  -- and there are units of it
  pub some_units_left : (caps : Caps P) (scale : ℕ) → 0 < scale → (us : List (UnitFlight P)) (fs : List (RatedFlight P))
      → sending_of scale us ≡ filter (λ f. not (is_spent cmp caps f)) fs → All (λ u. u.left ≢ 0) us
  some_units_left caps scale some us fs rest k d lt none =
      let read : UnitFlight P → RatedFlight P = rated_flight_of scale in
      let there : get_or (sending_of scale us) k (read d) ≡ read (get_or us k d) = get_or-map read us k d (read d) lt in
      let left : All (λ (f : RatedFlight P). f.left.num ≢ 0) (sending_of scale us) =
      subst (λ (gs : List (RatedFlight P)). All (λ f. f.left.num ≢ 0) gs) (sym rest) (some_left caps fs) in
      left k (read d) (omega (arith, length-map us read, lt))
      (ap (λ (f : RatedFlight P). f.left.num) there
      ∙ nothing_left (get_or us k d).left (scale * billion) (units_positive scale some) none)

  limited_if_not_spent : (none unlimited : Bool) → not (none || unlimited) ≡ true → not unlimited ≡ true
  limited_if_not_spent true unlimited h = cc
  limited_if_not_spent false unlimited h = h

  -- what stays uses a capped side
  abbrev all_limited : Caps P → List (Message P) → Bool
  all_limited caps ms = list_all (λ (m : Message P). not (is_unlimited cmp caps m)) ms

  stays_limited : (caps : Caps P) (fs : List (RatedFlight P))
      → all_limited caps (rated_messages (filter (λ f. not (is_spent cmp caps f)) fs)) ≡ true
  stays_limited caps [] = refl
  stays_limited caps (f ∷ fs) = by_test (not (is_spent cmp caps f)) refl (stays_limited caps fs)
    where
      by_test : (b : Bool) → not (is_spent cmp caps f) ≡ b
          → all_limited caps (rated_messages (filter (λ g. not (is_spent cmp caps g)) fs)) ≡ true
          → all_limited caps (rated_messages (cond b (f ∷ filter (λ g. not (is_spent cmp caps g)) fs)
          (filter (λ g. not (is_spent cmp caps g)) fs))) ≡ true
      by_test true e others =
          and_from _ _ (limited_if_not_spent (f.left.num == 0) (is_unlimited cmp caps f.message) e) others
      by_test false e others = others

  -- each has the rate of its place
  rated_so : (scale : ℕ) (caps : Caps P) (parts : ℕ → ℕ) (place : ℕ) (vs : List (UnitFlight P))
      → ((i : ℕ) → parts (place + i) ≡ slice_index (rates_of vs) i)
      → all_limited caps (rated_messages (sending_of scale vs)) ≡ true
      → AllZip (λ rate f. f.rate ≡ rate_of scale rate)
      (rates_from cmp caps parts place (rated_messages (sending_of scale vs))) (sending_of scale vs)
  rated_so scale caps parts place [] at limited = tt
  rated_so scale caps parts place (v ∷ vs) at limited = (
    by_test (is_unlimited cmp caps (message_of v.message))
        (first_of_both (not (is_unlimited cmp caps (message_of v.message))) _ limited),
    rated_so scale caps parts (place + 1) vs (λ i. ap parts (next i) ∙ at (suc i))
        (second_of_both (not (is_unlimited cmp caps (message_of v.message))) _ limited),
  )
    where
      next : (i : ℕ) → place + 1 + i ≡ place + suc i
      next i = omega arith

      here : place ≡ place + 0
      here = omega arith

      by_test : (b : Bool) → not b ≡ true
          → Some (reduced v.rate scale) ≡ rate_of scale (if b then None else Some (parts place))
      by_test true h = cc
      by_test false h = ap (λ n. Some (reduced n scale)) (sym (ap parts here ∙ at 0))

-- ---- the account

-- with fair rates for what stays, and a finish, this is an account
pub accounts_so : {P : Type 0} (cmp : P → P → Ordering) (now : ℕ) (old : Planned P) (scale grown times : ℕ) → 0 < scale
    → 0 < grown → grown ≡ scale * times → (us vs : List (UnitFlight P))
    → sending_of scale us ≡ filter (λ f. not (is_spent cmp old.caps f)) (drained_to now old.sending)
    → AllZip (IsRatedFrom now times) us vs → AreFairlyRated cmp old.caps grown vs
    → (leavers : List (Message P)) (finish : Option ℕ)
    → leavers ≡ rated_messages (filter (is_spent cmp old.caps) (drained_to now old.sending))
    → IsLeastMoment (λ s. SomeSpentAt (sending_of grown vs) s) finish
    → Accounts cmp now old leavers (record old { sending = sending_of grown vs; accounted = now; finish = finish })
accounts_so {P} cmp now old scale grown times some more is us vs rest each fair leavers finish left least =
    let parts : ℕ → ℕ = slice_index (rates_of vs) in
    let ms : List (Message P) = rated_messages (sending_of grown vs) in
    let limited : all_limited cmp old.caps ms ≡ true =
    ap (all_limited cmp old.caps)
    (messages_read grown vs ∙ messages_kept now times us vs each ∙ sym (messages_read scale us)
    ∙ ap rated_messages rest)
    ∙ stays_limited cmp old.caps (drained_to now old.sending) in
    record {
      per = grown;
      rates = rates_from cmp old.caps parts 0 ms;
      left = left;
      stayed =
          subst
          (λ (stay : List (RatedFlight P)). AllZip
          (λ f g. (g.id ≡ f.id) × (g.message ≡ f.message) × (g.left ≡ f.left) × (g.updated ≡ now)) stay
          (sending_of grown vs))
          rest
          (stayed_so now scale grown times some more is us vs each);
      fair =
          subst (λ (ns : List (Message P)). AreFair cmp old.caps ns grown (rates_from cmp old.caps parts 0 ns))
          (sym (messages_read grown vs)) (record { parts = parts; fair = fair; rated = refl });
      rated = rated_so cmp grown old.caps parts 0 vs (λ i. ap parts (zero-add i)) limited;
      finish = least;
      same = refl;
    }
