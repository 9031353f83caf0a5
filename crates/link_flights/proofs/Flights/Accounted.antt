-- From one step of an account to the next.
use Rattle.link_flights.proofs.Common.{◌≡◌, ℕ, Bool, true, false, cond, not, ◌||◌, List, [], ◌∷◌, refl, sym, ap, ◌∙◌}
use Rattle.link_flights.proofs.Common.{inl, inr, ◌==◌, AllZip, filter, Ordering, Caps, In, from_filter, all_passed}
use Rattle.link_flights.proofs.Common.{is_unlimited, UnitFlight, DrainsTo, rated_ones, is_out, are_limited, IsRatedFrom}
use Rattle.link_flights.proofs.Common.{rated_flight_of, message_of}

module _ {P : Type 0} where
  there : (now : ℕ) (us vs : List (UnitFlight P)) → AllZip (DrainsTo now) us vs → (v : UnitFlight P) → In vs v
      → v.updated ≡ now
  there now [] [] z v among = absurd among
  there now [] (w ∷ vs) z v among = absurd z
  there now (u ∷ us) [] z v among = absurd z
  there now (u ∷ us) (w ∷ vs) z v (inl is) =
      ap (λ (x : UnitFlight P). x.updated) (sym is) ∙ ap (λ (x : UnitFlight P). x.updated) z.0
  there now (u ∷ us) (w ∷ vs) z v (inr among) = there now us vs z.1 v among

  -- all have rates
  pub all_have_rates : (now times : ℕ) (us vs : List (UnitFlight P)) → AllZip (IsRatedFrom now times) us vs
      → rated_ones vs ≡ vs
  all_have_rates now times [] [] z = refl
  all_have_rates now times [] (v ∷ vs) z = absurd z
  all_have_rates now times (u ∷ us) [] z = absurd z
  all_have_rates now times (u ∷ us) (v ∷ vs) z =
      ap (λ b. cond b (v ∷ rated_ones vs) (rated_ones vs)) z.0.rated
      ∙ ap (λ l. v ∷ l) (all_have_rates now times us vs z.1)

  module _ (cmp : P → P → Ordering) (caps : Caps P) where
    not_unlimited : (none free : Bool) → not (none || free) ≡ true → not free ≡ true
    not_unlimited true free h = cc
    not_unlimited false free h = h

    -- what stays is limited
    pub stays_limited : (scale : ℕ) (us : List (UnitFlight P))
        → are_limited cmp caps (filter (λ u. not (is_out cmp caps scale u)) us) ≡ true
    stays_limited scale us = all_passed (λ (u : UnitFlight P). not (is_unlimited cmp caps (message_of u.message)))
        (filter (λ u. not (is_out cmp caps scale u)) us) (λ u among.
        not_unlimited ((rated_flight_of scale u).left.num == 0) _
        (from_filter (λ u. not (is_out cmp caps scale u)) us u among).1)

    -- and so it is with new rates
    pub rated_limited : (now times : ℕ) (us vs : List (UnitFlight P)) → AllZip (IsRatedFrom now times) us vs
        → are_limited cmp caps us ≡ true → are_limited cmp caps vs ≡ true
    rated_limited now times us vs z all = same us vs z ∙ all
      where
        same : (us vs : List (UnitFlight P)) → AllZip (IsRatedFrom now times) us vs
            → are_limited cmp caps vs ≡ are_limited cmp caps us
        same [] [] z = refl
        same [] (v ∷ vs) z = absurd z
        same (u ∷ us) [] z = absurd z
        same (u ∷ us) (v ∷ vs) z = rw (z.0.message, same us vs z.1) refl
