-- The least rate of those that leave, one after another.
use Rattle.link_flights.proofs.Common.{◌≡◌, ℕ, zero, suc, ◌+◌, ◌-◌, ◌<◌, ◌≤◌, Bool, true, false, List, [], ◌∷◌, length}
use Rattle.link_flights.proofs.Common.{get_or, drop, Option, sym, ap, ◌∙◌, subst, arith, add-one, ◌⊎◌, inl, inr, remove}
use Rattle.link_flights.proofs.Common.{false≢true, In, in_from_contains, from_map, Flight, UnitFlight, flight_at}
use Rattle.link_flights.proofs.Common.{flights_at, PassesNowhere, IsNoMore}
use Rattle.link_flights.specs.Flights.Rated.{IsFloorOf}
use Rattle.link_flights.proofs.Flights.InFlight.{goes_on}

module _ {X : Type 0} where
  first_or_later : (xs : List X) (at : ℕ) (y : X) → at < length xs → In (drop at xs) y
      → (get_or xs at y ≡ y) ⊎ In (drop (suc at) xs) y
  first_or_later [] at y lt among = absurd (omega arith)
  first_or_later (z ∷ xs) zero y lt among = among
  first_or_later (z ∷ xs) (suc at) y lt among = first_or_later xs at y (omega arith) among

  still_later : (xs : List X) (at : ℕ) (y : X) → at < length xs → In (drop (suc at) xs) y
      → In (drop at (remove xs at)) y
  still_later [] at y lt among = absurd (omega arith)
  still_later (z ∷ xs) zero y lt among = among
  still_later (z ∷ xs) (suc at) y lt among = still_later xs at y (omega arith) among

  none_later : (xs : List X) (at : ℕ) (y : X) → length xs ≤ at → In (drop at xs) y → ⊥
  none_later [] zero y le among = among
  none_later [] (suc at) y le among = among
  none_later (z ∷ xs) zero y le among = absurd (omega arith)
  none_later (z ∷ xs) (suc at) y le among = none_later xs at y (omega arith) among

module _ {P : Type 0} (out : Flight P → Bool) where
  -- the floor is no more than its rate, if it has one
  abbrev pub IsOver : Option ℕ → Flight P → Type 0
  IsOver floor f = f.rated ≡ true → IsNoMore floor (flight_at 0 f).rate

  -- those that leave are over the floor, but for those from a place on, which are to be looked at
  abbrev pub AreOver : Option ℕ → (old now : List (Flight P)) → ℕ → Type 0
  AreOver floor old now at =
      (f : Flight P) → In old f → out f ≡ true → In (drop at now) f ⊎ IsOver floor f

  pub none_over : (floor : Option ℕ) (old : List (Flight P)) → AreOver floor old old 0
  none_over floor old f among leaves = inl among

  module _ (floor : Option ℕ) (old now : List (Flight P)) (at : ℕ) (h : AreOver floor old now at) where
    module _ (lt : at < length now) where
      over_stays : ((d : Flight P) → out (get_or now at d) ≡ false) → AreOver floor old now (at + 1)
      over_stays stays = rw add-one (λ f among leaves. elim (h f among leaves) [
        | inl later ↦ elim (first_or_later now at f lt later) [
          | inl same ↦ absurd (false≢true (sym (stays f) ∙ ap out same ∙ leaves))
          | inr later ↦ inl later
        ]
        | inr over ↦ inr over
      ])

      pub over_leaves : (lower : Option ℕ) → ((d : Flight P) → IsOver lower (get_or now at d))
          → ((rate : ℕ) → IsNoMore floor rate → IsNoMore lower rate) → AreOver lower old (remove now at) at
      over_leaves lower here still f among leaves = elim (h f among leaves) [
        | inl later ↦ elim (first_or_later now at f lt later) [
          | inl same ↦ inr (subst (IsOver lower) same (here f))
          | inr later ↦ inl (still_later now at f lt later)
        ]
        | inr over ↦ inr (λ rated. still _ (over rated))
      ]

    pub all_over : length now ≤ at → (f : Flight P) → In old f → out f ≡ true → IsOver floor f
    all_over le f among leaves =
        elim (h f among leaves) [ inl later ↦ absurd (none_later now at f le later) | inr over ↦ over ]

  -- those from a place on stay, up to another
  pub over_stay : (floor : Option ℕ) (old now : List (Flight P)) (at to : ℕ) → AreOver floor old now at
      → at ≤ to → to ≤ length now → PassesNowhere out now at to → AreOver floor old now to
  over_stay floor old now at to h later inside stay =
      let there : at + (to - at) ≡ to = omega (arith, later) in
      subst (AreOver floor old now) there
      (goes_on (AreOver floor old now) at (to - at) h
      (λ i after before over. over_stays floor old now i over (omega (arith, before, there, inside))
      (stay i after (omega (arith, before, there)))))

  -- so it is a floor
  pub floor_so : (floor : Option ℕ) (test : UnitFlight P → Bool) (now : ℕ) (old : List (Flight P))
      → ((f : Flight P) → test (flight_at now f) ≡ out f)
      → ((f : Flight P) → In old f → out f ≡ true → IsOver floor f)
      → IsFloorOf test (flights_at now old) floor
  floor_so floor test now old same all u listed leaves rated =
      let r = from_map (λ (f : Flight P). flight_at now f) old u
      (in_from_contains (flights_at now old) u listed) in
      let is : flight_at now r.0 ≡ u = r.2 in
      subst (λ (v : UnitFlight P). IsNoMore floor v.rate) is
      (all r.0 r.1 (sym (same r.0) ∙ ap test is ∙ leaves) (ap (λ (v : UnitFlight P). v.rated) is ∙ rated))
