-- What is in flight, counted in larger units: it is worth the same, fair as before, and finishes when it did.
use Rattle.link_flights.proofs.Common.{◌∣◌, ◌≡◌, ℕ, zero, suc, ◌-◌, ◌*◌, ◌/◌, ◌<◌, ◌≤◌, nat_le, Bool, true, false}
use Rattle.link_flights.proofs.Common.{if◌then◌else◌, List, [], ◌∷◌, Some, slice_get, refl, sym, ap, ◌∙◌, subst, arith}
use Rattle.link_flights.proofs.Common.{inl, inr, ◌+◌, length, get_or, map, Option, Contains, slice_index, IsGcd, AllZip}
use Rattle.link_flights.proofs.Common.{Ordering, mul_assoc, same_Some, slice_get_read, le-leb}
use Rattle.link_flights.proofs.Common.{cases_lt, All-contains, Side, IsFair, reduced, billion, reduced_alike}
use Rattle.link_flights.proofs.Common.{reduced_scaled, Caps, All-from_contains, message_of, is_delivered, limits, In}
use Rattle.link_flights.proofs.Common.{in_from_contains, contains_from_in, capped_sides, Flight, UnitFlight, left_by}
use Rattle.link_flights.proofs.Common.{flight_at, flights_at, IsTimed, AreTimed, has_come, IsCountedBy, sent_messages}
use Rattle.link_flights.proofs.Common.{rates_of, rated_ones, AreFairlyRated, are_limited, DifferWhereLoose}
use Rattle.link_flights.proofs.Common.{rated_flight_of, sending_of, ◌%◌, mul-sub, mul_comm, mul-div_cancel'}
use Rattle.link_flights.proofs.Common.{le_of_mul-le-mul_left, dvd_trans, load}
use Rattle.std.proofs.Math.Nat.{mul-le-mul_left}
use Rattle.std.proofs.Math.Nat.{mul-lt-mul_of_pos_left}
use Rattle.std.proofs.lemmas.Nat.Gcd.{IsGcd-from_mod}
use Rattle.std.proofs.lemmas.Bool.{lt-leb}
use Rattle.fairness.proofs.Lists.Sums.{sum_by_same}
use Rattle.fairness.proofs.Lists.SumOrder.{sum_by-scaled}
use Rattle.link_pairs.specs.declared.message.Message as code
use Rattle.link_flights.specs.Flights.LargerUnits.{IsFactorOf, IsFactorOfAll, AreCountedBy}
use Rattle.fairness.proofs.Lists.Zips.{zip-filter}
use Rattle.link_flights.proofs.Flights.Flight.{zip_there}
use Rattle.link_flights.proofs.Flights.Units.{units_positive}

-- ---- numbers

-- what divides a number and its remainder divides the number that was divided
pub divides_whole : (most n by : ℕ) → IsGcd most (n % most) by → by ∣ n
divides_whole most n by h = (IsGcd-from_mod n most by h).0

pub times_part : (by n m : ℕ) → by ∣ n → m ≡ n / by → n ≡ by * m
times_part by n m divides is = sym (ap (λ k. by * k) is ∙ mul-div_cancel' by divides)

same_order : (by a b : ℕ) → 0 < by → nat_le (by * a) (by * b) ≡ nat_le a b
same_order by a b some = elim (cases_lt b a) [
  | inl lt ↦ lt-leb _ _ (mul-lt-mul_of_pos_left lt some) ∙ sym (lt-leb a b lt)
  | inr le ↦ le-leb _ _ (mul-le-mul_left by le) ∙ sym (le-leb a b le)
]

-- ---- a factor of all so far

-- a number divides the scale, and what is kept of the messages before a place
pub record IsFactorUpTo {P : Type 0} (scale : ℕ) (fs : List (Flight P)) (at by : ℕ) : Type 0 where
  pub some : 0 < by
  pub units : by ∣ scale
  pub so_far : (i : ℕ) (f : Flight P) → i < at → slice_get fs i ≡ Some f → IsFactorOf f by

module _ {P : Type 0} (scale : ℕ) (fs : List (Flight P)) where
  pub next_factor : (at by next : ℕ) (x : Flight P) → IsFactorUpTo scale fs at by → at < length fs
      → x ≡ get_or fs at x → next ∣ by → IsFactorOf x next → IsFactorUpTo scale fs (at + 1) next
  next_factor at by next x h inside is part here = record {
    some = here.some;
    units = dvd_trans next part h.units;
    so_far = λ i f before there. elim (cases_lt i at) [
      | inl lt ↦
          let last = h.so_far i f lt there in
          record { some = here.some; left = dvd_trans next part last.left; rate = dvd_trans next part last.rate }
      | inr le ↦
          let same : i ≡ at = omega arith in
          subst (λ y. IsFactorOf y next)
          (same_Some x f (sym (slice_get_read fs (length fs) at x refl inside is)
          ∙ ap (slice_get fs) (sym same) ∙ there)) here
    ];
  }

-- ---- fairness in larger units

module _ (per new by : ℕ) (parts fewer : ℕ → ℕ) (some : 0 < by) (positive : 0 < new) (is : per ≡ by * new)
    (each : (flow : ℕ) → parts flow ≡ by * fewer flow) where
  load_parts : (side : Side) → load parts side ≡ by * load fewer side
  load_parts side =
      sum_by_same parts (λ flow. fewer flow * by) side.users
      (All-from_contains (λ flow. parts flow ≡ fewer flow * by) side.users
      (λ flow among. each flow ∙ mul_comm by (fewer flow)))
      ∙ sum_by-scaled fewer by side.users ∙ mul_comm (load fewer side) by

  cap_parts : (side : Side) → side.cap * per ≡ by * (side.cap * new)
  cap_parts side = ap (λ n. side.cap * n) is ∙ omega arith

  pub fair_in_larger : (sides : List Side) → IsFair sides per parts → IsFair sides new fewer
  fair_in_larger sides fair = record {
    some_part = positive;
    within = All-from_contains (λ side. load fewer side ≤ side.cap * new) sides (λ side listed.
        le_of_mul-le-mul_left (omega (
          arith,
          All-contains (λ side. load parts side ≤ side.cap * per) sides side fair.within listed,
          load_parts side,
          cap_parts side,
        )) some);
    held = λ flow limited.
        let h = fair.held flow limited in
        record {
          side = h.side;
          uses = h.uses;
          full = cancel by (load fewer h.side) (h.side.cap * new) some
              (sym (load_parts h.side) ∙ h.full ∙ cap_parts h.side);
          greatest = All-from_contains (λ other. fewer other ≤ fewer flow) h.side.users (λ other among.
              le_of_mul-le-mul_left (omega (
                arith,
                All-contains (λ other. parts other ≤ parts flow) h.side.users other h.greatest among,
                each other,
                each flow,
              )) some);
        };
  }
    where
      cancel : (k a b : ℕ) → 0 < k → k * a ≡ k * b → a ≡ b
      cancel k a b some same =
          let low : a ≤ b = le_of_mul-le-mul_left (omega (arith, same)) some in
          let high : b ≤ a = le_of_mul-le-mul_left (omega (arith, same)) some in
          omega arith

-- ---- one message

module _ {P : Type 0} (by : ℕ) where
  -- the same message, as it stands, counted in larger units
  pub record IsLarger (u v : UnitFlight P) : Type 0 where
    pub id : u.id ≡ v.id
    pub message : u.message ≡ v.message
    pub left : u.left ≡ by * v.left
    pub rate : u.rate ≡ by * v.rate
    pub updated : u.updated ≡ v.updated
    pub rated : u.rated ≡ v.rated

  larger_unit : (at : ℕ) (f g : Flight P) → IsFactorOf f by → IsCountedBy by f g
      → IsLarger (flight_at at f) (flight_at at g)
  larger_unit at f g factor counted = record {
    id = sym counted.id;
    message = sym counted.message;
    left = left_so f.rated refl;
    rate = rate_so f.rated refl;
    updated = ap (λ b. if b then at else f.since) (sym counted.rated)
        ∙ ap (λ n. if g.rated then at else n) (sym counted.since);
    rated = sym counted.rated;
  }
    where
      r : ℕ
      r = f.rate

      left : f.left ≡ by * g.left
      left = times_part by f.left g.left factor.left counted.left

      rate : f.rate ≡ by * g.rate
      rate = times_part by f.rate g.rate factor.rate counted.rate

      drained : left_by at f ≡ by * left_by at g
      drained =
          ap (λ n. n - f.rate * (at - f.since)) left
          ∙ ap (λ n. by * g.left - n * (at - f.since)) rate
          ∙ ap (λ n. by * g.left - n) (mul_assoc by g.rate (at - f.since))
          ∙ sym (mul-sub by g.left (g.rate * (at - f.since)))
          ∙ ap (λ n. by * (g.left - g.rate * (at - n))) (sym counted.since)

      left_so : (b : Bool) → f.rated ≡ b → (flight_at at f).left ≡ by * (flight_at at g).left
      left_so true is = rw (counted.rated, is) drained
      left_so false is = rw (counted.rated, is) left

      rate_so : (b : Bool) → f.rated ≡ b → (flight_at at f).rate ≡ by * (flight_at at g).rate
      rate_so true is = rw (counted.rated, is) rate
      rate_so false is = rw (counted.rated, is) (omega arith)

  -- it is worth the same
  worth_same : (scale new : ℕ) (u v : UnitFlight P) → 0 < by → 0 < new → scale ≡ by * new → IsLarger u v
      → rated_flight_of scale u ≡ rated_flight_of new v
  worth_same scale new u v some positive is l = λ i. record {
    id = l.id i;
    message = message_of (l.message i);
    left = left i;
    rate = Some (rate i);
    updated = l.updated i;
  }
    where
      left : reduced u.left (scale * billion) ≡ reduced v.left (new * billion)
      left =
          reduced_alike _ _ _ _ l.left (ap (λ n. n * billion) is ∙ mul_assoc by new billion)
          ∙ reduced_scaled by v.left (new * billion) some (units_positive new positive)

      rate : reduced u.rate scale ≡ reduced v.rate new
      rate = reduced_alike _ _ _ _ l.rate is ∙ reduced_scaled by v.rate new some positive

  -- it finishes when it did
  timed_in_larger : (f g : Flight P) → IsFactorOf f by → IsCountedBy by f g → IsTimed f → IsTimed g
  timed_in_larger f g factor counted timed t since last =
      let left = times_part by f.left g.left factor.left counted.left in
      let rate = times_part by f.rate g.rate factor.rate counted.rate in
      let drained : f.rate * (t - f.since) ≡ by * (g.rate * (t - g.since)) =
      ap (λ n. n * (t - f.since)) rate ∙ mul_assoc by g.rate (t - f.since)
      ∙ ap (λ n. by * (g.rate * (t - n))) (sym counted.since) in
      sym (same_order by g.left (g.rate * (t - g.since)) factor.some)
      ∙ ap (λ n. nat_le n (by * (g.rate * (t - g.since)))) (sym left)
      ∙ ap (nat_le f.left) (sym drained)
      ∙ timed t (subst (λ n. n ≤ t) counted.since since) last
      ∙ ap (λ finish. has_come t finish) (sym counted.finish)

  -- ---- all of them

  pub larger_units : (at : ℕ) (fs gs : List (Flight P)) → IsFactorOfAll fs by → AreCountedBy by fs gs
      → AllZip IsLarger (flights_at at fs) (flights_at at gs)
  larger_units at [] [] all z = tt
  larger_units at [] (g ∷ gs) all z = absurd z
  larger_units at (f ∷ fs) [] all z = absurd z
  larger_units at (f ∷ fs) (g ∷ gs) all z =
      (larger_unit at f g (all 0 f refl) z.0, larger_units at fs gs (λ i h is. all (suc i) h is) z.1)

  pub worth_as_before : (scale new : ℕ) (us vs : List (UnitFlight P)) → 0 < by → 0 < new → scale ≡ by * new
      → AllZip IsLarger us vs → sending_of scale us ≡ sending_of new vs
  worth_as_before scale new [] [] some positive is z = refl
  worth_as_before scale new [] (v ∷ vs) some positive is z = absurd z
  worth_as_before scale new (u ∷ us) [] some positive is z = absurd z
  worth_as_before scale new (u ∷ us) (v ∷ vs) some positive is z = λ i.
      worth_same scale new u v some positive is z.0 i
      ∷ worth_as_before scale new us vs some positive is z.1 i

  pub timed_as_before : (fs gs : List (Flight P)) → IsFactorOfAll fs by → AreCountedBy by fs gs
      → AreTimed fs → AreTimed gs
  timed_as_before fs gs all z timed i g is rated =
      let r = zip_there (λ f g. IsCountedBy by f g) fs gs i g z is in
      timed_in_larger r.0 g (all i r.0 r.1) r.2 (timed i r.0 r.1 (sym r.2.rated ∙ rated))

  rated_larger : (us vs : List (UnitFlight P)) → AllZip IsLarger us vs → AllZip IsLarger (rated_ones us) (rated_ones vs)
  rated_larger = zip-filter IsLarger (λ u. u.rated) (λ v. v.rated) (λ u v larger. larger.rated)

  same_messages : (us vs : List (UnitFlight P)) → AllZip IsLarger us vs → sent_messages us ≡ sent_messages vs
  same_messages [] [] z = refl
  same_messages [] (v ∷ vs) z = absurd z
  same_messages (u ∷ us) [] z = absurd z
  same_messages (u ∷ us) (v ∷ vs) z = λ i. message_of (z.0.message i) ∷ same_messages us vs z.1 i

  larger_rates : (us vs : List (UnitFlight P)) → AllZip IsLarger us vs → (flow : ℕ)
      → slice_index (rates_of us) flow ≡ by * slice_index (rates_of vs) flow
  larger_rates [] [] z flow = omega arith
  larger_rates [] (v ∷ vs) z flow = absurd z
  larger_rates (u ∷ us) [] z flow = absurd z
  larger_rates (u ∷ us) (v ∷ vs) z zero = z.0.rate
  larger_rates (u ∷ us) (v ∷ vs) z (suc flow) = larger_rates us vs z.1 flow

  module _ (cmp : P → P → Ordering) (caps : Caps P) (us vs : List (UnitFlight P)) (z : AllZip IsLarger us vs) where
    pub fair_as_before : (scale new : ℕ) → 0 < by → 0 < new → scale ≡ by * new
        → AreFairlyRated cmp caps scale (rated_ones us) → AreFairlyRated cmp caps new (rated_ones vs)
    fair_as_before scale new some positive is fair =
        let rated = rated_larger us vs z in
        subst (λ ms. IsFair (capped_sides cmp caps ms) new (slice_index (rates_of (rated_ones vs))))
        (same_messages (rated_ones us) (rated_ones vs) rated)
        (fair_in_larger scale new by (slice_index (rates_of (rated_ones us))) (slice_index (rates_of (rated_ones vs)))
        some positive is (larger_rates (rated_ones us) (rated_ones vs) rated)
        (capped_sides cmp caps (sent_messages (rated_ones us))) fair)

    pub limited_as_before : are_limited cmp caps (rated_ones us) ≡ true → are_limited cmp caps (rated_ones vs) ≡ true
    limited_as_before all = sym (same (rated_ones us) (rated_ones vs) (rated_larger us vs z)) ∙ all
      where
        same : (us vs : List (UnitFlight P)) → AllZip IsLarger us vs
            → are_limited cmp caps us ≡ are_limited cmp caps vs
        same [] [] w = refl
        same [] (v ∷ vs) w = absurd w
        same (u ∷ us) [] w = absurd w
        same (u ∷ us) (v ∷ vs) w = rw (w.0.message, same us vs w.1) refl

-- ---- where nothing is loose, caps that differ differ in nothing that they use

larger_before : {P : Type 0} (by : ℕ) (us vs : List (UnitFlight P)) → AllZip (IsLarger by) us vs → (v : UnitFlight P)
    → In vs v → (u : UnitFlight P) × In us u × IsLarger by u v
larger_before by [] [] z v h = absurd h
larger_before by [] (w ∷ vs) z v h = absurd z
larger_before by (u ∷ us) [] z v h = absurd h
larger_before by (u ∷ us) (w ∷ vs) z v (inl e) = (u, inl refl, subst (IsLarger by u) e z.0)
larger_before by (u ∷ us) (w ∷ vs) z v (inr h) =
    let r = larger_before by us vs z.1 v h in (r.0, inr r.1, r.2)

pub differ_as_before : {P : Type 0} (by : ℕ) (cmp : P → P → Ordering) (was caps : Caps P) (us vs : List (UnitFlight P))
    → AllZip (IsLarger by) us vs → (loose later : List (code.Message P)) → loose ≡ [] → (floor other : Option ℕ)
    → DifferWhereLoose cmp was caps (map (λ m. message_of m) loose) floor us
    → DifferWhereLoose cmp was caps (map (λ m. message_of m) later) other vs
differ_as_before {P} by cmp was caps us vs z loose later none floor other differ s = elim (differ s) [
  | inl same ↦ inl same
  | inr all ↦ inr (λ v h rated l.
      let b = larger_before by us vs z v (in_from_contains vs v h) in
      let it = all b.0 (contains_from_in us b.0 b.1) (b.2.rated ∙ rated)
      (ap (λ (m : code.Message P). limits cmp s (record {
        id = 0;
        origin = m.origin;
        recipient = m.recipient;
        delivered = is_delivered cmp (message_of m);
      })) b.2.message ∙ l) in
      absurd (in_from_contains [] (message_of b.0.message)
      (subst (λ (ms : List (code.Message P)). Contains (map (λ m. message_of m) ms) (message_of b.0.message)) none it.0)))
]
