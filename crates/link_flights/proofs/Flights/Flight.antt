-- A message in flight that drains later: what is counted on, what is brought to another moment, and when it finishes.
use Rattle.link_flights.proofs.Common.{◌≡◌, ℕ, zero, suc, ◌+◌, ◌-◌, ◌*◌, ◌<◌, ◌≤◌, nat_le, Bool, true, false, not, ◌||◌}
use Rattle.link_flights.proofs.Common.{if◌then◌else◌, List, [], ◌∷◌, length, map, get_or, set, Some, slice_get, refl}
use Rattle.link_flights.proofs.Common.{sym, ap, ◌∙◌, subst, arith, inl, inr, ◌⊎◌, AllZip, remove, list_all, le-leb}
use Rattle.link_flights.proofs.Common.{leb-true, and_from, length-append, none-some, same_Some, first_of_both}
use Rattle.link_flights.proofs.Common.{second_of_both, IsChangedUpTo, Flight, UnitFlight, left_by, flight_at}
use Rattle.link_flights.proofs.Common.{flights_at, IsTimed, AreTimed, DrainsTo, set-get_or, one_more}
use Rattle.fairness.proofs.Lists.Zips.{zip-length}

-- ---- lists that change at a place

pub all_with : {X : Type 0} (test : X → Bool) (xs : List X) (at : ℕ) (y : X) → list_all test xs ≡ true → test y ≡ true
    → list_all test (set xs at y) ≡ true
all_with test [] at y all passes = refl
all_with test (x ∷ xs) zero y all passes = and_from (test y) _ passes (second_of_both (test x) _ all)
all_with test (x ∷ xs) (suc at) y all passes =
    and_from (test x) _ (first_of_both (test x) _ all) (all_with test xs at y (second_of_both (test x) _ all) passes)

pub all_but : {X : Type 0} (test : X → Bool) (xs : List X) (at : ℕ) → list_all test xs ≡ true
    → list_all test (remove xs at) ≡ true
all_but test [] zero all = refl
all_but test [] (suc at) all = refl
all_but test (x ∷ xs) zero all = second_of_both (test x) _ all
all_but test (x ∷ xs) (suc at) all =
    and_from (test x) _ (first_of_both (test x) _ all) (all_but test xs at (second_of_both (test x) _ all))

pub all_there : {X : Type 0} (test : X → Bool) (xs : List X) (at : ℕ) (x : X) → list_all test xs ≡ true → at < length xs
    → x ≡ get_or xs at x → test x ≡ true
all_there test [] at x all lt is = absurd (omega arith)
all_there test (y ∷ xs) zero x all lt is = ap test is ∙ first_of_both (test y) _ all
all_there test (y ∷ xs) (suc at) x all lt is = all_there test xs at x (second_of_both (test y) _ all) (omega arith) is

-- the element at the place stands to itself so
pub one_same : {X : Type 0} (R : X → X → Type 0) (old now : List X) (at : ℕ) (x : X) → IsChangedUpTo R old now at
    → at < length now → x ≡ get_or now at x → R x x → IsChangedUpTo R old now (at + 1)
one_same R old now at x h lt is r =
    subst (λ l. IsChangedUpTo R old l (at + 1)) (ap (set now at) is ∙ set-get_or now at x)
    (one_more R old now at h x x lt is r)

pub changed_length : {X : Type 0} (R : X → X → Type 0) (old now : List X) (at : ℕ) → IsChangedUpTo R old now at
    → length now ≡ length old
changed_length R old now at h =
    ap length h.now_is ∙ length-append h.to h.rest
    ∙ ap (λ n. n + length h.rest) (sym (zip-length R h.from h.to h.changed))
    ∙ sym (length-append h.from h.rest) ∙ sym (ap length h.old_is)

-- what is read of lists that match
pub zip_read : {X Y : Type 0} (R : X → X → Type 0) (S : Y → Y → Type 0) (f g : X → Y)
    → ((x y : X) → R x y → S (f x) (g y))
    → (xs ys : List X) → AllZip R xs ys → AllZip S (map f xs) (map g ys)
zip_read R S f g reads [] [] z = tt
zip_read R S f g reads [] (y ∷ ys) z = absurd z
zip_read R S f g reads (x ∷ xs) [] z = absurd z
zip_read R S f g reads (x ∷ xs) (y ∷ ys) z = (reads x y z.0, zip_read R S f g reads xs ys z.1)

-- the second of lists that match pass a test
pub zip_passes : {X : Type 0} (R : X → X → Type 0) (test : X → Bool) → ((x y : X) → R x y → test y ≡ true)
    → (xs ys : List X) → AllZip R xs ys → list_all test ys ≡ true
zip_passes R test passes [] [] z = refl
zip_passes R test passes [] (y ∷ ys) z = absurd z
zip_passes R test passes (x ∷ xs) [] z = absurd z
zip_passes R test passes (x ∷ xs) (y ∷ ys) z = and_from (test y) _ (passes x y z.0) (zip_passes R test passes xs ys z.1)

-- what stands at a place of the second stands to what stands there in the first
pub zip_there : {X : Type 0} (R : X → X → Type 0) (xs ys : List X) (i : ℕ) (y : X) → AllZip R xs ys
    → slice_get ys i ≡ Some y
    → (x : X) × (slice_get xs i ≡ Some x) × R x y
zip_there R [] [] i y z is = absurd (none-some y is)
zip_there R [] (v ∷ ys) i y z is = absurd z
zip_there R (x ∷ xs) [] i y z is = absurd z
zip_there R (x ∷ xs) (v ∷ ys) zero y z is = (x, refl, subst (R x) (same_Some v y is) z.0)
zip_there R (x ∷ xs) (v ∷ ys) (suc i) y z is = zip_there R xs ys i y z.1 is

-- ---- draining

-- draining to one moment and then to a later one is draining to the later one
pub drained_on : (left rate since at now : ℕ) → since ≤ at → at ≤ now
    → left - rate * (now - since) ≡ left - rate * (at - since) - rate * (now - at)
drained_on left rate since at now past later =
    let whole : now - since ≡ (at - since) + (now - at) = omega arith in
    let parts : rate * (now - since) ≡ rate * (at - since) + rate * (now - at) =
    ap (λ n. rate * n) whole ∙ omega arith in
    omega arith

module _ {P : Type 0} where
  -- one that has a rate only has to be counted on
  pub counted_on : (at now : ℕ) (f : Flight P) → f.rated ≡ true → f.since ≤ at → at ≤ now
      → DrainsTo now (flight_at at f) (flight_at now f)
  counted_on at now f is past later =
      rw is (ap (λ (n : ℕ). as_record n) (drained_on f.left f.rate f.since at now past later))
    where
      as_record : ℕ → UnitFlight P
      as_record n = record {
        id = f.id;
        message = f.message.value;
        left = n;
        rate = f.rate;
        updated = now;
        rated = true;
      }

  -- one that is brought to an earlier moment, or that has no rate yet, drains to that moment
  pub brought : (at now : ℕ) (f g : Flight P) → now ≤ at ⊎ f.rated ≡ false → g.id ≡ f.id
      → g.message.value ≡ f.message.value → g.left ≡ (flight_at at f).left → g.rate ≡ f.rate
      → g.since ≡ now → g.rated ≡ f.rated → DrainsTo now (flight_at at f) (flight_at now g)
  brought at now f g back id message left rate since rated = by_flag f.rated refl
    where
      r : ℕ
      r = f.rate

      by_flag : (b : Bool) → f.rated ≡ b → DrainsTo now (flight_at at f) (flight_at now g)
      by_flag true is = rw (rated, id, message, rate, since, is) (ap as_record rest)
        where
          as_record : ℕ → UnitFlight P
          as_record n = record {
            id = f.id;
            message = f.message.value;
            left = n;
            rate = r;
            updated = now;
            rated = true;
          }

          all : g.left ≡ left_by at f
          all = left ∙ ap (λ b. if b then left_by at f else f.left) is

          goes_back : now ≤ at
          goes_back = elim back [ inl le ↦ le | inr none ↦ cc ]

          none : now - now ≡ 0
          none = omega arith

          none_too : now - at ≡ 0
          none_too = omega (arith, goes_back)

          rest : g.left - r * (now - now) ≡ left_by at f - r * (now - at)
          rest = ap (λ k. g.left - r * k) none ∙ ap (λ n. n - r * 0) all ∙ ap (λ k. left_by at f - r * k) (sym none_too)
      by_flag false is = rw (rated, id, message, since, is) (ap as_record rest)
        where
          as_record : ℕ → UnitFlight P
          as_record n = record {
            id = f.id;
            message = f.message.value;
            left = n;
            rate = 0;
            updated = now;
            rated = false;
          }

          all : g.left ≡ f.left
          all = left ∙ ap (λ b. if b then left_by at f else f.left) is

          rest : g.left ≡ f.left - 0 * (now - f.since)
          rest = omega (arith, all)

  -- ---- what becomes of each

  -- it drains to the moment; it has its rate since no later; and where the moment does not go back, its finish is as
  -- right as before
  pub record IsBrought (at now : ℕ) (f g : Flight P) : Type 0 where
    pub drains : DrainsTo now (flight_at at f) (flight_at now g)
    pub past_now : (not g.rated || nat_le g.since now) ≡ true
    pub past_at : (not g.rated || nat_le g.since at) ≡ true
    pub timed : at ≤ now → (f.rated ≡ true → IsTimed f) → g.rated ≡ true → IsTimed g

  -- the fact that it has its rate since no later
  abbrev pub is_past_flight : ℕ → Flight P → Bool
  is_past_flight at f = not f.rated || nat_le f.since at

  abbrev pub is_past : ℕ → Flight P → Bool
  is_past at one = is_past_flight at one

  pub past_so : (at : ℕ) (f : Flight P) → is_past at f ≡ true → f.rated ≡ true → f.since ≤ at
  past_so at f h is = leb-true f.since at (sym (ap (λ b. not b || nat_le f.since at) is) ∙ h)

  pub so_past : (at : ℕ) (f : Flight P) → f.since ≤ at → is_past at f ≡ true
  so_past at f le = by_flag f.rated
    where
      by_flag : (b : Bool) → (not b || nat_le f.since at) ≡ true
      by_flag true = le-leb f.since at le
      by_flag false = refl

  -- one that is passed over
  pub is_counted_on : (at now : ℕ) (f : Flight P) → f.rated ≡ true → is_past at f ≡ true → at ≤ now
      → IsBrought at now f f
  is_counted_on at now f is past later =
      let since : f.since ≤ at = past_so at f past is in
      record {
        drains = counted_on at now f is since later;
        past_now = so_past now f (omega arith);
        past_at = past;
        timed = λ le h. h;
      }

  -- one that is brought to another moment
  pub is_brought : (at now : ℕ) (f g : Flight P) → now < at ⊎ f.rated ≡ false
      → g.id ≡ f.id → g.message.value ≡ f.message.value
      → g.left ≡ (flight_at at f).left → g.rate ≡ f.rate
      → g.since ≡ now → g.rated ≡ f.rated → IsBrought at now f g
  is_brought at now f g back id message left rate since rated = record {
    drains =
        brought at now f g (elim back [ inl lt ↦ inl (omega arith) | inr none ↦ inr none ]) id message left
        rate
        since rated;
    past_now = so_past now g (omega (arith, since));
    past_at = elim back [
      | inl lt ↦ so_past at g (omega (arith, since))
      | inr none ↦ ap (λ b. not b || nat_le g.since at) (rated ∙ none)
    ];
    timed = λ later h is. elim back [
      | inl lt ↦ absurd (omega arith)
      | inr none ↦ absurd (cc)
    ];
  }

  -- ---- one after another

  module _ (at now : ℕ) (old so_far : List (Flight P)) (i : ℕ)
      (h : IsChangedUpTo (IsBrought at now) old so_far i) (x : Flight P) (lt : i < length so_far)
      (is : x ≡ get_or so_far i x) where
    pub next_brought : (f : Flight P) (new : List (Flight P)) → new ≡ set so_far i f
        → now < at ⊎ x.rated ≡ false
        → f.id ≡ x.id → f.message.value ≡ x.message.value → f.left ≡ (flight_at at x).left
        → f.rate ≡ x.rate → f.since ≡ now → f.rated ≡ x.rated
        → IsChangedUpTo (IsBrought at now) old new (i + 1)
    next_brought f new put back id message left rate since rated =
        subst (λ l. IsChangedUpTo (IsBrought at now) old l (i + 1)) (sym put)
        (one_more (IsBrought at now) old so_far i h x f lt is
        (is_brought at now x f back id message left rate since rated))

    pub next_counted_on : x.rated ≡ true → list_all (is_past at) so_far ≡ true → at ≤ now
        → IsChangedUpTo (IsBrought at now) old so_far (i + 1)
    next_counted_on rated past later =
        one_same (IsBrought at now) old so_far i x h lt is
        (is_counted_on at now x rated (all_there (is_past at) so_far i x past lt is) later)

    pub next_stands : (b : Bool) → x.rated ≡ b → (x.rated ≡ false → x.since ≡ now)
        → list_all (is_past at) so_far ≡ true → at ≤ now → IsChangedUpTo (IsBrought at now) old so_far (i + 1)
    next_stands true rated since past later = next_counted_on rated past later
    next_stands false none since past later =
        one_same (IsBrought at now) old so_far i x h lt is
        (is_brought at now x x (inr none) refl refl
        (sym (ap (λ b. if b then left_by at x else x.left) none)) refl (since none) refl)

  -- ---- all of them

  pub all_drained : (at now : ℕ) (fs gs : List (Flight P)) → AllZip (IsBrought at now) fs gs
      → AllZip (DrainsTo now) (flights_at at fs) (flights_at now gs)
  all_drained at now fs gs z =
      zip_read (IsBrought at now) (DrainsTo now) (λ f. flight_at at f) (λ g. flight_at now g)
      (λ f g b. b.drains) fs gs z

  pub all_past : (at now : ℕ) (fs gs : List (Flight P)) → AllZip (IsBrought at now) fs gs
      → list_all (is_past now) gs ≡ true
  all_past at now fs gs z = zip_passes (IsBrought at now) (is_past now) (λ f g b. b.past_now) fs gs z

  pub all_timed : (at now : ℕ) (fs gs : List (Flight P)) → AllZip (IsBrought at now) fs gs → at ≤ now
      → AreTimed fs → AreTimed gs
  all_timed at now fs gs z later timed i g is rated =
      let r = zip_there (IsBrought at now) fs gs i g z is in
      r.2.timed later (timed i r.0 r.1) rated
