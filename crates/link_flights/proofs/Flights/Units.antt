-- Amounts and rates as whole numbers of units. What is left is so many of which `scale` times a billion make a byte,
-- and a rate is so many of which `scale` make a byte a second: so many units of what is left each nanosecond.
use Rattle.link_flights.proofs.Common.{◌≡◌, ℕ, zero, suc, ◌+◌, ◌-◌, ◌*◌, ◌<◌, ◌≤◌, List, [], ◌∷◌, length, get_or, take}
use Rattle.link_flights.proofs.Common.{refl, sym, ap, ◌∙◌, arith, add-one, mul_assoc, product, reduced, billion, whole}
use Rattle.link_flights.proofs.Common.{reduced_alike, reduced_scaled, mul-sub, mul-pos, mul-zero, IsScaled}
use Rattle.link_flights.proofs.Common.{reduced_scales, product_none}
use Rattle.std.proofs.Math.Seq.{take-nil}
use Rattle.fairness.specs.Numbers.Amount.{drained}
use Rattle.fairness.specs.Numbers.LowestTerms.{reduced_positive, reduced_same, reduced_lowest, whole_IsReduced}
use Rattle.fairness.proofs.Numbers.Draining.{same_difference, drained_reduced}

pub units_positive : (scale : ℕ) → 0 < scale → 0 < scale * billion
units_positive scale h = mul-pos h (omega arith)

-- both factors of a product above zero are
pub other_factor : (scale times grown : ℕ) → grown ≡ scale * times → 0 < grown → 0 < times
other_factor scale zero grown is more = absurd (omega (arith, is, more))
other_factor scale (suc times) grown is more = omega arith

-- ---- what units are worth

-- all units of a whole number
pub units_of_whole : (n unit : ℕ) → 0 < unit → reduced (n * unit) unit ≡ whole n
units_of_whole n unit h =
    reduced_same (n * unit) unit n 1 h (omega arith) (omega arith) ∙ reduced_lowest n 1 (whole_IsReduced n)

pub units_of_bytes : (scale n left : ℕ) → 0 < scale → left ≡ scale * (n * billion)
    → reduced left (scale * billion) ≡ whole n
units_of_bytes scale n left h is =
    reduced_alike _ _ _ _ (is ∙ regroup scale n billion) refl
    ∙ units_of_whole n (scale * billion) (units_positive scale h)
  where
    regroup : (scale n b : ℕ) → scale * (n * b) ≡ n * (scale * b)
    regroup scale n b = omega arith

-- no units are worth nothing
pub no_units : (unit : ℕ) → 0 < unit → reduced 0 unit ≡ whole 0
no_units unit h = reduced_same 0 unit 0 1 h (omega arith) (omega arith) ∙ reduced_lowest 0 1 (whole_IsReduced 0)

-- where nothing is left, there are no units
pub no_units_left : (n unit : ℕ) → 0 < unit → (reduced n unit).num ≡ 0 → n ≡ 0
no_units_left n unit h none =
    let s : IsScaled n unit (reduced n unit) = reduced_scales n unit h in
    s.num ∙ ap (λ x. s.factor * x) none ∙ mul-zero s.factor

-- and only there
pub nothing_left : (n unit : ℕ) → 0 < unit → n ≡ 0 → (reduced n unit).num ≡ 0
nothing_left n unit h none =
    let s : IsScaled n unit (reduced n unit) = reduced_scales n unit h in
    product_none s.factor (reduced n unit).num s.positive (sym s.num ∙ none)

-- what is left is worth the same in smaller units
pub grown_left : (scale times grown left : ℕ) → 0 < scale → 0 < grown → grown ≡ scale * times
    → reduced (left * times) (grown * billion) ≡ reduced left (scale * billion)
grown_left scale times grown left some more is =
    let times_some : 0 < times = other_factor scale times grown is more in
    reduced_alike _ _ _ _ (omega arith) (regroup scale times grown billion is)
    ∙ reduced_scaled times left (scale * billion) times_some (units_positive scale some)
  where
    regroup : (scale times grown b : ℕ) → grown ≡ scale * times → grown * b ≡ times * (scale * b)
    regroup scale times grown b is = omega (arith, ap (λ x. x * b) is)

-- ---- how they drain

-- with both numbers over the same factor
units_drain : (left scale rate factor num den n : ℕ) → rate ≡ factor * num → scale ≡ factor * den
    → left * (den * billion) - n * (num * (scale * billion)) ≡ den * billion * (left - rate * n)
units_drain left scale rate factor num den n num_is den_is =
    let unit : ℕ = den * billion in
    let taken : n * (num * (scale * billion)) ≡ unit * (rate * n) =
    omega (arith, ap (λ x. x * (n * (num * billion))) den_is, ap (λ x. x * (n * unit)) num_is) in
    same_difference (left * unit) (unit * left) (n * (num * (scale * billion))) (unit * (rate * n)) (omega arith) taken
    ∙ sym (mul-sub unit left (rate * n))

-- so many nanoseconds take so many times the rate
pub drained_units : (left rate scale n : ℕ) → 0 < scale
    → drained (reduced left (scale * billion)) (reduced rate scale) n ≡ reduced (left - rate * n) (scale * billion)
drained_units left rate scale n h =
    let r : IsScaled rate scale (reduced rate scale) = reduced_scales rate scale h in
    let unit : ℕ = (reduced rate scale).den * billion in
    let some_unit : 0 < unit = mul-pos (reduced_positive rate scale h) (omega arith) in
    drained_reduced left (scale * billion) (reduced rate scale) n (units_positive scale h)
    (reduced_positive rate scale h)
    ∙ reduced_alike _ _ _ _
    (units_drain left scale rate r.factor (reduced rate scale).num (reduced rate scale).den n r.num r.den)
    (omega arith)
    ∙ reduced_scaled unit (left - rate * n) (scale * billion) some_unit (units_positive scale h)

-- ---- factors, one after another

pub product-take : (ns : List ℕ) (i : ℕ) → i < length ns
    → product (take (i + 1) ns) ≡ product (take i ns) * get_or ns i 0
product-take ns i lt = rw add-one (one_more ns i lt)
  where
    one_more : (ns : List ℕ) (i : ℕ) → i < length ns → product (take (suc i) ns) ≡ product (take i ns) * get_or ns i 0
    one_more [] i lt = absurd (omega arith)
    one_more (n ∷ ns) zero lt = omega arith
    one_more (n ∷ ns) (suc i) lt =
        ap (λ k. n * k) (one_more ns i (omega arith)) ∙ sym (mul_assoc n (product (take i ns)) (get_or ns i 0))

pub product-take_all : (ns : List ℕ) (i : ℕ) → length ns ≤ i → product (take i ns) ≡ product ns
product-take_all [] i le = rw (take-nil i) refl
product-take_all (n ∷ ns) zero le = absurd (omega arith)
product-take_all (n ∷ ns) (suc i) le = ap (λ k. n * k) (product-take_all ns i (omega arith))
