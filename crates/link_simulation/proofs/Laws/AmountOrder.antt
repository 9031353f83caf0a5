-- The order of amounts and of their sums.
use Rattle.link_simulation.proofs.Common.{◌≡◌, ℕ, ◌+◌, ◌-◌, ◌*◌, ◌<◌, ◌≤◌, ap, arith, mul-pos, IsAtMost, plus, Amount}
use Rattle.link_simulation.proofs.Common.{billion, drained, reduced, whole, reduced_positive}
use Rattle.std.proofs.Math.Nat.{mul-le-mul_left, mul-le-mul_right, le_of_mul-le-mul_right}
use Rattle.fairness.specs.Numbers.LowestTerms.{reduced_worth, IsScaled, reduced_scales}

-- the sum of a and over per is more than the other side
abbrev pub share : ℕ → ℕ → Amount
share a d = record { num = a; den = d }

pub at_most_itself : (a : Amount) → IsAtMost a a
at_most_itself a = omega arith

pub at_most_trans : (a b c : Amount) → 0 < b.den → IsAtMost a b → IsAtMost b c → IsAtMost a c
at_most_trans a b c some h k =
    le_of_mul-le-mul_right {m = a.num * c.den} {n = c.num * a.den} {k = b.den}
    (over a.num a.den b.num b.den c.num c.den h k) some
  where
    over : (x d y e z f : ℕ) → x * e ≤ y * d → y * f ≤ z * e → (x * f) * e ≤ (z * d) * e
    over x d y e z f h k =
        let one : (x * e) * f ≤ (y * d) * f = mul-le-mul_right f h in
        let two : (y * f) * d ≤ (z * e) * d = mul-le-mul_right d k in
        omega arith

-- more on the left of both
pub plus_under : (a x y : Amount) (n k : ℕ) → IsAtMost (plus x (whole n)) (plus y (whole k))
    → IsAtMost (plus (plus a x) (whole n)) (plus (plus a y) (whole k))
plus_under a x y n k h = over a.num a.den x.num x.den y.num y.den n k h
  where
    over : (p b x d y e n k : ℕ) → (x * 1 + n * d) * (e * 1) ≤ (y * 1 + k * e) * (d * 1)
        → ((p * d + x * b) * 1 + n * (b * d)) * ((b * e) * 1) ≤ ((p * e + y * b) * 1 + k * (b * e)) * ((b * d) * 1)
    over p b x d y e n k h =
        let one = mul-le-mul_left (b * b) h in
        omega arith

-- one of them has (whole 0) left
pub plus_spent : (a x y : Amount) (n : ℕ) → a.num ≡ 0 → IsAtMost (plus x (whole n)) (plus y (whole n))
    → IsAtMost (plus (plus a x) (whole n)) (plus y (whole n))
plus_spent a x y n none h = over a.num a.den x.num x.den y.num y.den n none h
  where
    over : (p b x d y e n : ℕ) → p ≡ 0 → (x * 1 + n * d) * (e * 1) ≤ (y * 1 + n * e) * (d * 1)
        → ((p * d + x * b) * 1 + n * (b * d)) * (e * 1) ≤ (y * 1 + n * e) * ((b * d) * 1)
    over p b x d y e n none h =
        let one : b * ((x * 1 + n * d) * (e * 1)) ≤ b * ((y * 1 + n * e) * (d * 1)) = mul-le-mul_left b h in
        rw none (omega arith)

-- what went of each went of the sum
pub plus_shares : (x u y v : Amount) (a t d : ℕ) → IsAtMost x (plus u (share a d)) → IsAtMost y (plus v (share t d))
    → IsAtMost (plus x y) (plus (plus u v) (share (a + t) d))
plus_shares x u y v a t d h k = over x.num x.den u.num u.den y.num y.den v.num v.den a t d h k
  where
    over : (x p u q y r v s a t d : ℕ) → x * (q * d) ≤ (u * d + a * q) * p → y * (s * d) ≤ (v * d + t * s) * r
        → (x * r + y * p) * ((q * s) * d) ≤ ((u * s + v * q) * d + (a + t) * (q * s)) * (p * r)
    over x p u q y r v s a t d h k =
        let one : (r * s) * (x * (q * d)) ≤ (r * s) * ((u * d + a * q) * p) = mul-le-mul_left (r * s) h in
        let two : (p * q) * (y * (s * d)) ≤ (p * q) * ((v * d + t * s) * r) = mul-le-mul_left (p * q) k in
        omega arith

-- whole bytes beside them
pub plus_whole : (x y : Amount) (n t d : ℕ) → IsAtMost x (plus y (share t d))
    → IsAtMost (plus x (whole n)) (plus (plus y (whole n)) (share t d))
plus_whole x y n t d h = grind arith

-- what goes in one time and then in another
pub two_shares : (x y z : Amount) (a b d : ℕ) → 0 < y.den → 0 < d → IsAtMost x (plus y (share a d))
    → IsAtMost y (plus z (share b d)) → IsAtMost x (plus z (share (a + b) d))
two_shares x y z a b d some unit h k =
    le_of_mul-le-mul_right {m = x.num * (z.den * d)} {n = (z.num * d + (a + b) * z.den) * x.den} {k = y.den * d}
    (over x.num x.den y.num y.den z.num z.den a b d h k) (mul-pos some unit)
  where
    over : (x p y q z r a b d : ℕ) → x * (q * d) ≤ (y * d + a * q) * p → y * (r * d) ≤ (z * d + b * r) * q
        → (x * (r * d)) * (q * d) ≤ ((z * d + (a + b) * r) * p) * (q * d)
    over x p y q z r a b d h k =
        let one : (r * d) * (x * (q * d)) ≤ (r * d) * ((y * d + a * q) * p) = mul-le-mul_left (r * d) h in
        let two : (d * p) * (y * (r * d)) ≤ (d * p) * ((z * d + b * r) * q) = mul-le-mul_left (d * p) k in
        omega arith

-- a longer share
pub share_grows : (x y : Amount) (a b d e : ℕ) → 0 < d → a * e ≤ b * d → IsAtMost x (plus y (share a d))
    → IsAtMost x (plus y (share b e))
share_grows x y a b d e some le h =
    le_of_mul-le-mul_right {m = x.num * (y.den * e)} {n = (y.num * e + b * y.den) * x.den} {k = d}
    (over x.num x.den y.num y.den a b d e le h) some
  where
    over : (x p y q a b d e : ℕ) → a * e ≤ b * d → x * (q * d) ≤ (y * d + a * q) * p
        → (x * (q * e)) * d ≤ ((y * e + b * q) * p) * d
    over x p y q a b d e le h =
        let one : e * (x * (q * d)) ≤ e * ((y * d + a * q) * p) = mul-le-mul_left e h in
        let two : (q * p) * (a * e) ≤ (q * p) * (b * d) = mul-le-mul_left (q * p) le in
        omega arith

-- draining takes no more than its rate
pub drained_takes : (left : Amount) (a d n : ℕ) → 0 < left.den → 0 < d
    → IsAtMost left (plus (drained left (share a d) n) (share (a * n) (d * billion)))
drained_takes left a d n h j =
    let unit : ℕ = d * billion in
    let m : ℕ = left.num * unit - n * (a * left.den) in
    let e : ℕ = left.den * unit in
    let s : IsScaled m e (reduced m e) = reduced_scales m e (mul-pos h (mul-pos j (omega arith))) in
    le_of_mul-le-mul_right {m = left.num * ((reduced m e).den * unit)}
    {n = ((reduced m e).num * unit + (a * n) * (reduced m e).den) * left.den} {k = s.factor}
    (over left.num left.den unit n a (reduced m e).num (reduced m e).den s.factor m (omega arith) s.num s.den)
    s.positive
  where
    over : (l p u n a x y f w : ℕ) → l * u ≤ w + n * (a * p) → w ≡ f * x → p * u ≡ f * y
        → (l * (y * u)) * f ≤ ((x * u + (a * n) * y) * p) * f
    over l p u n a x y f w le num den =
        let one : (l * u) * (p * u) ≡ (l * u) * (f * y) = ap (λ z. (l * u) * z) den in
        let two : w * (u * p) ≡ (f * x) * (u * p) = ap (λ z. z * (u * p)) num in
        let three : (n * a * p) * (p * u) ≡ (n * a * p) * (f * y) = ap (λ z. (n * a * p) * z) den in
        let four : (u * p) * (l * u) ≤ (u * p) * (w + n * (a * p)) = mul-le-mul_left (u * p) le in
        omega arith

-- nor at the rate in lowest terms
pub lowest_takes : (left : Amount) (a d n : ℕ) → 0 < left.den → 0 < d
    → IsAtMost left (plus (drained left (reduced a d) n) (share (a * n) (d * billion)))
lowest_takes left a d n h j =
    let rate : Amount = reduced a d in
    let some : 0 < rate.den = reduced_positive a d j in
    let worth : rate.num * d ≡ a * rate.den = reduced_worth a d j in
    let unit : 0 < rate.den * billion = mul-pos some (omega arith) in
    share_grows left (drained left rate n) (rate.num * n) (a * n) (rate.den * billion) (d * billion) unit
    (scaled rate.num rate.den a d n worth) (drained_takes left rate.num rate.den n h some)
  where
    scaled : (x y a d n : ℕ) → x * d ≡ a * y → (x * n) * (d * billion) ≤ (a * n) * (y * billion)
    scaled x y a d n e =
        let more : (n * billion) * (x * d) ≡ (n * billion) * (a * y) = ap (λ z. (n * billion) * z) e in omega arith
