-- Users that count as often as their weights say: what they have together, and a round of filling.
use Rattle.fair_routes.proofs.Common.{◌≡◌, ◌⊎◌, ℕ, zero, suc, ◌+◌, ◌*◌, ◌<◌, ◌≤◌, List, [], ◌∷◌, All, Contains, Option}
use Rattle.fair_routes.proofs.Common.{Some, None, cond, get_or, length, map, replicate, sum_by, inl, inr, refl, sym, ap}
use Rattle.fair_routes.proofs.Common.{◌∙◌, subst, arith, mul-le-mul_right, is_none, count_by, option_map, All-contains}
use Rattle.fair_routes.proofs.Common.{All-tail, sum_by-cons, Side, load, IsLimited, IsFair, at_level, listed_on}
use Rattle.fair_routes.proofs.Common.{listed_from, none_or_some, some_is, IsFilledTo, In, in_left, in_right}
use Rattle.fair_routes.proofs.Common.{in_from_contains, contains_from_in, All-from_contains, sum_by-scaled, sum_by_same}
use Rattle.fair_routes.proofs.Common.{frozen_in, rising_weight, AreAllHeld, HasLeastRoom, HasFrozen, Room, weight_at}
use Rattle.fair_routes.proofs.Common.{as_often, weighted, common_steps, IsSome, rules, at_none, AreScaled, in_either}
use Rattle.fair_routes.proofs.Common.{slack_of}
use Rattle.std.proofs.Common.{le_of_mul-le-mul_right}
use Rattle.std.proofs.lemmas.List.Folds.{sum_by-replicate}
use Rattle.std.proofs.lemmas.List.Sums.{sum_by-append}
use Rattle.fairness.proofs.Filling.Frozen.{at_some}
use Rattle.fair_rates.proofs.Filling.Growing.{filled_scaled, none_scaled}
use Rattle.fairness.proofs.Filling.Rounds.{end, next}
use Rattle.fairness.proofs.Filling.States.{IsFilledBy}
use Rattle.fair_routes.proofs.Network.Rising.{all_multiplied}

-- ---- as often as their weights say

copies_are : (n x y : ℕ) → In (replicate n x) y → x ≡ y
copies_are zero x y h = absurd h
copies_are (suc n) x y (inl e) = e
copies_are (suc n) x y (inr h) = copies_are n x y h

copies_have : (n x : ℕ) → 0 < n → In (replicate n x) x
copies_have zero x some = absurd (omega arith)
copies_have (suc n) x some = inl refl

module _ (weights : List ℕ) where
  -- what all have together
  pub sum_often : (f : ℕ → ℕ) (users : List ℕ) → sum_by f (as_often weights users) ≡ sum_by (λ u. weight_at weights u * f u) users
  sum_often f [] = refl
  sum_often f (u ∷ us) = search (rules, sum_by-append, sum_by-replicate, sum_by-cons, sum_often f us)

  in_often : (users : List ℕ) (user : ℕ) → In (as_often weights users) user → In users user
  in_often [] user h = absurd h
  in_often (u ∷ us) user h = search (rules, in_either, copies_are, in_often us user)

  often_in : (users : List ℕ) (user : ℕ) → 0 < weight_at weights user → In users user → In (as_often weights users) user
  often_in [] user some h = absurd h
  often_in (u ∷ us) user some (inl e) = search (rules, in_left, copies_have)
  often_in (u ∷ us) user some (inr h) = search (rules, in_right, often_in us user some h)

  -- the same users use the side
  pub uses_often : (users : List ℕ) (user : ℕ) → Contains (as_often weights users) user → Contains users user
  uses_often users user c = contains_from_in users user (in_often users user (in_from_contains (as_often weights users) user c))

  pub often_uses : (users : List ℕ) (user : ℕ) → 0 < weight_at weights user → Contains users user
      → Contains (as_often weights users) user
  often_uses users user some c = search (rules, contains_from_in, often_in, in_from_contains)

  pub all_often : (P : ℕ → Type 0) (users : List ℕ) → All P users → All P (as_often weights users)
  all_often P users all =
      All-from_contains P (as_often weights users) (λ u c. All-contains P users u all (uses_often users u c))

  -- ---- what is held and what rises

  module _ (frozen : ℕ → Option ℕ) where
    abbrev held : ℕ → ℕ
    held u = at_level frozen 0 u * weight_at weights u

    abbrev rises : ℕ → ℕ
    rises u = cond (is_none (frozen u)) (weight_at weights u) 0

    one_split : (level u : ℕ) → weight_at weights u * at_level frozen level u ≡ held u + level * rises u
    one_split level u = search (rules, none_or_some, at_none, at_some)

    sum_split : (level : ℕ) (users : List ℕ) → sum_by (λ u. weight_at weights u * at_level frozen level u) users
        ≡ sum_by held users + level * rising_weight weights frozen users
    sum_split level [] = omega arith
    sum_split level (u ∷ us) =
        omega (
          arith,
          sum_by-cons (λ v. weight_at weights v * at_level frozen level v) u us,
          sum_by-cons held u us,
          ap (λ n. level * n) (sum_by-cons rises u us),
          one_split level u,
          sum_split level us,
        )

    pub load_split : (level : ℕ) (side : Side) → load (at_level frozen level) (weighted weights side)
        ≡ sum_by held side.users + level * rising_weight weights frozen side.users
    load_split level side = sum_often (at_level frozen level) side.users ∙ sum_split level side.users

    one_held : (u : ℕ) → 0 < weight_at weights u → rises u ≡ 0 → IsSome (frozen u)
    one_held u some nothing = search (rules, none_or_some, some_is)

    in_held : (users : List ℕ) → All (λ u. 0 < weight_at weights u) users → rising_weight weights frozen users ≡ 0
        → (user : ℕ) → In users user → IsSome (frozen user)
    in_held [] positive nothing user h = absurd h
    in_held (u ∷ us) positive nothing user (inl e) =
        subst (λ v. IsSome (frozen v)) e
        (one_held u (positive 0 0 (omega arith)) (omega (arith, nothing, sum_by-cons rises u us)))
    in_held (u ∷ us) positive nothing user (inr h) =
        in_held us (All-tail (λ v. 0 < weight_at weights v) u us positive)
        (omega (arith, nothing, sum_by-cons rises u us)) user h

    -- where no weight rises all are held
    pub all_held : (users : List ℕ) → All (λ u. 0 < weight_at weights u) users → rising_weight weights frozen users ≡ 0
        → (user : ℕ) → Contains users user → IsSome (frozen user)
    all_held users positive nothing user c = in_held users positive nothing user (in_from_contains users user c)

    abbrev OneRises : List ℕ → Type 0
    OneRises users = (user : ℕ) × In users user × (frozen user ≡ None)

    one_rises : (u : ℕ) (us : List ℕ) → 0 < rising_weight weights frozen (u ∷ us)
        → (frozen u ≡ None) ⊎ ((p : ℕ) × (frozen u ≡ Some p)) → (0 < rising_weight weights frozen us → OneRises us)
        → OneRises (u ∷ us)
    one_rises u us some (inl none) later = (u, inl refl, none)
    one_rises u us some (inr (p, is)) later = search (rules, sum_by-cons)

    in_rises : (users : List ℕ) → 0 < rising_weight weights frozen users → OneRises users
    in_rises [] some = absurd (omega arith)
    in_rises (u ∷ us) some = one_rises u us some (none_or_some (frozen u)) (in_rises us)

    -- and where some does one rises
    pub some_rises : (users : List ℕ) → 0 < rising_weight weights frozen users
        → (user : ℕ) × Contains users user × (frozen user ≡ None)
    some_rises users some = search (rules, in_rises, contains_from_in)

-- ---- a round

-- the scale grows, and nobody is held or let go
module _ (weights : List ℕ) (factor : ℕ) (frozen mid : ℕ → Option ℕ) (scaled : AreScaled factor frozen mid) where
  same_rise : (u : ℕ) → rises weights mid u ≡ rises weights frozen u
  same_rise u = search (rules, none_or_some)

  same_rising : (users : List ℕ) → rising_weight weights mid users ≡ rising_weight weights frozen users
  same_rising users = sum_by_same (rises weights mid) (rises weights frozen) users (λ k d inside. same_rise _)

  held_scaled : (users : List ℕ) → sum_by (held weights mid) users ≡ sum_by (held weights frozen) users * factor
  held_scaled users =
      sum_by_same (held weights mid) (λ u. held weights frozen u * factor) users
      (λ k d inside. one_scaled (get_or users k d)) ∙ sum_by-scaled (held weights frozen) factor users
    where
      one_scaled : (u : ℕ) → held weights mid u ≡ held weights frozen u * factor
      one_scaled u = omega (arith, ap (λ n. n * weight_at weights u) (none_scaled factor frozen mid scaled u))

  -- at a share for each one of weight
  pub load_scaled : (share : ℕ) (side : Side) → load (at_level mid share) (weighted weights side)
      ≡ sum_by (held weights frozen) side.users * factor + share * rising_weight weights frozen side.users
  load_scaled share side = search (rules, load_split, held_scaled, same_rising)

-- what is left covers the share of a side that has no less
room_for : (a p r c factor share : ℕ) → 0 < p → share * p ≡ a * factor → a * r ≤ c * p → share * r ≤ c * factor
room_for a p r c factor share some is covers =
    le_of_mul-le-mul_right (omega (arith, ap (λ n. n * r) is, mul-le-mul_right factor covers)) some

-- a level that the room has is no more than the share
no_lower : (a p level factor share : ℕ) → 0 < p → share * p ≡ a * factor → level * p ≤ a → level * factor ≤ share
no_lower a p level factor share some is within =
    le_of_mul-le-mul_right (omega (arith, is, mul-le-mul_right factor within)) some

module _ (weights : List ℕ) (sides : List Side) (positive : (u : ℕ) → u < length weights → 0 < weight_at weights u)
    (among : All (λ side. All (λ u. u < length weights) side.users) sides) where
  abbrev wide : List Side
  wide = map (weighted weights) sides

  pub some_weight : (side : Side) → Contains sides side → (user : ℕ) → Contains side.users user
      → 0 < weight_at weights user
  some_weight side listed user used = search (rules, All-contains)

  -- a flow uses a side just where it uses it as often as its weight says
  pub limited_wide : (flow : ℕ) → IsLimited sides flow → IsLimited wide flow
  limited_wide flow (side, uses) = (
    weighted weights side,
    record {
      listed = listed_on (weighted weights) sides side uses.listed;
      used = often_uses weights side.users flow (some_weight side uses.listed flow uses.used) uses.used;
    },
  )

  pub limited_narrow : (flow : ℕ) → IsLimited wide flow → IsLimited sides flow
  limited_narrow flow (side, uses) =
      let from = listed_from (weighted weights) sides side uses.listed in (
        from.0,
        record {
          listed = from.1;
          used = uses_often weights from.0.users flow
              (subst (λ (s : Side). Contains s.users flow) (sym from.2) uses.used);
        },
      )

  -- within the caps the held leave what they leave
  slack_left : (scale level : ℕ) (frozen : ℕ → Option ℕ) (side : Side)
      → load (at_level frozen level) (weighted weights side) ≤ side.cap * scale
      → slack_of weights scale frozen side + sum_by (held weights frozen) side.users ≡ side.cap * scale
  slack_left scale level frozen side within = omega (arith, within, load_split weights frozen level side)

  module _ (scale level : ℕ) (frozen : ℕ → Option ℕ) (filled : IsFilledTo wide scale frozen level)
      (side : Side) (listed : Contains sides side) (slack weight : ℕ)
      (is_slack : slack ≡ slack_of weights scale frozen side)
      (is_weight : weight ≡ rising_weight weights frozen side.users) (some : 0 < weight)
      (least : All (λ s. slack * rising_weight weights frozen s.users ≤ slack_of weights scale frozen s * weight) sides)
      (factor share : ℕ) (is_share : share * weight ≡ slack * factor)
      (mid after : ℕ → Option ℕ) (scaled : AreScaled factor frozen mid)
      (all : All (λ user. IsSome (after user)) side.users)
      (kept : (flow parts : ℕ) → mid flow ≡ Some parts → after flow ≡ Some parts)
      (fresh : (flow parts : ℕ) → mid flow ≡ None → after flow ≡ Some parts
      → (parts ≡ share) × Contains side.users flow) where
    within_at : (s : Side) → Contains sides s → load (at_level frozen level) (weighted weights s) ≤ s.cap * scale
    within_at s c = grind (arith, common_steps, listed_on (weighted weights) sides s c, All-contains)

    raised : level * factor ≤ share
    raised =
        grind (
          arith,
          common_steps,
          slack_left scale level frozen side (within_at side listed),
          within_at side listed,
          load_split weights frozen level side,
          no_lower,
        )

    within_narrow : (s : Side) → Contains sides s
        → load (at_level mid share) (weighted weights s) ≤ s.cap * (scale * factor)
    within_narrow s c =
        let covers =
        All-contains (λ (s : Side). slack * rising_weight weights frozen s.users
        ≤ slack_of weights scale frozen s * weight) sides s least c in
        omega (
          arith,
          load_scaled weights factor frozen mid scaled share s,
          room_for slack weight (rising_weight weights frozen s.users) (slack_of weights scale frozen s) factor share
              some is_share covers,
          ap (λ n. n * factor) (slack_left scale level frozen s (within_at s c)),
        )

    within_wide : All (λ w. load (at_level mid share) w ≤ w.cap * (scale * factor)) wide
    within_wide =
        All-from_contains (λ (w : Side). load (at_level mid share) w ≤ w.cap * (scale * factor)) wide (λ w c.
        let from = listed_from (weighted weights) sides w c in
        subst (λ (v : Side). load (at_level mid share) v ≤ v.cap * (scale * factor)) from.2
        (within_narrow from.0 from.1))

    full : load (at_level mid share) (weighted weights side) ≡ side.cap * (scale * factor)
    full =
        omega (
          arith,
          load_scaled weights factor frozen mid scaled share side,
          ap (λ n. share * n) is_weight,
          is_share,
          ap (λ n. n * factor) is_slack,
          ap (λ n. n * factor) (slack_left scale level frozen side (within_at side listed)),
        )

    filled_by : (flow : ℕ) → Contains side.users flow → IsFilledBy wide (scale * factor) mid share after flow
    filled_by flow used = record {
      side = weighted weights side;
      uses = record {
        listed = listed_on (weighted weights) sides side listed;
        used = often_uses weights side.users flow (some_weight side listed flow used) used;
      };
      full = full;
      all_frozen = all_often weights (λ u. IsSome (after u)) side.users all;
    }

    pub filled_on : IsFilledTo wide (scale * factor) after share
    filled_on =
        next wide (scale * factor) mid (level * factor) after share
        (filled_scaled factor frozen mid scaled wide scale level filled) (record {
          raised = raised;
          within = within_wide;
          kept = kept;
          fresh = λ flow parts none now. let f = fresh flow parts none now in (f.0, filled_by flow f.1);
        })

  -- ---- the end

  module _ (scale level : ℕ) (frozen : ℕ → Option ℕ) (some : 0 < scale) (filled : IsFilledTo wide scale frozen level)
      (all : AreAllHeld weights frozen sides) where
    held_all : (flow : ℕ) → IsLimited sides flow → IsSome (frozen flow)
    held_all flow (side, uses) = search (rules, all_held, All-from_contains, some_weight, All-contains)

    pub fair_at_end : IsFair wide scale (at_level frozen 0)
    fair_at_end = end wide scale frozen level some filled (λ flow limited. held_all flow (limited_narrow flow limited))

    pub limited_at_end : (flow : ℕ) → (IsSome (frozen flow) → IsLimited sides flow)
        × (IsLimited sides flow → IsSome (frozen flow))
    limited_at_end flow = search (rules, limited_narrow, held_all)

-- ---- a round over the list of what is held

-- as many rise as before
count_multiplied : (factor : ℕ) (parts : List (Option ℕ))
    → count_by is_none (map (option_map (λ n. n * factor)) parts) ≡ count_by is_none parts
count_multiplied factor [] = refl
count_multiplied factor (o ∷ parts) = grind (arith, common_steps, sum_by-cons, count_multiplied factor parts)

module _ (weights : List ℕ) (sides : List Side) (positive : All (λ weight. 0 < weight) weights)
    (among : All (λ side. All (λ u. u < length weights) side.users) sides)
    (scale level : ℕ) (parts mid after : List (Option ℕ)) (factor share : ℕ) (room : Room)
    (least : HasLeastRoom weights scale (frozen_in parts) sides room)
    (side : Side) (is_side : get_or sides room.place side ≡ side)
    (is_share : share * room.weight ≡ room.slack * factor)
    (is_mid : mid ≡ map (option_map (λ n. n * factor)) parts)
    (frozen : HasFrozen side.users mid after share) where
  is_weight : room.weight ≡ rising_weight weights (frozen_in parts) side.users
  is_weight = least.weight side ∙ ap (λ (s : Side). rising_weight weights (frozen_in parts) s.users) is_side

  scaled : AreScaled factor (frozen_in parts) (frozen_in mid)
  scaled = all_multiplied factor parts mid is_mid

  pub round_on : IsFilledTo (map (weighted weights) sides) scale (frozen_in parts) level
      → IsFilledTo (map (weighted weights) sides) (scale * factor) (frozen_in after) share
  round_on filled =
      filled_on weights sides (λ u inside. positive u 0 inside) among scale level (frozen_in parts) filled side
      (room.place, least.inside, is_side) room.slack room.weight
      (least.slack side ∙ ap (slack_of weights scale (frozen_in parts)) is_side) is_weight least.some least.least factor
      share is_share (frozen_in mid) (frozen_in after) scaled frozen.all frozen.kept frozen.fresh

  pub fewer_rise : count_by is_none after < count_by is_none parts
  fewer_rise = grind (arith, common_steps, some_rises, is_weight, All-contains, count_multiplied)
