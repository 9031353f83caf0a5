-- There are fair parts, of which the denominator of that many flows makes one: filling finds them.
use Rattle.fairness.proofs.Common.{◌≡◌, ℕ, zero, suc, ◌+◌, ◌-◌, ◌*◌, ◌<◌, ◌≤◌, inl, inr, Bool, true, false, cond}
use Rattle.fairness.proofs.Common.{List, get_or, All, Contains, count_by, refl, sym, ap, ◌∙◌, subst, arith, Option}
use Rattle.fairness.proofs.Common.{Some, None, IsSome, unwrap_or, list_any, le_of_mul-le-mul_right, dvd-zero, eq-eqb}
use Rattle.fairness.proofs.Common.{eqb-true, All-contains, get_or-le-sum_by, Side, IsFair, HaveUsersBelow, rules}
use Rattle.fairness.proofs.Common.{common_steps}
use Rattle.std.proofs.Common.{is_none}
use Rattle.std.specs.Prelude.{◌==◌}
use Rattle.std.proofs.lemmas.Bool.{cases_Bool, cond-true, cond-false}
use Rattle.std.proofs.lemmas.List.Folds.{list_any_at, Any-from_list_any}
use Rattle.fairness.proofs.Fairness.Denominators.{denominator_of, positive}
use Rattle.fairness.proofs.Filling.Frozen.{none_or_some, some_is, at_some, at_none}
use Rattle.fairness.proofs.Filling.Rounds.{start, end, next}
use Rattle.fairness.proofs.Filling.States.{IsFilledTo}
use Rattle.fairness.proofs.Lists.SumOrder.{All-from_contains}
use Rattle.fairness.proofs.Filling.NextLevel.{standing, taken, rising, left_of, least_is_next}
use Rattle.fairness.proofs.Filling.LeastShare.{IsLeastOf, least_of}
use Rattle.fairness.proofs.Sides.UserCounts.{sum_below, AreDistinct, below_less, HaveDistinctUsers}
use Rattle.fairness.proofs.Filling.WholeParts.{IsOver, cap_over, sums, rest, later, level}

-- how many of so many flows rise
abbrev pub rising_below : ℕ → (ℕ → Option ℕ) → ℕ
rising_below n frozen = sum_below (λ i. cond (is_none (frozen i)) 1 0) n

-- some user rises
pub some_rising : (frozen : ℕ → Option ℕ) (flow : ℕ) (users : List ℕ) → Contains users flow → frozen flow ≡ None
    → 0 < count_by (λ j. is_none (frozen j)) users
some_rising frozen flow users used free = search (rules, get_or-le-sum_by)

-- ---- one side freezes

abbrev pub is_user : List ℕ → ℕ → Bool
is_user users flow = list_any (λ user. user == flow) users

-- the users of the list that rise freeze at the level
abbrev pub freeze : List ℕ → ℕ → (ℕ → Option ℕ) → ℕ → Option ℕ
freeze users level frozen flow = cond (is_user users flow) (Some (unwrap_or (frozen flow) level)) (frozen flow)

is_user-true : (users : List ℕ) (flow : ℕ) → Contains users flow → is_user users flow ≡ true
is_user-true users flow used = search (rules, list_any_at, eq-eqb)

is_user-contains : (users : List ℕ) (flow : ℕ) → is_user users flow ≡ true → Contains users flow
is_user-contains users flow e = search (rules, Any-from_list_any, eqb-true)

module _ (users : List ℕ) (level : ℕ) (frozen : ℕ → Option ℕ) where
  frozen_now : (flow : ℕ) → is_user users flow ≡ true
      → freeze users level frozen flow ≡ Some (unwrap_or (frozen flow) level)
  frozen_now flow e = cond-true (is_user users flow) (Some (unwrap_or (frozen flow) level)) (frozen flow) e

  left_alone : (flow : ℕ) → is_user users flow ≡ false → freeze users level frozen flow ≡ frozen flow
  left_alone flow e = cond-false (is_user users flow) (Some (unwrap_or (frozen flow) level)) (frozen flow) e

  freeze_user : (flow : ℕ) → Contains users flow → IsSome (freeze users level frozen flow)
  freeze_user flow used = search (rules, some_is, frozen_now, is_user-true)

  freeze_kept : (flow parts : ℕ) → frozen flow ≡ Some parts → freeze users level frozen flow ≡ Some parts
  freeze_kept flow parts e = search (rules, cases_Bool, frozen_now, left_alone)

  freeze_fresh : (flow parts : ℕ) → frozen flow ≡ None → freeze users level frozen flow ≡ Some parts
      → (parts ≡ level) × Contains users flow
  freeze_fresh flow parts e e' = search (rules, cases_Bool, frozen_now, is_user-contains, left_alone)

  -- who rises after it rose before, and is no user
  still_rises : (flow : ℕ) → cond (is_none (freeze users level frozen flow)) 1 0 ≤ cond (is_none (frozen flow)) 1 0
  still_rises flow = search (rules, none_or_some, freeze_kept)

  no_user_rises : (flow : ℕ) → Contains users flow → ◌≡◌ {A = ℕ} (cond (is_none (freeze users level frozen flow)) 1 0) 0
  no_user_rises flow used = search (rules, freeze_user)

  -- so many fewer rise
  fewer_rise : (n : ℕ) → AreDistinct users → All (λ user. user < n) users
      → rising_below n (freeze users level frozen) + count_by (λ flow. is_none (frozen flow)) users
      ≤ rising_below n frozen
  fewer_rise n apart among = search (rules, below_less, still_rises, All-from_contains, no_user_rises)

-- ---- filling

least_at : (level k left k' left' : ℕ) → 0 < k → level * k ≡ left → left * k' ≤ left' * k → level * k' ≤ left'
least_at level k left k' left' some share le =
    le_of_mul-le-mul_right {k = k} (omega (arith, ap (λ n. n * k') share, le)) some

entry : (n risers k : ℕ) → risers ≤ n → k ≤ risers → n - risers + k ≡ n - (risers - k)
entry n risers k few within = omega arith

nothing_over : (n m : ℕ) → IsOver n m 0
nothing_over n m = grind (arith, common_steps, denominator_of, dvd-zero)

-- after a round what each has is whole over the next denominator
over_after : (n m m' : ℕ) (users : List ℕ) (level : ℕ) (frozen : ℕ → Option ℕ) (flow : ℕ)
    → m ≤ m' → IsOver n m (standing frozen 0 flow) → IsOver n m' level
    → IsOver n m' (standing (freeze users level frozen) 0 flow)
over_after n m m' users level frozen flow le was now =
    let after = freeze users level frozen in
    elim (none_or_some (frozen flow)) [
      | inr (parts, e) ↦
          let same : standing frozen 0 flow ≡ standing after 0 flow = search (rules, at_some, freeze_kept) in
          subst (λ a. IsOver n m' a) same (later n m m' (standing frozen 0 flow) le was)
      | inl e ↦ elim (none_or_some (after flow)) [
        | inl e' ↦ subst (λ a. IsOver n m' a) (sym (at_none after 0 flow e')) (nothing_over n m')
        | inr (parts, e') ↦
            let fresh = freeze_fresh users level frozen flow parts e e' in
            subst (λ a. IsOver n m' a) (sym (at_some after 0 flow parts e' ∙ fresh.0)) now
      ]
    ]

rising_all : (n : ℕ) → rising_below n (λ _. None) ≤ n
rising_all zero = omega arith
rising_all (suc n) = omega (arith, rising_all n)

module _ (n : ℕ) (sides : List Side) (among : HaveUsersBelow n sides) (distinct : HaveDistinctUsers sides) where
  -- between two rounds: the state of filling, of which so many flows rise, and what each frozen flow has is whole over
  -- the denominator for the frozen ones
  record IsFilling (frozen : ℕ → Option ℕ) (risers : ℕ) : Type 0 where
    level : ℕ
    filled : IsFilledTo sides (denominator_of n) frozen level
    count : rising_below n frozen ≤ risers
    few : risers ≤ n
    over : (flow : ℕ) → IsOver n (n - risers) (standing frozen 0 flow)

  -- in a round fewer rise
  record IsNext (risers : ℕ) : Type 0 where
    after : ℕ → Option ℕ
    fewer : ℕ
    less : fewer < risers
    filling : IsFilling after fewer

  -- the round in which the side with the least share freezes
  round : (frozen : ℕ → Option ℕ) (risers : ℕ) (s : IsFilling frozen risers)
      (least : IsLeastOf (left_of (denominator_of n) frozen) (rising frozen) sides) → IsNext risers
  round frozen risers s least =
      let side = least.least in
      let users = side.users in
      let k = rising frozen side in
      let per = denominator_of n in
      let apart = All-contains (λ s. AreDistinct s.users) sides side distinct least.listed in
      let in_range = All-contains (λ s. All (λ user. user < n) s.users) sides side among least.listed in
      let within : k ≤ risers = omega (arith, s.count, fewer_rise users 0 frozen n apart in_range) in
      let left_over =
      rest n (n - risers) (side.cap * per) (taken frozen side) (cap_over n (n - risers) side.cap)
      (sums n (n - risers) (standing frozen 0) users s.over) in
      let l = level n (n - risers) k (left_of per frozen side) least.some (omega (arith, s.few)) left_over in
      let now : ℕ = l.level in
      let after = freeze users now frozen in
      let at = least_is_next sides per frozen s.level side now s.filled.within (record {
        listed = least.listed;
        some = least.some;
        share = l.share;
        least = λ i d in_list.
            least_at now k (left_of per frozen side) (rising frozen (get_or sides i d))
            (left_of per frozen (get_or sides i d)) least.some l.share (least.below i d in_list);
      }) in
      record {
        after = after;
        fewer = risers - k;
        less = omega (arith, least.some, within);
        filling = record {
          level = now;
          filled = next sides per frozen s.level after now s.filled (record {
            raised = at.raised;
            within = at.within;
            kept = freeze_kept users now frozen;
            fresh = λ flow parts e e'. let f = freeze_fresh users now frozen flow parts e e' in (
              f.0,
              record {
                side = side;
                uses = record { listed = least.listed; used = f.1 };
                full = at.full;
                all_frozen =
                    All-from_contains (λ i. IsSome (after i)) users (λ i used. freeze_user users now frozen i used);
              },
            );
          });
          count = omega (arith, s.count, fewer_rise users now frozen n apart in_range);
          few = omega (arith, s.few);
          over = λ flow. over_after n (n - risers) (n - (risers - k)) users now frozen flow (omega arith) (s.over flow)
              (subst (λ j. IsOver n j now) (entry n risers k s.few within) l.over);
        };
      }

  -- all are frozen
  done : (frozen : ℕ → Option ℕ) (risers : ℕ) (s : IsFilling frozen risers) → All (λ side. rising frozen side ≡ 0) sides
      → IsFair sides (denominator_of n) (standing frozen 0)
  done frozen risers s none =
      end sides (denominator_of n) frozen s.level (positive n) s.filled
      (λ flow limited. elim (none_or_some (frozen flow)) [
        | inr (parts, e) ↦ some_is (frozen flow) parts e
        | inl e ↦
            let side = limited.0 in
            let some = some_rising frozen flow side.users limited.1.used e in
            absurd (omega (arith, some, All-contains (λ s. rising frozen s ≡ 0) sides side none limited.1.listed))
      ])

  fill : (fuel risers : ℕ) → risers < fuel → (frozen : ℕ → Option ℕ) → IsFilling frozen risers
      → (parts : ℕ → ℕ) × IsFair sides (denominator_of n) parts
  fill zero risers enough frozen s = absurd (omega arith)
  fill (suc fuel) risers enough frozen s = elim (least_of (left_of (denominator_of n) frozen) (rising frozen) sides) [
    | inl none ↦ (standing frozen 0, done frozen risers s none)
    | inr least ↦ let r = round frozen risers s least in fill fuel r.fewer (omega (arith, r.less)) r.after r.filling
  ]

  -- there are fair parts, the denominator of which makes one
  pub fair_parts : (parts : ℕ → ℕ) × IsFair sides (denominator_of n) parts
  fair_parts = fill (suc n) n (omega arith) (λ _. None) (record {
    level = 0;
    filled = start sides (denominator_of n) (λ _. None) (λ _. refl);
    count = rising_all n;
    few = omega arith;
    over = λ flow. nothing_over n (n - n);
  })
