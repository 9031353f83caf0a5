-- Over parts, the least of what the sides have left for each of their rising users is the next level.
use Rattle.fairness.proofs.Common.{◌∙◌, ◌≡◌, ℕ, ◌+◌, ◌-◌, ◌*◌, ◌<◌, ◌≤◌, cond, List, [], ◌∷◌, All, Contains, sum_by}
use Rattle.fairness.proofs.Common.{count_by, ap, arith, Option, Some, None, unwrap_or, All-contains, sum_by-cons}
use Rattle.fairness.proofs.Common.{Side, load, IsWithinCaps}
use Rattle.std.proofs.Common.{le_of_mul-le-mul_right, is_none}
use Rattle.fairness.proofs.Lists.SumOrder.{All-from_contains}

-- what each flow has: the parts at which it is frozen, or else the level
abbrev pub standing : (ℕ → Option ℕ) → ℕ → ℕ → ℕ
standing frozen level flow = unwrap_or (frozen flow) level

-- what the frozen users of a side have together
abbrev pub taken : (ℕ → Option ℕ) → Side → ℕ
taken frozen side = load (standing frozen 0) side

-- how many users of a side still rise
abbrev pub rising : (ℕ → Option ℕ) → Side → ℕ
rising frozen side = count_by (λ flow. is_none (frozen flow)) side.users

-- what the frozen users leave of a side's cap
abbrev pub left_of : ℕ → (ℕ → Option ℕ) → Side → ℕ
left_of per frozen side = side.cap * per - taken frozen side

one_flow : (o : Option ℕ) (level : ℕ) → unwrap_or o level ≡ unwrap_or o 0 + level * cond (is_none o) 1 0
one_flow None level = omega arith
one_flow (Some parts) level = omega arith

all_flows : (frozen : ℕ → Option ℕ) (level : ℕ) (xs : List ℕ)
    → sum_by (standing frozen level) xs ≡ sum_by (standing frozen 0) xs + level * count_by (λ x. is_none (frozen x)) xs
all_flows frozen level [] = omega arith
all_flows frozen level (x ∷ xs) =
    let count = ap (λ n. level * n) (sum_by-cons (λ y. cond (is_none (frozen y)) 1 0) x xs) in
    omega (
      arith,
      one_flow (frozen x) level,
      count,
      all_flows frozen level xs,
      sum_by-cons (standing frozen level) x xs,
      sum_by-cons (standing frozen 0) x xs,
    )

-- what a side carries at a level
load_at : (frozen : ℕ → Option ℕ) (level : ℕ) (side : Side)
    → load (standing frozen level) side ≡ taken frozen side + level * rising frozen side
load_at frozen level side = all_flows frozen level side.users

-- of the sides with rising users this one has the least left for each of them, which is `level`
pub record HasLeast (sides : List Side) (per : ℕ) (frozen : ℕ → Option ℕ) (side : Side) (level : ℕ) : Type 0 where
  pub listed : Contains sides side
  pub some : 0 < rising frozen side
  pub share : level * rising frozen side ≡ left_of per frozen side
  pub least : All (λ other. level * rising frozen other ≤ left_of per frozen other) sides

-- the level is within the caps, is no lower than before, and fills that side
pub record IsNextLevel (sides : List Side) (per : ℕ) (frozen : ℕ → Option ℕ) (before : ℕ) (side : Side)
    (level : ℕ) : Type 0 where
  pub raised : before ≤ level
  pub within : IsWithinCaps sides per (standing frozen level)
  pub full : load (standing frozen level) side ≡ side.cap * per

pub least_is_next : (sides : List Side) (per : ℕ) (frozen : ℕ → Option ℕ) (before : ℕ) (side : Side) (level : ℕ)
    → IsWithinCaps sides per (standing frozen before) → HasLeast sides per frozen side level
    → IsNextLevel sides per frozen before side level
least_is_next sides per frozen before side level was least =
    let here = within_at side least.listed in
    record {
      raised = le_of_mul-le-mul_right {k = rising frozen side} (omega (arith, here, least.share)) least.some;
      within = All-from_contains (λ s. load (standing frozen level) s ≤ s.cap * per) sides (λ s listed.
          rw (load_at frozen level s) (omega (
            arith,
            within_at s listed,
            All-contains (λ o. level * rising frozen o ≤ left_of per frozen o) sides s least.least listed,
          )));
      full = load_at frozen level side ∙ omega (arith, here, least.share);
    }
  where
    within_at : (s : Side) → Contains sides s → taken frozen s + before * rising frozen s ≤ s.cap * per
    within_at s listed =
        rw (load_at frozen before s) at
        (All-contains (λ s. load (standing frozen before) s ≤ s.cap * per) sides s was listed)
