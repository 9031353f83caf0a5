-- The levels so far: different, rising, each of some frozen flow.
use Rattle.fair_rates.proofs.Common.{◌≡◌, ℕ, ◌+◌, ◌-◌, ◌*◌, ◌<◌, ◌≤◌, ◌⊎◌, inl, inr, List, [], ◌∷◌, ◌++◌, length}
use Rattle.fair_rates.proofs.Common.{get_or, map, set, take, All, AllPairs, Contains, Option, Some, None, IfSome, refl}
use Rattle.fair_rates.proofs.Common.{sym, ap, subst, ◌∙◌, arith, length-append, option_map, slice_index, cases_eq}
use Rattle.fair_rates.proofs.Common.{cases_lt, get_or-map, get_or_default, get_or_past, get_or_append_left, length-map}
use Rattle.fair_rates.proofs.Common.{All-push, All-weaker, All-contains, Contains-push, Contains-append_left, level_at}
use Rattle.fair_rates.proofs.Common.{frozen_at, top, IsRaised, AreAtTop, rules, common_steps}
use Rattle.std.proofs.Common.{get_or-set_other, get_or-set_same}
use Rattle.std.proofs.Math.ListN.{get_or-map as get_or_map}
use Rattle.std.proofs.Math.Nat.{mul-lt-mul_of_pos_right}
use Rattle.std.proofs.lemmas.List.{take_more}
use Rattle.std.proofs.lemmas.List.Sums.{get_or-le-sum_by}
use Rattle.std.specs.Int.{from_bool}
use Rattle.std.specs.Prelude.{not}
use Rattle.fair_rates.proofs.Common.{Bool, true, false, is_some, IsSome, AllFrozen, sum_by}
use Rattle.fair_rates.specs.Filling.States.{rises}
use Rattle.std.proofs.lemmas.List.Quantifiers.{all_pairs_push}
use Rattle.fair_rates.specs.Filling.States.{AreInside}
use Rattle.fair_rates.proofs.Filling.Course.{Freezes}
use Rattle.fairness.proofs.Filling.Frozen.{some_of_if}
use Rattle.fair_rates.proofs.Filling.Growing.{AreScaled}

-- a flow with a level is frozen at its parts
pub frozen_there : (levels : List ℕ) (level_of : List (Option ℕ)) (flow place : ℕ) → level_at level_of flow ≡ Some place
    → frozen_at levels level_of flow ≡ Some (slice_index levels place)
frozen_there levels level_of flow place e = ap (option_map (slice_index levels)) e

-- one rises where there is no level
pub rises_where_none : (o : Option ℕ) (none : Bool) → is_some o ≡ not none → from_bool none ≡ rises o
rises_where_none None true e = refl
rises_where_none None false e = cc
rises_where_none (Some place) true e = cc
rises_where_none (Some place) false e = refl

pub bool_small : (b : Bool) → from_bool b ≤ 1
bool_small true = omega arith
bool_small false = omega arith

frozen_if_none : (levels : List ℕ) (o : Option ℕ) → rises o ≡ 0 → IsSome (option_map (slice_index levels) o)
frozen_if_none levels None none = absurd (omega (arith, none))
frozen_if_none levels (Some place) none = refl

-- where none rises, each flow is frozen
pub frozen_where_none : (levels : List ℕ) (level_of : List (Option ℕ)) → sum_by rises level_of ≡ 0 → (flow : ℕ)
    → flow < length level_of → IsSome (frozen_at levels level_of flow)
frozen_where_none levels level_of none flow within =
    frozen_if_none levels (level_at level_of flow)
    (omega (arith, none, get_or-le-sum_by rises level_of flow None within))

frozen_if_some : (levels : List ℕ) (o : Option ℕ) → IsSome o → IsSome (option_map (slice_index levels) o)
frozen_if_some levels None some = cc
frozen_if_some levels (Some place) some = refl

-- who has a level is frozen
pub frozen_all : (levels : List ℕ) (level_of : List (Option ℕ)) (users : List ℕ)
    → All (λ flow. IsSome (level_at level_of flow)) users → AllFrozen (frozen_at levels level_of) users
frozen_all levels level_of users =
    All-weaker (λ flow. IsSome (level_at level_of flow)) (λ flow. IsSome (frozen_at levels level_of flow))
    (λ flow. frozen_if_some levels (level_at level_of flow)) users

-- ---- one user after another gets the level

abbrev AllThere : List (Option ℕ) → ℕ → List ℕ → Type 0
AllThere level_of place users = All (λ flow. level_at level_of flow ≡ Some place) users

abbrev OthersStay : List (Option ℕ) → List (Option ℕ) → List ℕ → Type 0
OthersStay before after users = (flow : ℕ) → Contains users flow ⊎ (level_at after flow ≡ level_at before flow)

module _ (before mid : List (Option ℕ)) (users : List ℕ) (user place : ℕ) (inside : user < length mid)
    (all : AllThere mid place users) (others : OthersStay before mid users) where
  abbrev after : List (Option ℕ)
  after = set mid user (Some place)

  there : level_at after user ≡ Some place
  there = get_or-set_same mid user (Some place) None inside

  all_push : AllThere after place (users ++ user ∷ [])
  all_push =
      All-push (λ flow. level_at after flow ≡ Some place) users user
      (λ k d within. elim (cases_eq (get_or users k d) user) [
        | inl same ↦ ap (level_at after) same ∙ there
        | inr other ↦ get_or-set_other mid user (get_or users k d) (Some place) None other ∙ all k d within
      ]) there

  others_push : OthersStay before after (users ++ user ∷ [])
  others_push flow = elim (cases_eq flow user) [
    | inl same ↦ inl (subst (λ n. Contains (users ++ user ∷ []) n) (sym same) (Contains-push users user))
    | inr other ↦ elim (others flow) [
      | inl used ↦ inl (Contains-append_left users (user ∷ []) flow used)
      | inr stays ↦ inr (get_or-set_other mid user flow (Some place) None other ∙ stays)
    ]
  ]

pub levels_next : (before mid : List (Option ℕ)) (users : List ℕ) (i place : ℕ) → i < length users
    → get_or users i 0 < length mid → AllThere mid place (take i users) → OthersStay before mid (take i users)
    → AllThere (set mid (get_or users i 0) (Some place)) place (take (i + 1) users)
    × OthersStay before (set mid (get_or users i 0) (Some place)) (take (i + 1) users)
levels_next before mid users i place inside within all others =
    let user = get_or users i 0 in
    let after = set mid user (Some place) in
    let P : List ℕ → Type 0 = λ xs. AllThere after place xs × OthersStay before after xs in
    subst P (sym (take_more users i 0 inside)) (
      all_push before mid (take i users) user place within all others,
      others_push before mid (take i users) user place within all others,
    )

-- ---- so many times the levels

module _ (factor : ℕ) (levels : List ℕ) where
  abbrev times : ℕ → ℕ
  times parts = parts * factor

  pub level_scaled : (place : ℕ) → slice_index (map times levels) place ≡ slice_index levels place * factor
  level_scaled place = grind (arith, common_steps, get_or_map)

  pub top_scaled : top (map times levels) ≡ top levels * factor
  top_scaled = search (rules, length-map, level_scaled)

  pub rising_scaled : 0 < factor → AllPairs (λ a b. a < b) levels → AllPairs (λ a b. a < b) (map times levels)
  rising_scaled some rising i j d less inside =
      let within : j < length levels = omega (arith, inside, length-map levels times) in
      let first : get_or (map times levels) i d ≡ get_or levels i 0 * factor = search (rules, get_or-map) in
      let second : get_or (map times levels) j d ≡ get_or levels j 0 * factor = get_or-map times levels j 0 d within in
      let lt : get_or levels i 0 * factor < get_or levels j 0 * factor = search (rules, mul-lt-mul_of_pos_right) in
      omega (arith, first, second, lt)

  frozen_scaled_at : (o : Option ℕ)
      → option_map (slice_index (map times levels)) o ≡ option_map times (option_map (slice_index levels) o)
  frozen_scaled_at None = refl
  frozen_scaled_at (Some place) = ap Some (level_scaled place)

  pub frozen_scaled : (level_of : List (Option ℕ))
      → AreScaled factor (frozen_at levels level_of) (frozen_at (map times levels) level_of)
  frozen_scaled level_of = record { each = λ flow. frozen_scaled_at (level_at level_of flow) }

  pub inside_scaled : (level_of : List (Option ℕ)) → AreInside levels level_of → AreInside (map times levels) level_of
  inside_scaled level_of inside = search (rules, All-weaker, length-map)

-- ---- the last level

-- no level is above the last
pub below_top : (levels : List ℕ) → AllPairs (λ a b. a < b) levels → All (λ level. level ≤ top levels) levels
below_top levels rising = λ k d inside. elim (cases_lt k (length levels - 1)) [
  | inl before ↦
      let lt = rising k (length levels - 1) 0 before (omega arith) in
      omega (arith, lt, get_or_default levels k d 0 inside)
  | inr last ↦
      let same : k ≡ length levels - 1 = omega arith in
      omega (arith, get_or_default levels k d 0 inside, ap (λ n. get_or levels n 0) same)
]

module _ (users : List ℕ) (levels after : List ℕ) (level_of later : List (Option ℕ)) (level : ℕ)
    (raised : IsRaised levels after level) (at_top : AreAtTop users level_of later after) where
  longer : length levels ≤ length after
  longer = search (rules, length-append)

  pub few_more : length after ≤ length levels + 1
  few_more = search (rules, length-append)

  same_level : (place : ℕ) → place < length levels → slice_index after place ≡ slice_index levels place
  same_level place inside = search (rules, get_or_append_left)

  same_frozen : (inside : AreInside levels level_of) (flow : ℕ) (o : Option ℕ) → level_at level_of flow ≡ o
      → level_at later flow ≡ level_at level_of flow → frozen_at after later flow ≡ frozen_at levels level_of flow
  same_frozen inside flow None e same = search rules
  same_frozen inside flow (Some place) e same = search (rules, cases_lt, get_or_past, some_of_if, same_level)

  -- the users are frozen at the level, and the others as they were
  pub freezes : AreInside levels level_of → Freezes users (frozen_at levels level_of) (frozen_at after later) level
  freezes inside = search (rules, All-weaker, same_frozen)

  inside_at : (inside : AreInside levels level_of) (flow : ℕ) → flow < length level_of → (o : Option ℕ)
      → level_at later flow ≡ o → IfSome o (λ place. place < length after)
  inside_at inside flow within None e = tt
  inside_at inside flow within (Some place) e = search (rules, All-contains, longer, some_of_if)

  pub inside_on : AreInside levels level_of → AreInside after later
  inside_on inside k d within = search (rules, get_or_default, inside_at)

  pub rising_on : top levels ≤ level → AllPairs (λ a b. a < b) levels → AllPairs (λ a b. a < b) after
  rising_on no_lower rising = elim raised.same_or_new [
    | inl same ↦ subst (AllPairs (λ a b. a < b)) (sym same) rising
    | inr new ↦ subst (AllPairs (λ a b. a < b)) (sym new.0)
        (all_pairs_push (λ a b. a < b) levels level rising (λ k d inside. elim new.1 [
          | inl none ↦ absurd (omega (arith, inside, ap length none))
          | inr other ↦
              let le = below_top levels rising k d inside in
              elim (cases_lt (top levels) level) [
                | inl lt ↦ omega (arith, le, lt)
                | inr ge ↦ let same : top levels ≡ level = omega (arith, ge, no_lower) in
                    absurd (other same)
              ]
        ]))
  ]

  pub reached_on : ((flow : ℕ) → Contains users flow → level_at level_of flow ≡ None) → 0 < length users
      → ((place : ℕ) → place < length levels → (flow : ℕ) × (level_at level_of flow ≡ Some place))
      → (place : ℕ) → place < length after → (flow : ℕ) × (level_at later flow ≡ Some place)
  reached_on rise some reached place within = elim (cases_lt place (length levels)) [
    | inl before ↦
        let was = reached place before in
        elim (at_top.others was.0) [
          | inr same ↦ (was.0, same ∙ was.1)
          | inl used ↦ let none = rise was.0 used in let is = was.1 in absurd (cc)
        ]
    | inr new ↦
        let user = get_or users 0 0 in
        let last : length after - 1 ≡ place = omega (arith, within, new, few_more) in
        (user, at_top.all 0 0 some ∙ ap Some last)
  ]
