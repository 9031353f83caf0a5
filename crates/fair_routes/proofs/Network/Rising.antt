-- Flows are held, one after another, and what they have is multiplied and weighed.
use Rattle.fair_routes.proofs.Common.{◌≡◌, ℕ, ◌+◌, ◌*◌, ◌<◌, ◌≤◌, List, [], ◌∷◌, ◌++◌, All, Contains, Option, Some}
use Rattle.fair_routes.proofs.Common.{None, cond, length, map, get_or, set, inl, inr, refl, sym, ap, ◌∙◌, subst, arith}
use Rattle.fair_routes.proofs.Common.{count_by, option_map, unwrap_or, is_none, All-nil, All-push, Side, none_or_some}
use Rattle.fair_routes.proofs.Common.{some_is, not_some, frozen_in, rising_weight, AreAllHeld, HasLeastRoom, HasFrozen}
use Rattle.fair_routes.proofs.Common.{Room, common_steps, IsSome, length-append, rules, MatchOption, cases_eq}
use Rattle.fair_routes.proofs.Common.{get_or_push, get_or_append_left, AreScaled, slack_of}
use Rattle.std.proofs.Common.{get_or-set_other, get_or-set_same}
use Rattle.std.proofs.Math.ListN.{length-set, get_or-map as get_or_map}
use Rattle.std.proofs.lemmas.List.Elements.{All-weaker, Contains-push, Contains-append_left}
use Rattle.std.proofs.lemmas.List.Sums.{sum_by-set}
use Rattle.fair_routes.specs.Network.Rising.{IsLesser}
use Rattle.fairness.proofs.Filling.LeastShare.{at_most_trans}

-- nobody was to be held
pub frozen_none : (parts : List (Option ℕ)) (share : ℕ) → HasFrozen [] parts parts share
frozen_none parts share = search (rules, All-nil, not_some)

module _ (mid : List (Option ℕ)) (user share : ℕ) (inside : user < length mid) where
  abbrev after : List (Option ℕ)
  after = set mid user (Some (unwrap_or (frozen_in mid user) share))

  there : frozen_in after user ≡ Some (unwrap_or (frozen_in mid user) share)
  there = get_or-set_same mid user (Some (unwrap_or (frozen_in mid user) share)) None inside

  there_none : frozen_in mid user ≡ None → frozen_in after user ≡ Some share
  there_none e = there ∙ ap (λ o. Some (unwrap_or o share)) e

  there_some : (parts : ℕ) → frozen_in mid user ≡ Some parts → frozen_in after user ≡ Some parts
  there_some parts e = there ∙ ap (λ o. Some (unwrap_or o share)) e

  elsewhere : (flow : ℕ) → ¬ (flow ≡ user) → frozen_in after flow ≡ frozen_in mid flow
  elsewhere flow other = search (rules, get_or-set_other)

  counted : count_by is_none after + cond (is_none (frozen_in mid user)) 1 0 ≡ count_by is_none mid
  counted = search (rules, sum_by-set)

  one_less : frozen_in mid user ≡ None → count_by is_none after < count_by is_none mid
  one_less e = omega (arith, counted, ap {B = ℕ} (λ (o : Option ℕ). cond (is_none o) 1 0) e)

  pub no_more_held : count_by is_none after ≤ count_by is_none mid
  no_more_held = omega (arith, counted)

  -- one more is held
  module _ (before : List (Option ℕ)) (users : List ℕ) (frozen : HasFrozen users before mid share)
      (no_more : count_by is_none mid ≤ count_by is_none before) where
    all_held : (flow : ℕ) → IsSome (frozen_in mid flow) → IsSome (frozen_in after flow)
    all_held flow some = search (rules, cases_eq, some_is, there, elsewhere)

    kept : (flow parts : ℕ) → frozen_in before flow ≡ Some parts → frozen_in after flow ≡ Some parts
    kept flow parts e = search (rules, cases_eq, there_some, elsewhere)

    fresh : (flow parts : ℕ) → frozen_in before flow ≡ None → frozen_in after flow ≡ Some parts
        → (parts ≡ share) × Contains (users ++ user ∷ []) flow
    fresh flow parts none e = elim (cases_eq flow user) [
      | inr other ↦
          let was = frozen.fresh flow parts none (sym (elsewhere flow other) ∙ e) in
          (was.0, Contains-append_left users (user ∷ []) flow was.1)
      | inl same ↦
          let now : frozen_in after user ≡ Some parts = sym (ap (frozen_in after) same) ∙ e in
          let has : Contains (users ++ user ∷ []) flow =
          subst (λ n. Contains (users ++ user ∷ []) n) (sym same) (Contains-push users user) in
          elim (none_or_some (frozen_in mid user)) [
            | inl still ↦ let given = there_none still in (cc, has)
            | inr (p, held) ↦
                let given = there_some p held in
                let was = frozen.fresh flow p none (ap (frozen_in mid) same ∙ held) in
                let equal = was.0 in
                (cc, has)
          ]
    ]

    fewer : (flow : ℕ) → frozen_in before flow ≡ None → IsSome (frozen_in after flow)
        → count_by is_none after < count_by is_none before
    fewer flow none some = search (rules, none_or_some, one_less, cases_eq, some_is, elsewhere, no_more_held)

    pub frozen_more : HasFrozen (users ++ user ∷ []) before after share
    frozen_more = record {
      one_each = length-set mid user (Some (unwrap_or (frozen_in mid user) share)) ∙ frozen.one_each;
      all = All-push (λ flow. IsSome (frozen_in after flow)) users user
          (λ k d within. all_held (get_or users k d) (frozen.all k d within)) (some_is _ _ there);
      kept = kept;
      fresh = fresh;
      fewer = fewer;
    }

-- no more than its weight rises
pub no_more_weight : (o : Option ℕ) (weight : ℕ) → cond (is_none o) weight 0 ≤ weight
no_more_weight None weight = omega arith
no_more_weight (Some parts) weight = omega arith

-- ---- all are multiplied

-- by one all are what they were
pub multiplied_once : (factor : ℕ) → factor ≡ 1 → (parts : List (Option ℕ))
    → parts ≡ map (option_map (λ n. n * factor)) parts
multiplied_once factor one [] = refl
multiplied_once factor one (o ∷ parts) = λ i. same o i ∷ multiplied_once factor one parts i
  where
    same : (o : Option ℕ) → o ≡ option_map (λ n. n * factor) o
    same None = refl
    same (Some n) = ap Some (omega (arith, ap (λ k. n * k) one))

-- each flow that is held has so many times as much
pub all_multiplied : (factor : ℕ) (parts now : List (Option ℕ)) → now ≡ map (option_map (λ n. n * factor)) parts
    → AreScaled factor (frozen_in parts) (frozen_in now)
all_multiplied factor parts now are = grind (arith, common_steps, get_or_map)

-- ---- one after another is weighed

-- what holds of each element, and of one more at the end
pub pushed : {X : Type 0} (Holds : ℕ → X → Type 0) (d : X) (xs : List X) (x : X) (n : ℕ) → length xs ≡ n
    → ((k : ℕ) → k < n → Holds k (get_or xs k d)) → Holds n x
    → (k : ℕ) → k < n + 1 → Holds k (get_or (xs ++ x ∷ []) k d)
pushed Holds d xs x n len all here k inside = search (rules, cases_eq, get_or_push, get_or_append_left)

-- ---- the least room of one side after another

module _ (weights : List ℕ) (scale : ℕ) (frozen : ℕ → Option ℕ) where
  abbrev pub IsLeastOf : List Side → Option Room → Type 0
  IsLeastOf sides least = MatchOption least (AreAllHeld weights frozen sides) (HasLeastRoom weights scale frozen sides)

  module _ (passed : List Side) (side : Side) (room : Room) (place : room.place ≡ length passed)
      (slack : room.slack ≡ slack_of weights scale frozen side)
      (weight : room.weight ≡ rising_weight weights frozen side.users) where
    abbrev Covers : Room → Side → Type 0
    Covers least other =
        least.slack * rising_weight weights frozen other.users ≤ slack_of weights scale frozen other * least.weight

    itself : Covers room side
    itself = omega (arith, ap (λ n. room.slack * n) weight, ap (λ n. n * room.weight) slack)

    taken : 0 < room.weight → All (Covers room) passed → HasLeastRoom weights scale frozen (passed ++ side ∷ []) room
    taken some covers = grind (arith, common_steps, length-append, get_or_push, All-push, itself)

    stays : (least : Room) → HasLeastRoom weights scale frozen passed least
        → least.slack * room.weight ≤ room.slack * least.weight
        → HasLeastRoom weights scale frozen (passed ++ side ∷ []) least
    stays least has less = grind (arith, common_steps, length-append, get_or_append_left, All-push)

    none_covers : AreAllHeld weights frozen passed → All (Covers room) passed
    none_covers held = search (rules, All-weaker)

    less_covers : (least : Room) → HasLeastRoom weights scale frozen passed least
        → room.slack * least.weight < least.slack * room.weight → All (Covers room) passed
    less_covers least has less =
        All-weaker (Covers least) (Covers room)
        (λ s covers. at_most_trans room.slack room.weight least.slack least.weight (slack_of weights scale frozen s)
        (rising_weight weights frozen s.users) has.some (omega (arith, less)) covers) passed has.least

    pub least_more : (least result : Option Room) → IsLeastOf passed least → IsLesser least room result
        → IsLeastOf (passed ++ side ∷ []) result
    least_more None result was (inl (is, some, less)) = grind (arith, common_steps, taken, none_covers)
    least_more (Some least) result was (inl (is, some, less)) = grind (arith, common_steps, taken, less_covers)
    least_more None result was (inr (is, zero)) = grind (arith, common_steps, All-push)
    least_more (Some least) result was (inr (is, less)) = grind (arith, common_steps, stays)
