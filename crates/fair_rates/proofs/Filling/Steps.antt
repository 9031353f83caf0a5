-- What holds between two rounds, how a round keeps it, and what it gives at the end.
use Rattle.fair_rates.proofs.Common.{◌≡◌, ℕ, ◌*◌, ◌/◌, ◌^◌, ◌<◌, ◌≤◌, List, [], ◌∷◌, length, map, All, AllPairs}
use Rattle.fair_rates.proofs.Common.{Contains, Option, Some, None, IsSome, IfSome, refl, sym, ap, subst, arith}
use Rattle.fair_rates.proofs.Common.{mul-le-mul_right, option_map, unwrap_or, slice_index, IsHeap, Reverse, mul-pos}
use Rattle.fair_rates.proofs.Common.{cases_lt, length-map, get_or_past, All-head, All-weaker, All-contains, Side}
use Rattle.fair_rates.proofs.Common.{IsLimited, IsFair, level_at, flow_parts, frozen_at, at_level, top, AllRise}
use Rattle.fair_rates.proofs.Common.{IsRaised, AreAtTop, HaveNoMore, IsQueue, IsShareQueue, AreAbove, AllFilled}
use Rattle.std.proofs.Common.{◌%◌}
use Rattle.fair_rates.proofs.Common.{AreGrown, queue_cmp, OpenSide, rules}
use Rattle.std.proofs.Common.{le_of_mul-le-mul_right}
use Rattle.std.specs.Prelude.{◌↔◌, replicate}
use Rattle.std.proofs.lemmas.List.{get_or-replicate, length-replicate}
use Rattle.std.proofs.lemmas.List.Elements.{All-replicate}
use Rattle.fair_rates.specs.Filling.FairParts.{parts_of_level}
use Rattle.fair_rates.specs.Filling.States.{AreInside, IsLeast}
use Rattle.fair_rates.proofs.Filling.Account.{risers_have_no_more}
use Rattle.fair_rates.proofs.Filling.Course.{Freezes, queue_on, no_more_on, filled_on, share_within}
use Rattle.fairness.proofs.Filling.Frozen.{none_or_some}
use Rattle.fair_rates.proofs.Filling.Growing.{AreScaled, grown_first, still_rise, filled_scaled, queue_grown}
use Rattle.fair_rates.proofs.Filling.Growing.{no_more_grown, least_grown, users_grown}
use Rattle.fair_rates.proofs.Filling.Levels.{frozen_there, top_scaled, rising_scaled, frozen_scaled, inside_scaled}
use Rattle.fair_rates.proofs.Filling.Levels.{freezes, inside_on, rising_on, reached_on}
use Rattle.fairness.proofs.Filling.Rounds.{start, end, fair_same}
use Rattle.fairness.proofs.Filling.States.{IsFilledTo}

-- each level is of some flow
abbrev pub AreReached : List ℕ → List (Option ℕ) → Type 0
AreReached levels level_of = (place : ℕ) → place < length levels → (flow : ℕ) × (level_at level_of flow ≡ Some place)

-- between two rounds
pub record IsCourse (sides : List Side) (scale : ℕ) (levels : List ℕ) (level_of : List (Option ℕ))
    (opens : List (Reverse OpenSide)) : Type 0 where
  pub some_part : 0 < scale
  pub inside : AreInside levels level_of
  pub rising : AllPairs (λ a b. a < b) levels
  pub reached : AreReached levels level_of
  pub filled : IsFilledTo sides scale (frozen_at levels level_of) (top levels)
  pub queue : IsQueue sides scale (frozen_at levels level_of) opens
  pub sound : IsShareQueue (length level_of) (frozen_at levels level_of) opens
  pub above : AreAbove (top levels) opens

-- ---- before the first round

pub none_at : (count flow : ℕ) → level_at (replicate count None) flow ≡ None
none_at count flow = search (rules, cases_lt, get_or-replicate, get_or_past, length-replicate)

pub course_none : (sides : List Side) (scale count : ℕ) (opens : List (Reverse OpenSide)) → 0 < scale
    → ((frozen : ℕ → Option ℕ) → IsQueue sides scale frozen opens)
    → All (λ o. All (λ flow. flow < count) o.0.rising.items) opens → IsHeap queue_cmp opens
    → IsCourse sides scale [] (replicate count None) opens
course_none sides scale count opens some queue users order =
    let none : (flow : ℕ) → frozen_at [] (replicate count None) flow ≡ None = search (rules, none_at) in
    let all_rise : (xs : List ℕ) → AllRise (frozen_at [] (replicate count None)) xs = search rules in
    record {
      some_part = some;
      inside = All-replicate (λ level. IfSome level (λ place. place < 0)) count None tt;
      rising = λ i j d less inside. absurd (omega arith);
      reached = λ place inside. absurd (omega arith);
      filled = start sides scale (frozen_at [] (replicate count None)) none;
      queue = queue (frozen_at [] (replicate count None));
      sound = search (rules, length-replicate, risers_have_no_more);
      above = λ k d inside. omega arith;
    }

-- ---- a round

-- the side with the least share is taken out of the queue
pub record IsTaken (sides : List Side) (scale : ℕ) (levels : List ℕ) (level_of : List (Option ℕ)) (last : ℕ)
    (x : OpenSide) (rest : List (Reverse OpenSide)) : Type 0 where
  pub users : All (λ flow. flow < length level_of) x.rising.items
  pub sound : IsShareQueue (length level_of) (frozen_at levels level_of) rest
  pub least : IsLeast (frozen_at levels level_of) x rest
  pub queue : IsQueue sides scale (frozen_at levels level_of) (record { 0 = x } ∷ rest)
  pub above : AreAbove last (record { 0 = x } ∷ rest)

module _ (sides : List Side) (scale factor : ℕ) (levels after : List ℕ) (level_of later : List (Option ℕ))
    (x : OpenSide) (rest opens : List (Reverse OpenSide)) (level : ℕ)
    (factor_some : 0 < factor) (old : List (Reverse OpenSide)) (course : IsCourse sides scale levels level_of old)
    (taken : IsTaken sides scale levels level_of (top levels) x rest)
    (grown : AreGrown factor rest opens) (order : IsHeap queue_cmp opens)
    (share : level * length x.rising.items ≡ x.slack * factor)
    (raised : IsRaised (map (λ parts. parts * factor) levels) after level)
    (at_top : AreAtTop x.rising.items level_of later after) where
  abbrev scaled_levels : List ℕ
  scaled_levels = map (λ parts. parts * factor) levels

  abbrev frozen : ℕ → Option ℕ
  frozen = frozen_at levels level_of

  abbrev scaled_frozen : ℕ → Option ℕ
  scaled_frozen = frozen_at scaled_levels level_of

  abbrev now : ℕ → Option ℕ
  now = frozen_at after later

  abbrev wide : Reverse OpenSide
  wide = record {
    0 = record {
      slack = x.slack * factor;
      rising = x.rising;
      share = record {
        shift = 0;
        quotient = x.slack * factor / (2 ^ (64 * 0) * length x.rising.items);
        rest = x.slack * factor / 2 ^ (64 * 0) % length x.rising.items;
      };
      some = x.some;
      rounded = refl;
      left = refl;
    };
  }

  scaled : AreScaled factor frozen scaled_frozen
  scaled = frozen_scaled factor levels level_of

  -- the whole queue, with the side that was taken out, at the scale that grew
  all_grown : AreGrown factor (record { 0 = x } ∷ rest) (wide ∷ opens)
  all_grown = grown_first factor x rest opens wide (record { slack = refl; rising = refl }) grown

  wide_queue : IsQueue sides (scale * factor) scaled_frozen (wide ∷ opens)
  wide_queue = search (rules, queue_grown, scaled, all_grown)

  no_more : All (λ o. HaveNoMore scaled_frozen o.0.slack o.0.rising.items) opens
  no_more = no_more_grown factor frozen scaled_frozen scaled rest opens grown taken.sound.no_more

  rise : AllRise scaled_frozen x.rising.items
  rise = still_rise factor frozen scaled_frozen scaled x.rising.items taken.least.rise

  within : AreAbove level opens
  within = search (rules, All-weaker, share_within, least_grown)

  no_lower : top scaled_levels ≤ level
  no_lower =
      let here : top levels * length x.rising.items ≤ x.slack = search (rules, All-head) in
      le_of_mul-le-mul_right {k = length x.rising.items} (omega (
        arith,
        share,
        mul-le-mul_right factor here,
        ap (λ n. n * length x.rising.items) (top_scaled factor levels),
      ))
      x.some

  scaled_inside : AreInside scaled_levels level_of
  scaled_inside = inside_scaled factor levels level_of course.inside

  freezing : Freezes x.rising.items scaled_frozen now level
  freezing = freezes x.rising.items scaled_levels after level_of later level raised at_top scaled_inside

  scaled_filled : IsFilledTo sides (scale * factor) scaled_frozen (top scaled_levels)
  scaled_filled =
      subst (IsFilledTo sides (scale * factor) scaled_frozen) (sym (top_scaled factor levels))
      (filled_scaled factor frozen scaled_frozen scaled sides scale (top levels) course.filled)

  rising_none : (flow : ℕ) → Contains x.rising.items flow → level_at level_of flow ≡ None
  rising_none flow used = search (rules, none_or_some, frozen_there, All-contains)

  pub round : IsCourse sides (scale * factor) after later opens
  round = record {
    some_part = mul-pos course.some_part factor_some;
    inside = inside_on x.rising.items scaled_levels after level_of later level raised at_top scaled_inside;
    rising =
        rising_on x.rising.items scaled_levels after level_of later level raised at_top no_lower
        (rising_scaled factor levels factor_some course.rising);
    reached = reached_on x.rising.items scaled_levels after level_of later level raised at_top rising_none x.some
        (λ place within. course.reached place
        (omega (arith, within, length-map levels (λ (parts : ℕ). parts * factor))));
    filled = subst (IsFilledTo sides (scale * factor) now) (sym raised.last)
        (filled_on sides (scale * factor) scaled_frozen now wide opens level (top scaled_levels) wide_queue no_more rise
        within share freezing x.some (λ o. o.0.some) scaled_filled no_lower);
    queue = search (rules, queue_on, wide_queue, no_more, rise, within, freezing);
    sound = search (rules, users_grown, no_more, no_more_on, wide_queue, rise, within, freezing);
    above = subst (λ n. AreAbove n opens) (sym raised.last) within;
  }

-- ---- the end

module _ (sides : List Side) (scale : ℕ) (levels : List ℕ) (level_of : List (Option ℕ)) (some : 0 < scale)
    (filled : IsFilledTo sides scale (frozen_at levels level_of) (top levels))
    (ended : AllFilled sides (frozen_at levels level_of)) where
  level_of_some : (o : Option ℕ) → IsSome (option_map (slice_index levels) o) → IsSome o
  level_of_some None h = cc
  level_of_some (Some place) h = refl

  some_of_level : (o : Option ℕ) → IsSome o → IsSome (option_map (slice_index levels) o)
  some_of_level None h = cc
  some_of_level (Some place) h = refl

  limited_frozen : (flow : ℕ) → IsLimited sides flow → IsSome (frozen_at levels level_of flow)
  limited_frozen flow (side, uses) = search (rules, All-contains)

  pub limited : (flow : ℕ) → IsSome (level_at level_of flow) ↔ IsLimited sides flow
  limited flow = search (rules, some_of_level, level_of_some, limited_frozen)

  same_parts : (o : Option ℕ) → unwrap_or (option_map (slice_index levels) o) 0 ≡ parts_of_level levels o
  same_parts None = refl
  same_parts (Some place) = refl

  pub fair : IsFair sides scale (flow_parts levels level_of)
  fair =
      fair_same sides scale (at_level (frozen_at levels level_of) 0) (flow_parts levels level_of)
      (λ flow. same_parts (level_at level_of flow))
      (end sides scale (frozen_at levels level_of) (top levels) some filled limited_frozen)
