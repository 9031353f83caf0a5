-- A refusal in the words of what the closures answered.
use Rattle.fair_rates.proofs.Common.{◌≡◌, inl, inr, ℕ, ◌+◌, ◌^◌, ◌<◌, ◌≤◌, List, [], ◌∷◌, length, map, All, AllPairs}
use Rattle.fair_rates.proofs.Common.{Contains, Some, subst, Ordering, All-nil, All-cons, All-append, All-head, All-tail}
use Rattle.fair_rates.proofs.Common.{All-weaker, All-contains, Answered, Calls, PairCalls, States, AnswerInOrder}
use Rattle.fair_rates.proofs.Common.{side_of, Side, Ask, asks_of_one, asks_from, sides_after, sides_of, FairRatesFit}
use Rattle.fair_rates.proofs.Common.{HasLargeRate, IsTooLarge, Flow, rules}
use Rattle.std.proofs.lemmas.List.Elements.{All-contains_itself}
use Rattle.fairness.specs.Refusals.TooLarge.{IsAnswer, HasLargeAnswer}
use Rattle.fair_rates.specs.declared.bandwidth.sides.Side as declared_side
use Rattle.fairness.proofs.Refusals.Fitting.{large_does_not_fit}
use Rattle.fair_rates.proofs.Refusals.Promise.{distinct_sides, users_below_sides, too_many_or_large}

-- ---- the caps of the sides were answered

-- what holds of each cap that is answered
abbrev HoldsOfAnswer : {P : Type 0} → (ℕ → Type 0) → Ask P → Type 0
HoldsOfAnswer Good ask = (cap : ℕ) → ask.answer ≡ Some cap → Good cap

abbrev HoldsOfAnswers : {P : Type 0} → (ℕ → Type 0) → Answered P → Type 0
HoldsOfAnswers Good a = (cap : ℕ) → IsAnswer a cap → Good cap

of_one : {P : Type 0} (Good : ℕ → Type 0) (place : ℕ) (a : Answered P) → HoldsOfAnswers Good a
    → All (HoldsOfAnswer Good) (asks_of_one place a)
of_one {P} Good place a good = search (rules, All-cons, All-nil)

of_asks : {P : Type 0} (Good : ℕ → Type 0) (place : ℕ) (answered : List (Answered P))
    → All (HoldsOfAnswers Good) answered → All (HoldsOfAnswer Good) (asks_from place answered)
of_asks Good place [] good = All-nil (HoldsOfAnswer Good)
of_asks Good place (a ∷ answered) good =
    search (
      rules,
      All-append,
      of_one,
      All-head,
      All-tail,
      of_asks Good (place + 1) answered (All-tail (HoldsOfAnswers Good) a answered good),
    )

of_sides : {P : Type 0} (cmp : P → P → Ordering) (Good : ℕ → Type 0) (earlier asks : List (Ask P))
    → All (HoldsOfAnswer Good) asks → All (λ side. Good side.cap) (sides_after cmp earlier asks)
of_sides cmp Good earlier [] good = All-nil (λ side. Good side.cap)
of_sides {P} cmp Good earlier (a ∷ asks) good =
    search (
      rules,
      All-append,
      All-head,
      All-tail,
      All-nil,
      All-cons,
      of_sides cmp Good (a ∷ earlier) asks (All-tail (HoldsOfAnswer Good) a asks good),
    )

-- the cap was answered for some flow
abbrev WasAnswered : {P : Type 0} → List (Answered P) → ℕ → Type 0
WasAnswered {P} answered cap = (a : Answered P) × Contains answered a × IsAnswer a cap

caps_were_answered : {P : Type 0} (cmp : P → P → Ordering) (answered : List (Answered P))
    → All (λ side. WasAnswered answered side.cap) (sides_of cmp answered)
caps_were_answered cmp answered =
    of_sides cmp (WasAnswered answered) [] (asks_from 0 answered) (of_asks (WasAnswered answered) 0 answered
    (All-weaker (Contains answered) (HoldsOfAnswers (WasAnswered answered)) (λ a c n is. (a, c, is)) answered
    (All-contains_itself answered)))

large_answer : {P : Type 0} (cmp : P → P → Ordering) (answered : List (Answered P)) (side : Side)
    → Contains (sides_of cmp answered) side → 2 ^ 64 ≤ side.cap → HasLargeAnswer answered
large_answer cmp answered side listed large =
    let w =
    All-contains (λ side. WasAnswered answered side.cap) (sides_of cmp answered) side
    (caps_were_answered cmp answered) listed in
    record { asked = w.0; listed = w.1; cap = side.cap; is = w.2; large = large }

-- where a fair rate on the sides that were registered is no fraction of 128 bits
pub too_large : {P E I L : Type 0} (cmp : P → P → Ordering) (egress : Calls E P) (ingress : Calls I P)
    (link : PairCalls L P) (first : States E I L) (flows : List (Flow P))
    → (answered : List (Answered P)) (sides : List declared_side.Side)
    → AnswerInOrder egress ingress link first flows answered → map side_of sides ≡ sides_of cmp answered
    → All (λ side. All (λ flow. flow < length flows) side.users.items) sides
    → All (λ side. AllPairs (λ a b. a < b) side.users.items) sides → HasLargeRate (map side_of sides)
    → IsTooLarge cmp egress ingress link first flows
too_large cmp egress ingress link first flows answered sides in_order registered below rise large =
    let among = users_below_sides (length flows) sides below in
    let refused = large_does_not_fit (map side_of sides) (length flows) among large in
    record {
      answered = answered;
      in_order = in_order;
      large_rate = subst HasLargeRate registered large;
      nothing_fits = subst (λ s. ¬ FairRatesFit s (length flows)) registered refused;
      many_or_large =
          elim (too_many_or_large (map side_of sides) (length flows) among (distinct_sides sides rise) refused) [
            | inl many ↦ inl many
            | inr (side, listed, over) ↦ inr
                (large_answer cmp answered side (subst (λ s. Contains s side) registered listed) over)
          ];
    }
