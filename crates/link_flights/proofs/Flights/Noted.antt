-- Places that are noted as listed.
use Rattle.link_flights.proofs.Common.{◌≡◌, ℕ, ◌+◌, ◌<◌, Bool, true, false, List, [], ◌∷◌, ◌++◌, length, ◌⊎◌, inl, inr}
use Rattle.link_flights.proofs.Common.{Some, slice_get, slice_set, All, Contains, sym, ap, ◌∙◌, subst, arith, get_or}
use Rattle.link_flights.proofs.Common.{cases_lt, false≢true, same_Some, slice_get_within, get_or_from_slice_get}
use Rattle.link_flights.proofs.Common.{slice_get-get_or, All-append, All-weaker, All-contains, In, Ascends, AreNoted}
use Rattle.link_flights.proofs.Common.{get_set_other, All-nil, AreStillListed, get_set_here}
use Rattle.std.proofs.lemmas.Bool.{false_from_ne_true}
use Rattle.std.proofs.lemmas.List.Elements.{All-cons, Contains-append_left}
use Rattle.std.proofs.lemmas.List.Elements.{Contains-get_or}
use Rattle.link_flights.proofs.Flights.Listed.{ascends_at_end}
use Rattle.link_flights.proofs.Flights.Search.{one_is_listed}

-- of the places up to one those that are noted are listed, in order, and no others
pub record AreListedUpTo (noted : List Bool) (at : ℕ) (places : List ℕ) : Type 0 where
  pub order : Ascends 0 places
  pub below : All (λ p. p < at) places
  pub only : All (λ p. slice_get noted p ≡ Some true) places
  pub all : (p : ℕ) → p < at → slice_get noted p ≡ Some true → Contains places p

module _ (noted : List Bool) (at : ℕ) (places : List ℕ) (so_far : AreListedUpTo noted at places) where
  still_below : All (λ p. p < at + 1) places
  still_below = All-weaker (λ p. p < at) (λ p. p < at + 1) (λ p less. omega (arith, less)) places so_far.below

  pub one_more_noted : slice_get noted at ≡ Some true → AreListedUpTo noted (at + 1) (places ++ at ∷ [])
  one_more_noted here = record {
    order = ascends_at_end 0 places at so_far.order (omega arith) so_far.below;
    below = All-append (λ p. p < at + 1) places (at ∷ []) still_below
        (All-cons (λ p. p < at + 1) at [] (omega arith) (All-nil (λ p. p < at + 1)));
    only = All-append (λ p. slice_get noted p ≡ Some true) places (at ∷ []) so_far.only
        (All-cons (λ p. slice_get noted p ≡ Some true) at [] here (All-nil (λ p. slice_get noted p ≡ Some true)));
    all = λ p below is. elim (cases_lt p at) [
      | inl less ↦ Contains-append_left places (at ∷ []) p (so_far.all p less is)
      | inr past ↦
          let last : at ≡ p = omega (arith, below, past) in
          subst (Contains (places ++ at ∷ [])) last (one_is_listed places at)
    ];
  }

  pub none_more_noted : slice_get noted at ≡ Some false → AreListedUpTo noted (at + 1) places
  none_more_noted here = record {
    order = so_far.order;
    below = still_below;
    only = so_far.only;
    all = λ p below is. elim (cases_lt p at) [
      | inl less ↦ so_far.all p less is
      | inr past ↦
          let last : at ≡ p = omega (arith, below, past) in
          absurd (false≢true (same_Some false true (sym here ∙ ap (slice_get noted) last ∙ is)))
    ];
  }

-- one more is listed, and noted
pub noted_with_one : (places : List ℕ) (noted : List Bool) (at : ℕ) → at < length noted → AreNoted places noted
    → AreNoted (places ++ at ∷ []) (slice_set noted at true)
noted_with_one places noted at inside are = record {
  listed = λ p is. elim (same_or_not at p) [
    | inl same ↦ subst (Contains (places ++ at ∷ [])) same (one_is_listed places at)
    | inr other ↦ Contains-append_left places (at ∷ []) p
        (are.listed p (sym (get_set_other noted at p true other) ∙ is))
  ];
  only = All-append (λ p. slice_get (slice_set noted at true) p ≡ Some true) places (at ∷ [])
      (All-weaker (λ p. slice_get noted p ≡ Some true) (λ p. slice_get (slice_set noted at true) p ≡ Some true) still
      places are.only)
      (All-cons (λ p. slice_get (slice_set noted at true) p ≡ Some true) at [] here
      (All-nil (λ p. slice_get (slice_set noted at true) p ≡ Some true)));
}
  where
    same_or_not : (k p : ℕ) → (k ≡ p) ⊎ (k ≡ p → ⊥)
    same_or_not k p = elim (cases_lt k p) [
      | inl less ↦ inr (λ same. absurd (omega (arith, less, same)))
      | inr past ↦ elim (cases_lt p k) [
        | inl more ↦ inr (λ same. absurd (omega (arith, more, same)))
        | inr low ↦ inl (omega (arith, past, low))
      ]
    ]

    here : slice_get (slice_set noted at true) at ≡ Some true
    here = get_set_here noted at true inside

    still : (p : ℕ) → slice_get noted p ≡ Some true → slice_get (slice_set noted at true) p ≡ Some true
    still p is = elim (same_or_not at p) [
      | inl same ↦ subst (λ q. slice_get (slice_set noted at true) q ≡ Some true) same here
      | inr other ↦ get_set_other noted at p true other ∙ is
    ]

-- where each place is noted as not listed, it is noted nowhere
pub nowhere_noted : (noted : List Bool) → All (λ n. n ≡ false) noted → AreNoted [] noted
nowhere_noted noted none = record {
  listed = λ at is.
      let within = slice_get_within noted at true is in
      absurd (false≢true (sym (none at true within) ∙ get_or_from_slice_get noted at true true is));
  only = All-nil (λ at. slice_get noted at ≡ Some true);
}

-- what is listed in another order is noted still
pub noted_in_order : (places again : List ℕ) (noted : List Bool) → AreNoted places noted → AreStillListed places again
    → AreStillListed again places → AreNoted again noted
noted_in_order places again noted are still only = record {
  listed = λ at is. still at (are.listed at is);
  only = λ k d within.
      All-contains (λ at. slice_get noted at ≡ Some true) places (get_or again k d) are.only
      (only (get_or again k d) (Contains-get_or again k d within));
}

-- a place stands among the others, once it is noted no more
pub noted_but_one : (noted : List Bool) (at : ℕ) (places : List ℕ) → at < length noted
    → ((p : ℕ) → slice_get noted p ≡ Some true → In (at ∷ places) p) → (p : ℕ)
    → slice_get (slice_set noted at false) p ≡ Some true → In places p
noted_but_one noted at places within listed p is = elim (cases_lt at p) [
  | inl less ↦ other (λ same. absurd (omega (arith, less, same)))
  | inr past ↦ elim (cases_lt p at) [
    | inl more ↦ other (λ same. absurd (omega (arith, more, same)))
    | inr low ↦
        let same : at ≡ p = omega (arith, past, low) in
        absurd (false≢true (same_Some false true
        (sym (get_set_here noted at false within) ∙ ap (slice_get (slice_set noted at false)) same ∙ is)))
  ]
]
  where
    other : (at ≡ p → ⊥) → In places p
    other apart = elim (listed p (sym (get_set_other noted at p false apart) ∙ is)) [
      | inl same ↦ absurd (apart same)
      | inr more ↦ more
    ]

-- where none is listed any more, each is noted as not listed
pub none_left_noted : (noted : List Bool) → ((p : ℕ) → slice_get noted p ≡ Some true → ⊥)
    → All (λ n. n ≡ false) noted
none_left_noted noted none k d within =
    false_from_ne_true (get_or noted k d) (λ is. none k (slice_get-get_or noted k d within ∙ ap Some is))
