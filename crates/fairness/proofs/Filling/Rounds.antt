-- Filling keeps its state, round by round, and ends in a fair allocation.
use Rattle.fairness.proofs.Common.{◌*◌, load, ◌≡◌, ℕ, ◌<◌, ◌≤◌, inl, inr, List, Contains, sym, ◌∙◌, arith, Option, None, IsSome}
use Rattle.fairness.proofs.Common.{All-contains, Side, IsLimited, IsFair, at_level, rules}
use Rattle.fairness.proofs.Filling.Frozen.{none_or_some, some_value, some_is, at_some, at_none, at_any}
use Rattle.fairness.proofs.Filling.States.{IsHeld, IsFilledTo, IsNextRound}
use Rattle.fairness.proofs.Lists.Sums.{sum_by_same, sum_by-zero}
use Rattle.fairness.proofs.Lists.SumOrder.{All-from_contains}

-- no flow is frozen
pub start : (sides : List Side) (per : ℕ) (frozen : ℕ → Option ℕ) → ((flow : ℕ) → frozen flow ≡ None)
    → IsFilledTo sides per frozen 0
start sides per frozen none = record {
  within = search (rules, All-from_contains, sum_by-zero, sum_by_same, at_none);
  below = λ j. omega (arith, at_none frozen 0 j (none j));
  held = λ j h. let v = some_value (frozen j) h in let e = none j in cc;
}

-- every limited flow is frozen
pub end : (sides : List Side) (per : ℕ) (frozen : ℕ → Option ℕ) (level : ℕ) → 0 < per
    → IsFilledTo sides per frozen level → ((flow : ℕ) → IsLimited sides flow → IsSome (frozen flow))
    → IsFair sides per (at_level frozen 0)
end sides per frozen level some filled all = record {
  some_part = some;
  within = search (rules, All-from_contains, sum_by_same, at_any, All-contains);
  held = λ i limited. (filled.held i (all i limited)).bottleneck;
}

module _ (sides : List Side) (per : ℕ) (frozen : ℕ → Option ℕ) (level : ℕ) (after : ℕ → Option ℕ) (next_level : ℕ)
    (filled : IsFilledTo sides per frozen level)
    (round : IsNextRound sides per frozen level after next_level) where
  -- at the next level nothing moves
  same_at : (j : ℕ) → at_level after next_level j ≡ at_level frozen next_level j
  same_at j = search (rules, none_or_some, at_some, at_none)

  -- a frozen flow keeps its parts
  kept_at : (j : ℕ) → IsSome (frozen j) → at_level after 0 j ≡ at_level frozen 0 j
  kept_at j h = search (rules, some_value, at_some)

  still : (j : ℕ) → IsSome (frozen j) → IsSome (after j)
  still j h = let v = some_value (frozen j) h in some_is (after j) v.0 (round.kept j v.0 v.1)

  below : (j : ℕ) → at_level after 0 j ≤ next_level
  below j = search (rules, none_or_some, kept_at, some_is, at_none, at_some)

  held : (i : ℕ) → IsSome (after i) → IsHeld sides per after i
  held i now = elim (none_or_some (frozen i)) [
    | inr (a, e) ↦
        let was = some_is (frozen i) a e in
        let s = filled.held i was in let h = s.bottleneck in let users = h.side.users in
        let had : (j : ℕ) → Contains users j → IsSome (frozen j) = search (rules, All-contains) in
        record {
          bottleneck = record {
            side = h.side;
            uses = h.uses;
            full =
                sum_by_same (at_level after 0) (at_level frozen 0) users
                (All-from_contains (λ j. at_level after 0 j ≡ at_level frozen 0 j) users
                (λ j used. kept_at j (had j used))) ∙ h.full;
            greatest = All-from_contains (λ j. at_level after 0 j ≤ at_level after 0 i) users (λ j used.
                omega (
                  arith,
                  kept_at j (had j used),
                  kept_at i was,
                  All-contains (λ j. at_level frozen 0 j ≤ at_level frozen 0 i) users j h.greatest used,
                ));
          };
          all_frozen = All-from_contains (λ j. IsSome (after j)) users (λ j used. still j (had j used));
        }
    | inl e ↦
        let v = some_value (after i) now in let f = round.fresh i v.0 e v.1 in let users = f.1.side.users in
        let same : (j : ℕ) → Contains users j → at_level after 0 j ≡ at_level frozen next_level j =
        search (rules, at_any, All-contains, same_at) in
        record {
          bottleneck = record {
            side = f.1.side;
            uses = f.1.uses;
            full =
                sum_by_same (at_level after 0) (at_level frozen next_level) users
                (All-from_contains (λ j. at_level after 0 j ≡ at_level frozen next_level j) users same) ∙ f.1.full;
            greatest =
                All-from_contains (λ j. at_level after 0 j ≤ at_level after 0 i) users
                (λ j used. omega (arith, below j, at_some after 0 i v.0 v.1, f.0));
          };
          all_frozen = f.1.all_frozen;
        }
  ]

  pub next : IsFilledTo sides per after next_level
  next = record {
    within = All-from_contains (λ s. load (at_level after next_level) s ≤ s.cap * per) sides (λ s c.
        omega (
          arith,
          sum_by_same (at_level after next_level) (at_level frozen next_level) s.users (λ k d l. same_at _),
          All-contains (λ s. load (at_level frozen next_level) s ≤ s.cap * per) sides s round.within c,
        ));
    below = below;
    held = held;
  }

-- parts that are the same are fair
pub fair_same : (sides : List Side) (per : ℕ) (parts other : ℕ → ℕ) → ((flow : ℕ) → parts flow ≡ other flow)
    → IsFair sides per parts → IsFair sides per other
fair_same sides per parts other same fair = record {
  some_part = fair.some_part;
  within = search (rules, All-from_contains, sum_by_same, All-contains);
  held = λ flow limited. let h = fair.held flow limited in record {
    side = h.side;
    uses = h.uses;
    full = sym (sum_by_same parts other h.side.users (λ k d inside. same _)) ∙ h.full;
    greatest =
        All-from_contains (λ j. other j ≤ other flow) h.side.users (λ j used. omega
        (arith, same j, same flow, All-contains (λ j. parts j ≤ parts flow) h.side.users j h.greatest used));
  };
}
