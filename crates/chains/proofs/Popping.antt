-- A table, once its last row is gone, which stood in no chain.
use Rattle.std.proofs.lemmas.Grind.{common_steps}
use Rattle.std.proofs.Common.{rules}
use Rattle.chains.proofs.Common.{◌≡◌, ℕ, ◌-◌, ◌<◌, ◌≤◌, Option, Some, None, refl, ap, ◌∙◌, arith, length, subst}
use Rattle.chains.proofs.Common.{cases_lt, length-map, IsFirst, IsLast, IsPlace, behind, end_at, Table, link_of}
use Rattle.chains.proofs.Common.{no_link, Stands, next_at, prev_at, rows_in, IsChained}
use Rattle.std.proofs.lemmas.List.{get_or-take, length-take-le, take-map}
use Rattle.chains.specs.Chains.{without_last as fewer}
use Rattle.chains.specs.Tables.{without_last}
use Rattle.chains.proofs.Places.{first_same, last_same}
use Rattle.chains.proofs.Taking.{row_below, place_map}
use Rattle.chains.proofs.Views.{owner_in, rows_are}

-- where it holds of none from a number on, the last before all is the last before that one
last_shorter : (P : ℕ → Type 0) (end less : ℕ) (prev : Option ℕ) → less ≤ end → ((n : ℕ) → P n → n < less)
    → IsLast P end prev
    → IsLast P less prev
last_shorter P end less None le below last = λ n low there. last n (omega (arith, low, le)) there
last_shorter P end less (Some prev) le below last = search rules

module _ (t : Table) (some : 0 < length t.links) (apart : (link_of t (length t.links - 1)).owner ≡ None) where
  abbrev cut : Table
  cut = without_last t

  long : length cut.links ≡ length t.links - 1
  long = length-take-le (length t.links - 1) t.links (omega arith)

  link_same : (row : ℕ) → row < length t.links - 1 → link_of cut row ≡ link_of t row
  link_same row low = get_or-take (length t.links - 1) t.links row no_link low

  below : (owner row : ℕ) → Stands t owner row → row < length t.links - 1
  below owner row there = search (rules, row_below, cases_lt)

  kept : (owner row : ℕ) → Stands t owner row → Stands cut owner row
  kept owner row there = ap owner_in (link_same row (below owner row there)) ∙ there

  still : (owner row : ℕ) → Stands cut owner row → Stands t owner row
  still owner row there = grind (arith, common_steps, row_below, link_same, long)

  place_still : (owner : ℕ) (place : Option ℕ) → IsPlace (Stands cut owner) place → IsPlace (Stands t owner) place
  place_still owner place = place_map (Stands cut owner) (Stands t owner) place (still owner)

  next_same : (owner : ℕ) (place : Option ℕ) → IsPlace (Stands cut owner) place → next_at t owner place ≡ next_at cut owner place
  next_same owner None there = refl
  next_same owner (Some row) there = grind (arith, common_steps, link_same, below, still)

  prev_same : (owner : ℕ) (place : Option ℕ) → IsPlace (Stands cut owner) place → prev_at t owner place ≡ prev_at cut owner place
  prev_same owner None there = refl
  prev_same owner (Some row) there = grind (arith, common_steps, link_same, below, still)

  last_cut : (owner : ℕ) (place prev : Option ℕ) → IsLast (Stands t owner) (end_at (length t.links) place) prev
      → IsLast (Stands t owner) (end_at (length cut.links) place) prev
  last_cut owner None prev last = search (rules, last_shorter, long, below)
  last_cut owner (Some row) prev last = last

  pub popped_chained : IsChained t → IsChained cut
  popped_chained chained = record {
    owned = λ owner row there. chained.owned owner row (still owner row there);
    next = λ owner place low there.
        first_same (Stands t owner) (Stands cut owner) (kept owner) (still owner) (behind place) (next_at cut owner place)
        (subst (IsFirst (Stands t owner) (behind place)) (next_same owner place there)
        (chained.next owner place low (place_still owner place there)));
    prev = λ owner place low there.
        last_same (Stands t owner) (Stands cut owner) (kept owner) (still owner) (end_at (length cut.links) place)
        (prev_at cut owner place)
        (last_cut owner place (prev_at cut owner place) (subst (IsLast (Stands t owner) (end_at (length t.links) place))
        (prev_same owner place there) (chained.prev owner place low (place_still owner place there))));
  }

pub rows_of_popped : (t : Table) → rows_in (without_last t) ≡ fewer (rows_in t)
rows_of_popped t = search (rules, length-map, rows_are, take-map)
