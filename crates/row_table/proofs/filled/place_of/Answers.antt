use Rattle.row_table.proofs.Common.{common_steps, ◌≡◌, ℕ, ◌+◌, ◌<◌, false, List, Some, slice_get, sym, ap, ◌∙◌, IfNone}
use Rattle.row_table.proofs.Common.{arith, cases_lt, get_or_from_slice_get, slice_get_within, by_cases, Ok, Err, Result}
use Rattle.row_table.proofs.Common.{get_or, AllPairs}
use Rattle.std.specs.List.Sorted.{IsBinarySearchResult}
use Rattle.std.specs.Ordering.{nat_cmp, is_lt}
use Rattle.std.specs.Result.{result_ok}
use Rattle.std.specs.declared.cmp.Ordering.TheVariants.{Less, Greater}
use Rattle.std.proofs.lemmas.Bool.Decides.{nat_tests}
use Rattle.std.proofs.lemmas.Cmp.{nat_cmp_total, ranked}
use Rattle.std.proofs.lemmas.List.Sorted.{searchable_from_sorted}
use Rattle.row_table.proofs.filled.place_of.Goals as goal

not_less : (a b : ℕ) → a < b → is_lt (nat_cmp b a) ≡ false
not_less a b less = grind (arith, nat_tests)

-- what a search misses in a list that ascends is not there
missing : (xs : List ℕ) (x : ℕ) (r : Result ℕ ℕ) → IsBinarySearchResult (λ y. nat_cmp y x) xs r
    → IfNone (result_ok r) (AllPairs (λ one other. one < other) xs → (at : ℕ) → slice_get xs at ≡ Some x → ⊥)
missing xs x (Ok i) found = tt
missing xs x (Err i) found = λ up at e.
    let part = found (searchable_from_sorted nat_cmp_total (λ y. y) xs x
    (λ k d from low. not_less (get_or xs k d) (get_or xs (k + 1) d)
    (up k (k + 1) d (omega arith) low))) in
    let is = get_or_from_slice_get xs at x x e in
    by_cases (cases_lt at i)
    (λ less. let same : x < x = ranked x x Less (sym
    (ap (λ y. nat_cmp y x) (sym is) ∙ part.0 at x (omega arith) less)) in
    absurd (omega (arith, same)))
    (λ le. let same : x < x = ranked x x Greater (sym
    (ap (λ y. nat_cmp y x) (sym is) ∙ part.1 at x le (slice_get_within xs at x e))) in
    absurd (omega (arith, same)))

pub returns-clause-none : goal.returns-clause-none
returns-clause-none c = grind (arith, common_steps, missing)
