-- The numbers of keys, which stand in a list in their order, or in a map.
use Rattle.fair_rates.proofs.Common.{◌≡◌, ℕ, ◌+◌, ◌<◌, ◌≤◌, Bool, true, false, cond, List, [], ◌∷◌, length, map, get_or}
use Rattle.fair_rates.proofs.Common.{Option, Some, None, Ok, Err, refl, ap, ap₂, subst, ◌∙◌, arith, insert, is_some}
use Rattle.fair_rates.proofs.Common.{lookup, option_or, IsTotalOrder, Ordering, Less, Equal, Greater, is_eq}
use Rattle.fair_rates.proofs.Common.{eq_by_cmp_equiv, get_or_default, IsGap, rules, common_steps}
use Rattle.std.specs.List.{HoldsAt}
use Rattle.std.specs.List.Sorted.{IsNonDecreasingBy}
use Rattle.std.specs.Ordering.{ordering_index}
use Rattle.std.proofs.lemmas.Map.{lookup-insert, none_passes_from_lookup}
use Rattle.fairness.specs.Lists.Sorted.{are_ascending, value_at, IsPlace}
use Rattle.fair_rates.specs.Sides.Numbers.{number_in, AreInOrder}
use Rattle.fair_rates.specs.declared.bandwidth.numbers.Numbers.{Numbers}
use Rattle.fairness.proofs.Lists.Sorted.{searched, value_there, at_gap, ascending_insert_at}

least_index : (o : Ordering) → ordering_index o ≤ ordering_index Less → o ≡ Less
least_index Less h = refl
least_index Equal h = absurd (omega (arith, h))
least_index Greater h = absurd (omega (arith, h))

-- tests that agree find the same
pub lookup_agrees : {K X : Type 0} (test other : K → Bool) (entries : List (K × X)) → ((k : K) → test k ≡ other k)
    → lookup test entries ≡ lookup other entries
lookup_agrees test other [] same = refl
lookup_agrees test other (e ∷ entries) same = search (rules, lookup_agrees test other entries same)

pub numbers_agree : {K : Type 0} (test other : K → Bool) (numbers : Numbers K) → ((k : K) → test k ≡ other k)
    → number_in test numbers ≡ number_in other numbers
numbers_agree test other numbers same = search (rules, lookup_agrees)

module _ {K : Type 0} (cmp : K → K → Ordering) (total : IsTotalOrder cmp) where
  abbrev first : K × ℕ → K
  first entry = entry.0

  -- the number that the list has for a key is what its entry says
  says : (entries : List (K × ℕ)) (k : K)
      → lookup (λ other. is_eq (cmp k other)) entries ≡ value_at cmp first (λ entry. Some entry.1) None entries k
  says [] k = refl
  says (e ∷ es) k = search (rules, eq_by_cmp_equiv, says es k)

  -- the entry of the key has its number
  pub at_place : (entries : List (K × ℕ)) (k : K) (place : ℕ) (d : K × ℕ) → IsPlace cmp first entries k place
      → lookup (λ other. is_eq (cmp k other)) entries ≡ Some (get_or entries place d).1
  at_place entries k place d p = search (rules, says, value_there)

  -- a key that would stand in a gap has none
  pub in_gap : (entries : List (K × ℕ)) (k : K) (place : ℕ) → IsGap cmp first entries k place
      → lookup (λ other. is_eq (cmp k other)) entries ≡ None
  in_gap entries k place gap = says entries k ∙ at_gap cmp total first (λ entry. Some entry.1) None entries k place gap

  -- an entry with the key is at its place
  pub stands : (entries : List (K × ℕ)) (k : K) (place : ℕ) → are_ascending cmp (map first entries) ≡ true
      → place < length entries → HoldsAt (λ entry. cmp (first entry) k ≡ Equal) entries place
      → IsPlace cmp first entries k place
  stands entries k place ascending within same =
      (searched cmp total first entries k (Ok place) ascending within same).found

  -- a key above the last one would stand at the end
  pub after_last : (entries : List (K × ℕ)) (k : K) (last : K × ℕ) (place : ℕ)
      → are_ascending cmp (map first entries) ≡ true → place + 1 ≡ length entries → last ≡ get_or entries place last
      → cmp (first last) k ≡ Less → IsGap cmp first entries k (length entries)
  after_last entries k last place ascending end is below =
      (searched cmp total first entries k (Err (length entries)) ascending (omega arith) (λ rise. (
        λ i d low lt. least_index (cmp (first (get_or entries i d)) k) (rises rise i d lt),
        λ i d high lt. absurd (omega (arith, high, lt)),
      ))).absent
    where
      rises : IsNonDecreasingBy (λ entry. ordering_index (cmp (first entry) k)) entries → (i : ℕ) (d : K × ℕ)
          → i < length entries → ordering_index (cmp (first (get_or entries i d)) k) ≤ ordering_index Less
      rises rise i d lt =
          let there : get_or entries place d ≡ last = search (rules, get_or_default) in
          subst (λ o. ordering_index (cmp (first (get_or entries i d)) k) ≤ ordering_index o)
          (ap (λ e. cmp (first e) k) there ∙ below) (rise i place d (omega (arith, lt, end)) (omega (arith, end)))

  -- a key that has no number gets one in the list
  pub in_list : (old new : Numbers K) (k : K) (number place : ℕ) → IsGap cmp first old.listed.items k place
      → new.listed.items ≡ insert old.listed.items place (k, number) → new.later ≡ old.later → (q : K)
      → number_in (λ other. is_eq (cmp q other)) new
      ≡ cond (is_eq (cmp k q)) (Some number) (number_in (λ other. is_eq (cmp q other)) old)
  in_list old new k number place gap items later q =
      let was = lookup (λ other. is_eq (cmp q other)) old.listed.items in
      let late = lookup (λ other. is_eq (cmp q other)) old.later.entries in
      let none = in_gap old.listed.items k place gap in
      ap₂ (λ es ls. option_or (lookup (λ other. is_eq (cmp q other)) es)
      (lookup (λ other. is_eq (cmp q other)) ls.entries)) items later ∙ ap (λ found. option_or found late)
      (lookup-insert (eq_by_cmp_equiv total) k number q old.listed.items place
      (none_passes_from_lookup (λ other. is_eq (cmp k other)) old.listed.items none))
      ∙ either (is_eq (cmp k q)) (Some number) was late refl
    where
      either : (b : Bool) (one was late : Option ℕ) → is_some one ≡ true
          → option_or (cond b one was) late ≡ cond b one (option_or was late)
      either true (Some n) was late is = refl
      either true None was late is = cc is
      either false one was late is = refl

  -- and the list keeps its order
  pub in_order : (old new : Numbers K) (k : K) (number place : ℕ) → IsGap cmp first old.listed.items k place
      → new.listed.items ≡ insert old.listed.items place (k, number) → AreInOrder cmp old → AreInOrder cmp new
  in_order old new k number place gap items order =
      grind (
        arith,
        common_steps,
        ascending_insert_at cmp total first old.listed.items k place gap (
          k,
          number,
        ) ((eq_by_cmp_equiv total).refl k) order,
        eq_by_cmp_equiv total,
      )

  -- or it gets one in the map
  pub in_map : (old new : Numbers K) (k : K) (number place : ℕ) → IsGap cmp first old.listed.items k place
      → new.listed.items ≡ old.listed.items → (q : K) → lookup (λ other. is_eq (cmp q other)) new.later.entries
      ≡ cond (is_eq (cmp k q)) (Some number) (lookup (λ other. is_eq (cmp q other)) old.later.entries)
      → number_in (λ other. is_eq (cmp q other)) new
      ≡ cond (is_eq (cmp k q)) (Some number) (number_in (λ other. is_eq (cmp q other)) old)
  in_map old new k number place gap items q later =
      grind (arith, common_steps, eq_by_cmp_equiv total, in_gap old.listed.items k place gap, lookup_agrees)
