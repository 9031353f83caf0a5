-- Rows that come in anew, once those that stand in no chain are gone.
use Rattle.chains.proofs.Common.{◌≡◌, ℕ, suc, ◌+◌, ◌<◌, ◌≤◌, Option, Some, None, refl, sym, ap, ◌∙◌, subst, arith, List}
use Rattle.chains.proofs.Common.{[], ◌∷◌, length, map, take, replicate, slice_set, slice_index_or, false, length-map}
use Rattle.chains.proofs.Common.{map-set_same, Rows, owner_of, IsPlace, Table, link_of, end_of, no_end, Stands}
use Rattle.chains.proofs.Common.{with_next, added, rows_in, IsChained, Link, End}
use Rattle.std.proofs.Common.{zero, slice_get, filter, is_some, Bool, cond, true, rules}
use Rattle.std.proofs.lemmas.List.{get_or-take, take_more_set, length-take-le, get_or-replicate, length-replicate}
use Rattle.std.proofs.lemmas.List.{take_all}
use Rattle.std.proofs.lemmas.Option.{slice_get-get_or}
use Rattle.chains.specs.Chains.{without_gaps}
use Rattle.chains.specs.Tables.{relinked, AreFilled}
use Rattle.chains.proofs.Adding.{added_chained}
use Rattle.chains.proofs.Places.{some_same}
use Rattle.chains.proofs.Linking.{next_ends, prev_ends}
use Rattle.chains.proofs.Taking.{row_below, place_map, place_of_last}
use Rattle.chains.proofs.Views.{owner_in, next_stands, prev_stands, rows_are, owner_is}

-- the table as far as the rows below that one go
abbrev pub front : ℕ → Table → Table
front n t = record t { links = take n t.links }

take_set : {A : Type 0} (n : ℕ) (xs : List A) (i : ℕ) (x : A) → take n (slice_set xs i x) ≡ slice_set (take n xs) i x
take_set zero xs i x = refl
take_set (suc n) [] i x = refl
take_set (suc n) (y ∷ ys) zero x = refl
take_set (suc n) (y ∷ ys) (suc i) x = ap (λ l. y ∷ l) (take_set n ys i x)

front_next : (n : ℕ) (t : Table) (owner : ℕ) (place to : Option ℕ) → IsPlace (λ row. row < n) place
    → front n (with_next t owner place to) ≡ with_next (front n t) owner place to
front_next n t owner None to low = refl
front_next n t owner (Some at) to low = search (rules, take_set, get_or-take)

module _ (t : Table) (owner row : ℕ) (low : row < length t.links) where
  abbrev last : Option ℕ
  last = (end_of t owner).last

  abbrev new : Link
  new = record { owner = Some owner; next = None; prev = (end_of t owner).last }

  abbrev one : Table
  one = record t { links = slice_set t.links row new }

  long : length (take row t.links) ≡ row
  long = length-take-le row t.links (omega (arith, low))

  -- the rows so far, with one more
  pub front_more : IsPlace (λ n. n < row + 1) last → front (row + 1) (relinked t owner row) ≡ added (front row t) owner
  front_more there = search (rules, front_next, take_more_set, long)

  pub last_low : IsChained (front row t) → owner < length t.ends → IsPlace (λ n. n < row) last
  last_low chained within =
      place_map (Stands (front row t) owner) (λ n. n < row) last
      (λ n there. let below : n < length (take row t.links) = row_below (front row t) owner n there in omega (arith, below, long))
      (place_of_last (Stands (front row t) owner) (length (take row t.links)) last (chained.prev owner None within tt))

  -- it stands in the chain in which it stood
  pub rows_relinked : Stands t owner row → rows_in (relinked t owner row) ≡ rows_in t
  rows_relinked there = search (rules, rows_are, prev_stands, next_stands, map-set_same, prev_ends, next_ends)

-- no row yet
module _ (t : Table) (empty : t.ends ≡ replicate (length t.ends) no_end) where
  none_at : (owner : ℕ) → owner < length t.ends → end_of t owner ≡ no_end
  none_at owner within = search (rules, get_or-replicate)

-- ---- one row comes in

pub same_lengths : (s t : Table) → rows_in s ≡ rows_in t → (length s.links ≡ length t.links) × (length s.ends ≡ length t.ends)
same_lengths s t is = search (rules, length-map)

pub flag_set : (saved : List Bool) (n at : ℕ) → saved ≡ replicate n true → at < n → slice_get saved at ≡ Some true
flag_set saved n at is low =
    ap (λ flags. slice_get flags at) is
    ∙ slice_get-get_or (replicate n true) at true (omega (arith, low, length-replicate n true))
    ∙ ap (λ flag. Some flag) (get_or-replicate n at true true low)

module _ (start t : Table) (row : ℕ) (filled_in : AreFilled (rows_in start)) (rows : rows_in t ≡ rows_in start)
    (low : row < length start.links) where
  abbrev owner_there : (owner : ℕ) × (owner_of (rows_in start) row ≡ Some owner) × (owner < length start.ends)
  owner_there = filled_in row (omega (arith, low, length-map start.links owner_in))

  owner_read : (link_of t row).owner ≡ Some owner_there.0
  owner_read = sym (owner_is t row) ∙ ap (λ (all : Rows). owner_of all row) rows ∙ owner_there.1

  pub never_empty : (link_of t row).owner ≡ None → ⊥
  never_empty none = let e : None ≡ Some owner_there.0 = sym none ∙ owner_read in cc

  pub owner_within : (owner : ℕ) → Stands t owner row → owner < length t.ends
  owner_within owner there = search (rules, some_same, owner_read, same_lengths)

  pub row_within : row < length t.links
  row_within = omega (arith, low, (same_lengths t start rows).0)

  pub last_free : (owner n : ℕ) (saved : List Bool) → Stands t owner row → IsChained (front row t) → saved ≡ replicate n true
      → n ≡ length start.links → IsPlace (λ at. slice_get saved at ≡ Some true) (end_of t owner).last
  last_free owner n saved there chained is all = search (rules, place_map, flag_set, last_low, row_within, owner_within)

  pub one_more : (owner : ℕ) → Stands t owner row → IsChained (front row t) → IsChained (front (row + 1) (relinked t owner row))
  one_more owner there chained =
      subst IsChained (sym (front_more t owner row row_within
      (place_map (λ n. n < row) (λ n. n < row + 1) (end_of t owner).last (λ n less. omega (arith, less))
      (last_low t owner row row_within chained (owner_within owner there)))))
      (added_chained (front row t) owner chained (owner_within owner there))

  pub rows_still : (owner : ℕ) → Stands t owner row → rows_in (relinked t owner row) ≡ rows_in start
  rows_still owner there = rows_relinked t owner row row_within there ∙ rows

-- ---- the rows that stand in a chain

pub filled : (stands : List (Option ℕ)) (count : ℕ)
    → ((owner row : ℕ) → slice_index_or stands row None ≡ Some owner → owner < count)
    → (row : ℕ) → row < length (filter is_some stands)
    → (owner : ℕ) × (slice_index_or (filter is_some stands) row None ≡ Some owner) × (owner < count)
filled [] count owned row low = absurd (omega (arith, low))
filled (None ∷ more) count owned row low = filled more count (λ owner n. owned owner (suc n)) row low
filled (Some owner ∷ more) count owned zero low = (owner, refl, owned owner 0 refl)
filled (Some owner ∷ more) count owned (suc row) low = filled more count (λ owner n. owned owner (suc n)) row (omega (arith, low))

filter_cond : (b : Bool) (owner : Option ℕ) (link : Link) (links : List Link) → owner ≡ link.owner
    → map owner_in (cond b (link ∷ links) links) ≡ cond b (owner ∷ map owner_in links) (map owner_in links)
filter_cond true owner link links is = ap (λ o. o ∷ map owner_in links) (sym is)
filter_cond false owner link links is = refl

pub owners_kept : (links : List Link) → map owner_in (filter (λ (link : Link). is_some link.owner) links) ≡ filter is_some (map owner_in links)
owners_kept [] = refl
owners_kept (link ∷ more) = search (rules, filter_cond, owners_kept more)

pub gaps_closed : (t : Table) (links : List Link) (ends : List End) → links ≡ filter (λ (link : Link). is_some link.owner) t.links
    → ends ≡ replicate (length t.ends) no_end → rows_in (record { links = links; ends = ends }) ≡ without_gaps (rows_in t)
gaps_closed t links ends kept empty = search (rules, rows_are, owners_kept, length-replicate)

pub filled_without : (t s : Table) → IsChained t → rows_in s ≡ without_gaps (rows_in t) → AreFilled (rows_in s)
filled_without t s chained rows = subst AreFilled (sym rows)
    (filled (map owner_in t.links) (length t.ends) (λ owner row there. chained.owned owner row (sym (owner_is t row) ∙ there)))

-- all rows have come in
pub front_all : (t : Table) (row : ℕ) → length t.links ≤ row → front row t ≡ t
front_all t row past = ap (λ links. record t { links = links }) (take_all row t.links past)
