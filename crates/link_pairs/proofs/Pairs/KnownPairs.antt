-- What is known of pairs by their numbers.
use Rattle.std.proofs.Common.{◌≡◌, ℕ, true, ◌<◌, ◌≤◌, if◌then◌else◌, List, [], ◌∷◌, length, replicate, slice_set}
use Rattle.std.proofs.Common.{slice_get, Option, Some, None, refl, sym, ap, subst, ◌∙◌, arith}
use mathlib.Core.Path.{fun_ext}
use Rattle.std.specs.Cmp.{IsTotalOrder}
use Rattle.std.specs.Option.{option_and_then}
use Rattle.std.specs.Ordering.{is_eq}
use Rattle.std.specs.declared.cmp.Ordering.{Ordering}
use Rattle.std.proofs.lemmas.List.Elements.{All-head, All-tail, All-append, All-replicate}
use Rattle.std.proofs.lemmas.Option.{slice_get_within}
use Rattle.undo_list.specs.Versions.{Versions}
use Rattle.fairness.proofs.Lists.Sorted.{either}
use Rattle.fairness.specs.Lists.Sorted.{value_at}
use Rattle.link_simulation.specs.Simulation.Messages.{with_link, PairsAlike}
use Rattle.peer_numbers.specs.Pairs.{number_of_pair, is_pair_of, IsWithPair}
use Rattle.peer_numbers.proofs.OrderedPairs.{number_of_pair-is, number_below}
use Rattle.link_pairs.specs.declared.known_pairs.Known.{Known}
use Rattle.link_pairs.specs.Pairs.Entries.{Pair, pair_cmp, key_of, known_by_pair, AreInNumbers, HaveNoCap}
use Rattle.link_pairs.specs.Pairs.Room.{IsFilledUp, IsStillKnown}
use Rattle.link_pairs.proofs.Pairs.ByNumber.{said, entries_of, entries_of-more, value_by_number, value_filled, value_set}
use Rattle.link_pairs.proofs.Pairs.ByNumber.{IsGrown, grown, grown_length, filled_within}
use Rattle.link_pairs.proofs.Pairs.Entries.{parts_alike, link_again}
use Rattle.link_pairs.proofs.Pairs.PairOrder.{pair_total, is_eq-then}

module _ {P : Type 0} where
  abbrev pub entry : P × P → Known → Pair P
  entry pair one = record { key = pair; cap = one.cap; last_arrival = one.last_arrival }

  by_pair : (pairs : List (P × P)) (known : List Known) → known_by_pair pairs known ≡ entries_of entry pairs known
  by_pair [] known = refl
  by_pair (pair ∷ pairs) [] = refl
  by_pair (pair ∷ pairs) (one ∷ known) = ap (λ es. entry pair one ∷ es) (by_pair pairs known)

  -- a pair more changes nothing
  pub known_stay : (pairs new : List (P × P)) (known : List Known) → IsGrown pairs new → length known ≤ length pairs
      → known_by_pair new known ≡ known_by_pair pairs known
  known_stay pairs new known more few =
      by_pair new known
      ∙ ap (λ keys. entries_of entry keys known) more.is
      ∙ entries_of-more entry pairs more.more known few
      ∙ sym (by_pair pairs known)

-- a part of what is known of a pair
module _ {P : Type 0} (cmp : P → P → Ordering) (total : IsTotalOrder cmp) (value : Pair P → Option ℕ)
    (says : Known → Option ℕ) (is_value : (pair : P × P) (one : Known) → value (entry pair one) ≡ says one) where
  abbrev part_of : List (Pair P) → P → P → Option ℕ
  part_of entries o r = value_at (pair_cmp cmp) key_of value None entries (o, r)

  -- it stands by the number of the pair
  pub part_by_number : (pairs : List (P × P)) (known : List Known) (o r : P)
      → said says known (number_of_pair cmp pairs o r) ≡ part_of (known_by_pair pairs known) o r
  part_by_number pairs known o r =
      ap (said says known) (number_of_pair-is cmp pairs o r)
      ∙ sym
      (ap (λ es. part_of es o r) (by_pair pairs known)
      ∙ value_by_number (pair_cmp cmp) (pair_total cmp total) entry key_of (λ k i. refl) value says is_value pairs known
      (o, r))

  part_alike : (entries : List (Pair P)) → PairsAlike cmp (part_of entries) (part_of entries)
  part_alike entries = parts_alike cmp total value entries

  -- what is read by the number is what is known
  pub part_read : (pairs : List (P × P)) (known : List Known) (o r : P) (number : ℕ) (one : Known)
      → number_of_pair cmp pairs o r ≡ Some number → slice_get known number ≡ Some one
      → says one ≡ part_of (known_by_pair pairs known) o r
  part_read pairs known o r number one there is =
      sym (ap (option_and_then says) is) ∙ sym (ap (said says known) there) ∙ part_by_number pairs known o r

  -- room is made, for one pair more
  pub part_kept : (pairs new : List (P × P)) (known filled : List Known) (filler : Known) (number : ℕ) → IsGrown pairs new
      → length known ≤ length pairs → IsFilledUp known filler number filled → says filler ≡ None
      → part_of (known_by_pair new filled) ≡ part_of (known_by_pair pairs known)
  part_kept pairs new known filled filler number more few fill nothing =
      fun_ext (λ o.
      fun_ext (λ r.
      ap (λ es. part_of es o r) (by_pair new filled ∙ ap (entries_of entry new) fill.is)
      ∙ value_filled (pair_cmp cmp) (pair_total cmp total) entry key_of (λ k i. refl) value says is_value new known filler
      fill.count nothing (o, r)
      ∙ ap (λ es. part_of es o r) (sym (by_pair new known) ∙ known_stay pairs new known more few)))

  -- it is set
  pub part_set : (pairs : List (P × P)) (known : List Known) (o r : P) (number : ℕ) (one : Known)
      → number_of_pair cmp pairs o r ≡ Some number → number < length known
      → part_of (known_by_pair pairs (slice_set known number one))
      ≡ with_link cmp (part_of (known_by_pair pairs known)) o r (says one)
  part_set pairs known o r number one there within =
      fun_ext (λ p.
      fun_ext (λ q.
      ap (λ es. part_of es p q) (by_pair pairs (slice_set known number one))
      ∙ value_set (pair_cmp cmp) (pair_total cmp total) entry key_of (λ k i. refl) value says is_value pairs known (o, r)
      number one (sym (number_of_pair-is cmp pairs o r) ∙ there) within (p, q)
      ∙ ap (λ b. if b then says one else part_of (entries_of entry pairs known) p q) (is_eq-then (cmp o p) (cmp r q))
      ∙ ap (λ es. with_link cmp (part_of es) o r (says one) p q) (sym (by_pair pairs known))))

  -- it is set to what it was
  pub part_again : (pairs : List (P × P)) (known : List Known) (o r : P) (number : ℕ) (old one : Known)
      → number_of_pair cmp pairs o r ≡ Some number → slice_get known number ≡ Some old → says one ≡ says old
      → part_of (known_by_pair pairs (slice_set known number one)) ≡ part_of (known_by_pair pairs known)
  part_again pairs known o r number old one there is same =
      part_set pairs known o r number one there (slice_get_within known number old is)
      ∙ ap (with_link cmp (part_of (known_by_pair pairs known)) o r)
      (same ∙ part_read pairs known o r number old there is)
      ∙ link_again cmp total (part_of (known_by_pair pairs known)) (part_alike (known_by_pair pairs known)) o r

-- a pair comes to the end, if any does
pub pairs_grown : {P : Type 0} (cmp : P → P → Ordering) (pairs new : List (P × P)) (o r : P)
    → IsWithPair cmp pairs o r new → IsGrown pairs new
pairs_grown cmp pairs new o r with =
    grown pairs new (λ copy. is_pair_of cmp o r copy ≡ true) (number_of_pair cmp pairs o r) with

-- ---- where no pair has a cap

-- none is told
pub no_link : {P : Type 0} (cmp : P → P → Ordering) (pairs : List (P × P)) (known : List Known) (o r : P)
    → HaveNoCap known → None ≡ value_at (pair_cmp cmp) key_of (λ pair. pair.cap) None (known_by_pair pairs known) (o, r)
no_link cmp [] known o r h = refl
no_link cmp (pair ∷ pairs) [] o r h = refl
no_link cmp (pair ∷ pairs) (one ∷ known) o r h =
    either (λ cap. None ≡ cap) (is_eq (pair_cmp cmp pair (o, r))) (sym (All-head (λ one. one.cap ≡ None) one known h))
    (no_link cmp pairs known o r (All-tail (λ one. one.cap ≡ None) one known h))

-- what has none may come to the end
pub no_cap_filled : (known filled : List Known) (filler : Known) (number : ℕ) → IsFilledUp known filler number filled
    → filler.cap ≡ None → HaveNoCap known → HaveNoCap filled
no_cap_filled known filled filler number fill nothing h =
    subst HaveNoCap (sym fill.is)
    (All-append (λ one. one.cap ≡ None) known (replicate fill.count filler) h
    (All-replicate (λ one. one.cap ≡ None) fill.count filler nothing))

-- ---- with a number and room for a pair the same is known

module _ {P : Type 0} (cmp : P → P → Ordering) (total : IsTotalOrder cmp) where
  pub still_known : (pairs new : List (P × P)) (known : Versions Known) (filled : Versions Known) (o r : P) (number : ℕ)
      (filler : Known) → AreInNumbers pairs known → IsWithPair cmp pairs o r new
      → number_of_pair cmp new o r ≡ Some number → IsFilledUp known.items filler number filled.items
      → filler.cap ≡ None → filler.last_arrival ≡ None → filled.before ≡ known.before
      → IsStillKnown cmp pairs known new filled
  still_known pairs new known filled o r number filler few with there fill no_cap no_last before =
      let more = pairs_grown cmp pairs new o r with in
      let longer = grown_length pairs new more in
      record {
        link =
            part_kept cmp total (λ pair. pair.cap) (λ one. one.cap) (λ k i. refl) pairs new known.items filled.items filler
            number more few.now fill no_cap;
        arrival =
            part_kept cmp total (λ pair. pair.last_arrival) (λ one. one.last_arrival) (λ k i. refl) pairs new known.items
            filled.items filler number more few.now fill no_last;
        before = ap (known_by_pair new) before ∙ known_stay pairs new known.before more few.before;
        numbers = record {
          now =
              filled_within known.items filled.items filler number (length new) fill (omega (arith, few.now))
              (number_below cmp new o r number there);
          before = omega (arith, few.before, ap length before);
        };
        no_cap_now = no_cap_filled known.items filled.items filler number fill no_cap;
        no_cap_before = λ h. subst HaveNoCap (sym before) h;
      }
