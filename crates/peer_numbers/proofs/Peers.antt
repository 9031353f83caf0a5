-- Peers with numbers: what one more entry changes.
use Rattle.std.proofs.Common.{◌≡◌, ℕ, zero, suc, ◌≤◌, Bool, true, false, cond, List, [], ◌∷◌, ◌++◌, ◌⊎◌, inl, inr, length, slice_get}
use Rattle.std.proofs.Common.{eqb, Option, MatchOption, Some, None, refl, sym, ap, ap₂, subst, ◌∙◌, arith, length-append}
use mathlib.Core.Path.{fun_ext}
use Rattle.std.specs.Cmp.{IsTotalOrder}
use Rattle.std.specs.List.{position, position_or_len}
use Rattle.std.specs.Map.{lookup}
use Rattle.std.specs.Option.{option_or}
use Rattle.std.specs.declared.cmp.Ordering.{Ordering}
use Rattle.std.specs.declared.cmp.Ordering.TheVariants.{Less, Equal, Greater}
use Rattle.std.specs.Ordering.{is_eq}
use Rattle.std.proofs.lemmas.Grind.{common_steps}
use Rattle.std.proofs.lemmas.Bool.{eqb-false}
use Rattle.std.proofs.lemmas.Cmp.{eq_by_cmp_equiv, tied_back}
use Rattle.std.proofs.lemmas.List.Quantifiers.{position-Some}
use Rattle.fairness.proofs.Lists.Sorted.{is_eq_equal}
use Rattle.std.proofs.lemmas.List.Folds.{position_or_len_push}
use Rattle.std.proofs.lemmas.List.Sums.{prefix_len-le-length}
use Rattle.fairness.specs.Sides.Subjects.{same_peer}
use Rattle.peer_numbers.specs.Peers.{number_of, IsWithPeer, AreNumbered}

-- ---- places

pub position_push : {X : Type 0} (p : X → Bool) (xs : List X) (y : X)
    → position p (xs ++ y ∷ []) ≡ option_or (position p xs) (cond (p y) (Some (length xs)) None)
position_push p xs y =
    let small : position_or_len p xs ≤ length xs = prefix_len-le-length _ xs in
    rw (position_or_len_push, length-append) (grind (arith, common_steps, small))

or_none : {X : Type 0} (o : Option X) → option_or o None ≡ o
or_none None = refl
or_none (Some x) = refl

-- what stands at a place of a list with one more stood there before, or is that one
got_in_push : {X : Type 0} (xs : List X) (y : X) (i : ℕ) (x : X) → slice_get (xs ++ y ∷ []) i ≡ Some x
    → (slice_get xs i ≡ Some x) ⊎ ((i ≡ length xs) × (y ≡ x))
got_in_push [] y zero x h = inr (refl, cc)
got_in_push [] y (suc i) x h = absurd cc
got_in_push (z ∷ xs) y zero x h = inl h
got_in_push (z ∷ xs) y (suc i) x h =
    elim (got_in_push xs y i x h) [
      | inl there ↦ inl there
      | inr last ↦ inr (ap suc last.0, last.1)
    ]

-- ---- one more peer

module _ {P : Type 0} (cmp : P → P → Ordering) (total : IsTotalOrder cmp) where
  -- peers that are one have one number
  pub number_of-same : (peers : List P) (peer copy : P) → cmp copy peer ≡ Equal
      → number_of cmp peers copy ≡ number_of cmp peers peer
  number_of-same peers peer copy same =
      ap (λ test. position test peers) (fun_ext (λ other. ap is_eq (total.congr copy peer other same)))

  -- the number of a peer, once one more is there that had none
  number_of-push : (peers : List P) (copy other : P) → number_of cmp peers copy ≡ None
      → number_of cmp (peers ++ copy ∷ []) other
      ≡ cond (same_peer cmp copy other) (Some (length peers)) (number_of cmp peers other)
  number_of-push peers copy other none =
      position_push (same_peer cmp other) peers copy
      ∙ ap (λ b. option_or (number_of cmp peers other) (cond b (Some (length peers)) None)) ((eq_by_cmp_equiv total).symm other copy)
      ∙ by (cmp copy other) refl
    where
      by : (o : Ordering) → cmp copy other ≡ o
          → option_or (number_of cmp peers other) (cond (is_eq o) (Some (length peers)) None)
          ≡ cond (is_eq o) (Some (length peers)) (number_of cmp peers other)
      by Less h = or_none (number_of cmp peers other)
      by Greater h = or_none (number_of cmp peers other)
      by Equal h =
          ap (λ number. option_or number (Some (length peers))) (sym (number_of-same peers other copy h) ∙ none)

  -- and so it gets it
  pub number_of-last : (peers : List P) (peer copy : P) → number_of cmp peers peer ≡ None → cmp copy peer ≡ Equal
      → number_of cmp (peers ++ copy ∷ []) peer ≡ Some (length peers)
  number_of-last peers peer copy none same =
      number_of-push peers copy peer (number_of-same peers peer copy same ∙ none)
      ∙ ap (λ o. cond (is_eq o) (Some (length peers)) (number_of cmp peers peer)) same

  -- where it had none, it is there now
  pub with_peer : (peers : List P) (peer copy : P) → number_of cmp peers peer ≡ None → cmp copy peer ≡ Equal
      → IsWithPeer cmp peers peer (peers ++ copy ∷ [])
  with_peer peers peer copy none same =
      subst (λ (found : Option ℕ). MatchOption found
      ((one : P) × (same_peer cmp one peer ≡ true) × (peers ++ copy ∷ [] ≡ peers ++ one ∷ []))
      (λ number. peers ++ copy ∷ [] ≡ peers))
      (sym none) (copy, ap is_eq same, refl)

  -- two peers with numbers have one number just where they are one
  pub same_number : (peers : List P) (peer other : P) (number there : ℕ) → number_of cmp peers peer ≡ Some number
      → number_of cmp peers other ≡ Some there → eqb there number ≡ same_peer cmp peer other
  same_number peers peer other number there h k = by (cmp peer other) refl (eqb there number) refl
    where
      pointed : there ≡ number → cmp peer other ≡ Equal
      pointed e =
          let p = position-Some (same_peer cmp peer) peers number peer h in
          let q = position-Some (same_peer cmp other) peers number peer (k ∙ ap Some e) in
          total.congr peer _ other (is_eq_equal _ p.1) ∙ tied_back total other _ (is_eq_equal _ q.1)

      by : (o : Ordering) → cmp peer other ≡ o → (b : Bool) → eqb there number ≡ b → b ≡ is_eq o
      by Equal e true f = refl
      by Equal e false f = absurd (eqb-false there number f (cc (number_of-same peers other peer e)))
      by Less e false f = refl
      by Less e true f = cc (pointed (grind (arith, f)))
      by Greater e false f = refl
      by Greater e true f = cc (pointed (grind (arith, f)))

  -- one that has none is not one with a peer that has
  pub other_peer : (peers : List P) (peer other : P) (there : ℕ) → number_of cmp peers peer ≡ None
      → number_of cmp peers other ≡ Some there → same_peer cmp peer other ≡ false
  other_peer peers peer other there h k = by (cmp peer other) refl
    where
      by : (o : Ordering) → cmp peer other ≡ o → is_eq o ≡ false
      by Less e = refl
      by Greater e = refl
      by Equal e = cc (number_of-same peers other peer e)

-- a peer keeps its number
pub number_stays : {P : Type 0} (cmp : P → P → Ordering) (peers : List P) (peer : P) (new : List P)
    → IsWithPeer cmp peers peer new → (other : P) (number : ℕ) → number_of cmp peers other ≡ Some number
    → number_of cmp new other ≡ Some number
number_stays {P = P} cmp peers peer new with other number h = by (number_of cmp peers peer) with
  where
    by : (found : Option ℕ)
        → MatchOption found
        ((copy : P) × (same_peer cmp copy peer ≡ true) × (new ≡ peers ++ copy ∷ []))
        (λ number. new ≡ peers)
        → number_of cmp new other ≡ Some number
    by None w =
        ap (λ list. number_of cmp list other) w.2
        ∙ position_push (same_peer cmp other) peers w.0
        ∙ ap (λ found. option_or found (cond (same_peer cmp other w.0) (Some (length peers)) None)) h
    by (Some at) w = ap (λ list. number_of cmp list other) w ∙ h

module _ {P : Type 0} (cmp : P → P → Ordering) (total : IsTotalOrder cmp) where
  -- the next number goes to a peer that has none: a copy of it comes into the list, and another into the map
  pub more : (peers : List P) (entries new : List (P × ℕ)) (peer copy key : P) → AreNumbered cmp peers entries
      → number_of cmp peers peer ≡ None → cmp copy peer ≡ Equal → cmp key peer ≡ Equal
      → ((other : P) → lookup (same_peer cmp other) new
      ≡ cond (same_peer cmp key other) (Some (length peers)) (lookup (same_peer cmp other) entries))
      → AreNumbered cmp (peers ++ copy ∷ []) new
  more peers entries new peer copy key numbered none same same_key updated =
      let absent : number_of cmp peers copy ≡ None = number_of-same cmp total peers peer copy same ∙ none in
      let as_copy : (other : P) → same_peer cmp key other ≡ same_peer cmp copy other =
      λ other. ap is_eq (total.congr key peer other same_key ∙ sym (total.congr copy peer other same)) in
      record {
        found = λ other. updated other
            ∙ ap₂ (λ b number. cond b (Some (length peers)) number) (as_copy other) (numbered.found other)
            ∙ sym (number_of-push cmp total peers copy other absent);
        first = λ number other there. elim (got_in_push peers copy number other there) [
          | inl before ↦
              number_stays cmp peers peer (peers ++ copy ∷ []) (with_peer cmp total peers peer copy none same) other number
              (numbered.first number other before)
          | inr last ↦
              ap (number_of cmp (peers ++ copy ∷ [])) (sym last.1)
              ∙ number_of-last cmp total peers copy copy absent (is_eq_equal _ ((eq_by_cmp_equiv total).refl copy))
              ∙ ap Some (sym last.0)
        ];
      }

  -- a peer that stands at a place has that number, as others that are one with it
  pub number_there : (peers : List P) (entries : List (P × ℕ)) → AreNumbered cmp peers entries
      → (number : ℕ) (there peer : P) → slice_get peers number ≡ Some there → cmp there peer ≡ Equal
      → number_of cmp peers peer ≡ Some number
  number_there peers entries numbered number there peer got same =
      sym (number_of-same cmp total peers peer there same) ∙ numbered.first number there got
