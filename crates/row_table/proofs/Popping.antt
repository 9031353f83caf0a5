-- What is kept beside the slots, once the last slot is empty and gone.
use Rattle.row_table.proofs.Common.{common_steps, rules, ◌≡◌, ℕ, suc, ◌-◌, List, [], ◌∷◌, ◌++◌, Option, Some, None}
use Rattle.row_table.proofs.Common.{false, IsSome, is_some, length, take, refl, subst, ap, ◌∙◌, arith, live, held}
use Rattle.row_table.proofs.Common.{filled_from, sender_of, receiver_of, Finds, Stands, Row, Parts, append-nil}
use Rattle.row_table.proofs.Common.{length-append, get_or-map, Index}
use Rattle.std.specs.Option.{option_to_list}
use Rattle.std.specs.Prelude.{slice_set}
use Rattle.std.proofs.lemmas.List.{set-get_or, take-set-le, take_all, take-map, get_or-set_same}
use Rattle.std.proofs.Math.Seq.{take-append_seam}
use Rattle.chains.specs.Chains.{owner_of}
use Rattle.row_table.proofs.Slots.{filled_more, live_append}

pub none_there : {A : Type 0} (o : Option A) → is_some o ≡ false → o ≡ None
none_there None e = refl
none_there (Some a) e = cc

module _ {T : Type 0} where
  -- an empty slot is emptied
  pub found_empty : (index : Index) (slots : List (Option (Row T))) (slot : ℕ) → Finds index slots → held slots slot ≡ None
      → Finds index (slice_set slots slot None)
  found_empty index slots slot found none = search (rules, set-get_or)

  -- the last slot is listed last, if it holds a row
  pub filled_last : (slots : List (Option (Row T))) (slot : ℕ) (one : Option (Row T)) → length slots ≡ suc slot
      → held slots slot ≡ one → filled_from slots 0 ≡ filled_from (take slot slots) 0 ++ filled_from (one ∷ []) slot
  filled_last slots slot one long is = search (rules, take_all, filled_more)

  pub filled_none : (slots : List (Option (Row T))) (slot : ℕ) → length slots ≡ suc slot → held slots slot ≡ None
      → filled_from slots 0 ≡ filled_from (take slot slots) 0
  filled_none slots slot long none = filled_last slots slot None long none ∙ append-nil (filled_from (take slot slots) 0)

  filled_one : (slots : List (Option (Row T))) (slot : ℕ) (one : Option (Row T)) → length slots ≡ suc slot
      → held slots slot ≡ one → IsSome one → filled_from slots 0 ≡ filled_from (take slot slots) 0 ++ slot ∷ []
  filled_one slots slot None long is some = cc
  filled_one slots slot (Some row) long is some = filled_last slots slot (Some row) long is

  -- where the last slot holds a row, all but the last listed are those before it
  pub filled_rest : (slots : List (Option (Row T))) (slot : ℕ) (filled : List ℕ) → length slots ≡ suc slot
      → IsSome (held slots slot) → filled ≡ filled_from slots 0
      → take (length filled - 1) filled ≡ filled_from (take slot slots) 0
  filled_rest slots slot filled long some is =
      let before : List ℕ = filled_from (take slot slots) 0 in
      let same : filled ≡ before ++ slot ∷ [] = is ∙ filled_one slots slot (held slots slot) long refl some in
      let more = ap length same ∙ length-append before (slot ∷ []) in
      let one : length filled - 1 ≡ length before = omega (arith, more) in
      ap (λ long. take long filled) one ∙ ap (take (length before)) same ∙ take-append_seam before (slot ∷ [])

  -- what stood for an emptied slot
  pub sent_gone : (index : Index) (slots : List (Option (Row T))) (slot : ℕ) → Finds index (slice_set slots slot None)
      → length slots ≡ suc slot → owner_of index.sent.now slot ≡ None
  sent_gone index slots slot found long =
      grind (arith, common_steps, get_or-map sender_of (slice_set slots slot None) slot None, get_or-set_same)

  pub received_gone : (index : Index) (slots : List (Option (Row T))) (slot : ℕ) → Finds index (slice_set slots slot None)
      → length slots ≡ suc slot → owner_of index.received.now slot ≡ None
  received_gone index slots slot found long =
      grind (arith, common_steps, get_or-map receiver_of (slice_set slots slot None) slot None, get_or-set_same)

  -- without the emptied slot
  pub found_popped : (index new : Index) (slots : List (Option (Row T))) (slot : ℕ) → Finds index (slice_set slots slot None)
      → new.sent.now.stands ≡ take slot index.sent.now.stands
      → new.received.now.stands ≡ take slot index.received.now.stands
      → new.moments ≡ take slot index.moments → Finds new (take slot slots)
  found_popped index new slots slot found sent received moments = search (rules, take-set-le, take-map)

  pub live_last : (slots new : List (Option (Row T))) (one : Option (Row T)) → slots ≡ new ++ one ∷ []
      → live slots ≡ live new ++ live (one ∷ [])
  live_last slots new one is = ap (λ (slots : List (Option (Row T))). live slots) is ∙ live_append new (one ∷ [])

  -- the row of the last slot
  pub live_popped : (slots new : List (Option (Row T))) (one : Option (Row T)) → slots ≡ new ++ one ∷ []
      → live slots ≡ live new ++ option_to_list one
  live_popped slots new None is = live_last slots new None is
  live_popped slots new (Some row) is = live_last slots new (Some row) is

  -- without the last slot
  pub stands_popped : (popped new : Parts T) (slots : List (Option (Row T))) (slot : ℕ) (one : Option (Row T)) → length slots ≡ suc slot
      → slots ≡ new.slots.items ++ one ∷ [] → Finds popped.index (slice_set slots slot None)
      → popped.filled.items ≡ filled_from (take slot slots) 0 → new.filled.items ≡ popped.filled.items
      → new.index.sent.now.stands ≡ take slot popped.index.sent.now.stands
      → new.index.received.now.stands ≡ take slot popped.index.received.now.stands
      → new.index.moments ≡ take slot popped.index.moments → Stands new
  stands_popped popped new slots slot one long is found filled same sent received moments =
      let left : take slot slots ≡ new.slots.items =
      let more = ap length is ∙ length-append new.slots.items (one ∷ []) in
      let same : slot ≡ length new.slots.items = omega (arith, long, more) in
      ap (λ many. take many slots) same ∙ ap (take (length new.slots.items)) is ∙ take-append_seam new.slots.items (one ∷ []) in
      record {
        found = subst (Finds new.index) left (found_popped popped.index new.index slots slot found sent received moments);
        filled = same ∙ filled ∙ ap (λ (slots : List (Option (Row T))). filled_from slots 0) left;
      }
