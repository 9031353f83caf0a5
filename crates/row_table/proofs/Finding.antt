-- What is kept beside the slots, where a row comes, changes or leaves.
use Rattle.row_table.proofs.Common.{common_steps, ◌≡◌, ℕ, ◌≤◌, List, [], ◌∷◌, ◌++◌, Option, Some, None, length, map}
use Rattle.row_table.proofs.Common.{refl, sym, ap, ◌∙◌, arith, subst, is_some, slice_set, filter, vec_capacity, live}
use Rattle.row_table.proofs.Common.{held, filled_from, sender_of, receiver_of, moment_of, Finds, Stands, Marked, Row}
use Rattle.row_table.proofs.Common.{Parts, Result, Ok, Err, option_map, rules, remove, length-map, with_item, Index}
use Rattle.std.proofs.Common.{OnOk}
use Rattle.std.proofs.lemmas.List.{map-set, map-append}
use Rattle.std.proofs.Math.Seq.{map-set_same}
use Rattle.row_table.proofs.Slots.{IsSlot, filled_append, filled_changed, filled_taken, some_same}

-- owners are those of rows that are there
owned_closed : {T : Type 0} (owner_in : Row T → ℕ) (slots : List (Option (Row T)))
    → filter is_some (map (option_map owner_in) slots) ≡ map (option_map owner_in) (map Some (live slots))
owned_closed owner_in [] = refl
owned_closed owner_in (None ∷ slots) = owned_closed owner_in slots
owned_closed owner_in (Some row ∷ slots) = ap (λ owners. Some (owner_in row) ∷ owners) (owned_closed owner_in slots)

module _ {T : Type 0} (index new : Index) (slots : List (Option (Row T))) (found : Finds index slots) where
  pub found_added : (row : Row T) → new.sent.now.stands ≡ index.sent.now.stands ++ Some row.sender ∷ []
      → new.received.now.stands ≡ index.received.now.stands ++ Some row.receiver ∷ []
      → new.moments ≡ index.moments ++ row.moment ∷ [] → Finds new (slots ++ Some row ∷ [])
  found_added row sent received moments = search (rules, map-append)

  pub found_taken : (slot : ℕ) → new.sent.now.stands ≡ slice_set index.sent.now.stands slot None
      → new.received.now.stands ≡ slice_set index.received.now.stands slot None
      → new.moments ≡ slice_set index.moments slot None → Finds new (slice_set slots slot None)
  found_taken slot sent received moments = search (rules, map-set)

  pub found_changed : (slot : ℕ) (other : Row T) → sender_of (held slots slot) ≡ Some other.sender
      → receiver_of (held slots slot) ≡ Some other.receiver → new.sent ≡ index.sent → new.received ≡ index.received
      → new.moments ≡ slice_set index.moments slot other.moment → Finds new (slice_set slots slot (Some other))
  found_changed slot other sender receiver sent received moments = search (rules, map-set_same, map-set)

  -- without gaps
  pub found_closed : new.sent.now.stands ≡ filter is_some index.sent.now.stands
      → new.received.now.stands ≡ filter is_some index.received.now.stands
      → new.moments ≡ map moment_of (map Some (live slots)) → Finds new (map Some (live slots))
  found_closed sent received moments = record {
    sent = sent ∙ ap (filter is_some) found.sent ∙ owned_closed (λ row. row.sender) slots;
    received = received ∙ ap (filter is_some) found.received ∙ owned_closed (λ row. row.receiver) slots;
    moments = moments;
  }

-- ---- the parts of a table

module _ {T : Type 0} where
  pub stands_added : (parts new : Parts T) (row : Row T) → Stands parts
      → new.slots.items ≡ parts.slots.items ++ Some row ∷ []
      → new.filled.items ≡ parts.filled.items ++ length parts.slots.items ∷ []
      → new.index.sent.now.stands ≡ parts.index.sent.now.stands ++ Some row.sender ∷ []
      → new.index.received.now.stands ≡ parts.index.received.now.stands ++ Some row.receiver ∷ []
      → new.index.moments ≡ parts.index.moments ++ row.moment ∷ [] → Stands new
  stands_added parts new row stands slots filled sent received moments = record {
    found = subst (Finds new.index) (sym slots) (found_added parts.index new.index parts.slots.items stands.found row sent received moments);
    filled = filled ∙ ap (λ filled. filled ++ length parts.slots.items ∷ []) stands.filled
        ∙ sym (filled_append parts.slots.items (Some row ∷ []) 0 (length parts.slots.items) (omega arith))
        ∙ ap (λ (slots : List (Option (Row T))). filled_from slots 0) (sym slots);
  }

  pub stands_taken : (parts new : Parts T) (at slot : ℕ) → Stands parts → IsSlot parts.slots.items at slot
      → new.slots.items ≡ slice_set parts.slots.items slot None → new.filled.items ≡ remove parts.filled.items at
      → new.index.sent.now.stands ≡ slice_set parts.index.sent.now.stands slot None
      → new.index.received.now.stands ≡ slice_set parts.index.received.now.stands slot None
      → new.index.moments ≡ slice_set parts.index.moments slot None → Stands new
  stands_taken parts new at slot stands is slots filled sent received moments =
      grind (
        arith,
        common_steps,
        found_taken parts.index new.index parts.slots.items stands.found slot sent received moments,
        filled_taken parts.slots.items 0,
      )

  pub stands_changed : (parts new : Parts T) (at slot : ℕ) (other : Row T) → Stands parts
      → IsSlot parts.slots.items at slot
      → sender_of (held parts.slots.items slot) ≡ Some other.sender
      → receiver_of (held parts.slots.items slot) ≡ Some other.receiver
      → new.slots.items ≡ slice_set parts.slots.items slot (Some other) → new.filled.items ≡ parts.filled.items
      → new.index.sent ≡ parts.index.sent → new.index.received ≡ parts.index.received
      → new.index.moments ≡ slice_set parts.index.moments slot other.moment → Stands new
  stands_changed parts new at slot other stands is sender receiver slots filled sent received moments =
      grind (
        arith,
        common_steps,
        found_changed parts.index new.index parts.slots.items stands.found slot other sender receiver sent received
            moments,
        filled_changed parts.slots.items 0,
      )

  -- where no slot is empty
  pub stands_whole : (new : Parts T) (rows : List (Row T)) → new.slots.items ≡ map Some rows
      → Finds new.index (map Some rows)
      → new.filled.items ≡ filled_from new.slots.items 0 → Stands new
  stands_whole new rows e found filled = record { found = subst (Finds new.index) (sym e) found; filled = filled }

  -- where a mark is set, it is as it stands
  pub marked_now : (parts new : Parts T) → Stands parts → new.slots.before ≡ parts.slots.items
      → new.index.sent.before ≡ parts.index.sent.now
      → new.index.received.before ≡ parts.index.received.now → new.index.moments ≡ parts.index.moments
      → length (live parts.slots.items) ≤ vec_capacity new.filled → Marked new
  marked_now parts new stands before sent received moments room = search (rules, length-map)

-- the row with its owners is the row as it was but for its item and its moment
pub with_owners : {T : Type 0} (held : Option (Row T)) (row : Row T) (item : T) (sender receiver : ℕ)
    (moment : Option ℕ)
    → held ≡ Some row → sender_of held ≡ Some sender → receiver_of held ≡ Some receiver
    → record { item = item; sender = sender; receiver = receiver; moment = moment } ≡ with_item item moment row
with_owners {T} held row item sender receiver moment e sent received = search (rules, some_same)

pub on_ok : {A E P : Type 0} (r : Result A E) → P → OnOk r P
on_ok (Ok a) p = p
on_ok (Err e) p = tt

pub on_all : {A E P Q R S : Type 0} (r : Result A E) → OnOk r P → OnOk r Q → OnOk r R → (P → Q → R → S) → OnOk r S
on_all (Ok a) p q r f = f p q r
on_all (Err e) p q r f = tt
