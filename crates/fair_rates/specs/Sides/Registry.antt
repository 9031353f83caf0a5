-- Registering: the sides that have come into being while flow after flow asks for them.
use Rattle.std.specs.Prelude.{◌≡◌, ◌↔◌, ℕ, ◌<◌, true, cond, ◌&&◌, List, [], ◌∷◌, ◌++◌}
use Rattle.std.specs.Prelude.{Option, Some, map, length, vec_len}
use denote.Ref.{Bor}
use Rattle.std.specs.Ordering.{ordering_then}
use Rattle.std.specs.List.{HoldsAt}
use Rattle.std.specs.declared.cmp.Ordering.{Ordering}
use Rattle.fairness.specs.Sides.Subjects.{Subject, sent_by, received_by, sent_between, Ask, same_peer, same_subject}
use Rattle.fairness.specs.Sides.Subjects.{is_open, opened, sides_after}
use Rattle.fair_rates.specs.Sides.SideOf.{side_of}
use Rattle.fairness.specs.Lists.Sorted.{IsGap}
use Rattle.fair_rates.specs.Sides.Numbers.{number_in, AreInOrder}
use Rattle.fair_rates.specs.declared.bandwidth.sides.Registry.{Registry}
use Rattle.fair_rates.specs.declared.bandwidth.sides.Side as declared_side
use Rattle.fair_rates.specs.declared.bandwidth.sides.Subject as declared
use Rattle.fair_rates.specs.declared.bandwidth.sides.Subject.TheVariants.{SentBy, ReceivedBy, SentBetween}

-- a subject in the code
abbrev pub subject_of : {P : Type 0} → declared.Subject P → Subject P
subject_of (SentBy p) = sent_by p.now
subject_of (ReceivedBy p) = received_by p.now
subject_of (SentBetween p q) = sent_between p.now q.now

module _ {P : Type 0} (cmp : P → P → Ordering) where
  -- the subjects of the sides that come into being with the later ones, after the earlier ones
  abbrev pub subjects_after : List (Ask P) → List (Ask P) → List (Subject P)
  subjects_after earlier [] = []
  subjects_after earlier (a ∷ later) =
      map (λ side. a.subject) (cond (is_open cmp earlier a) [] (opened cmp a later a.answer))
      ++ subjects_after (a ∷ earlier) later

  -- how the peers of two links stand to each other
  abbrev pub link_cmp : Bor P × Bor P → Bor P × Bor P → Ordering
  link_cmp a b = ordering_then (cmp a.0.now b.0.now) (cmp a.1.now b.1.now)

  -- the number that the registry has for a subject
  abbrev pub number_of : Registry P → Subject P → Option ℕ
  number_of registry (sent_by p) = number_in (λ other. same_peer cmp p other.now) registry.senders
  number_of registry (received_by p) = number_in (λ other. same_peer cmp p other.now) registry.receivers
  number_of registry (sent_between p q) =
      number_in (λ other. same_peer cmp p other.0.now && same_peer cmp q other.1.now) registry.links

  -- the new registry has that number for the subject, and for the others what the old one has
  abbrev pub HasNumber : Subject P → ℕ → Registry P → Registry P → Type 0
  HasNumber s n old new =
      (other : Subject P) → number_of new other ≡ cond (same_subject cmp s other) (Some n) (number_of old other)

  -- that number is the place of the subject in the list
  pub record IsNumberOf (subjects : List (Subject P)) (s : Subject P) (number : ℕ) : Type 0 where
    pub within : number < length subjects
    pub same : HoldsAt (λ other. same_subject cmp s other ≡ true) subjects number

  -- the sides are those that the asks make, and each is found by its subject
  pub record AreRegistered (asks : List (Ask P)) (sides : List declared_side.Side)
      (number : Subject P → Option ℕ) : Type 0 where
    pub sides_are : map side_of sides ≡ sides_after cmp [] asks
    pub numbers_are : (s : Subject P) (n : ℕ) → (number s ≡ Some n) ↔ IsNumberOf (subjects_after [] asks) s n

  -- numbers are found by the order of their peers
  abbrev pub IsInOrder : Registry P → Type 0
  IsInOrder registry = record {
    senders : AreInOrder (λ a b. cmp a.now b.now) registry.senders;
    receivers : AreInOrder (λ a b. cmp a.now b.now) registry.receivers;
    links : AreInOrder link_cmp registry.links;
  }

  -- the subject would have its number at that place
  abbrev pub IsGapFor : Registry P → declared.Subject P → ℕ → Type 0
  IsGapFor registry (SentBy p) place =
      IsGap (λ a b. cmp a.now b.now) (λ entry. entry.0) registry.senders.listed.items p place
  IsGapFor registry (ReceivedBy p) place =
      IsGap (λ a b. cmp a.now b.now) (λ entry. entry.0) registry.receivers.listed.items p place
  IsGapFor registry (SentBetween p q) place =
      IsGap link_cmp (λ entry. entry.0) registry.links.listed.items (p, q) place

  -- so it is in the registry
  pub record IsRegistryOf (asks : List (Ask P)) (registry : Registry P) : Type 0 where
    pub registered : AreRegistered asks registry.sides.items (number_of registry)
    pub order : IsInOrder registry

  -- a number that the registry finds is that of a side
  pub record FindsSides (registry : Registry P) : Type 0 where
    pub within : (s : Subject P) (n : ℕ) → number_of registry s ≡ Some n → n < vec_len registry.sides
    pub order : IsInOrder registry

-- these asks were made after those before
pub record Registers {P : Type 0} (cmp : P → P → Ordering) (more : List (Ask P)) (old new : Registry P) : Type 0 where
  pub asked : (asks : List (Ask P)) → IsRegistryOf cmp asks old → IsRegistryOf cmp (asks ++ more) new
  pub finds : FindsSides cmp new
