-- The sides that limit messages in flight, the rates that are fair for them, and how they drain.
use Rattle.std.specs.Prelude.{◌≡◌, ℕ, ◌+◌, ◌<◌, List, [], ◌∷◌, ◌++◌, Bool, not, ◌&&◌, ◌||◌}
use Rattle.std.specs.Prelude.{if◌then◌else◌, Option, Some, None, is_none}
use Rattle.std.specs.List.{flat_map}
use Rattle.std.specs.declared.cmp.Ordering.{Ordering}
use Rattle.fairness.specs.Numbers.Amount.{Amount, whole, reduced, drained}
use Rattle.fairness.specs.Fairness.Fair.{Side, IsFair}
use Rattle.fairness.specs.Sides.Subjects.{same_peer}
use Rattle.link_simulation.specs.Simulation.Messages.{Message, Caps, is_delivered}
use Rattle.fairness.specs.Lists.Places.{places_from}

-- the rates of messages in parts, so many of which are one byte a second; none is a rate without limit
abbrev pub Parts : Type 0
Parts = List (Option ℕ)

-- a rate in bytes a second, of so many parts, in lowest terms
abbrev pub rate_of : ℕ → Option ℕ → Option Amount
rate_of per None = None
rate_of per (Some parts) = Some (reduced parts per)

-- what is left after n nanoseconds at a rate: nothing at a rate without limit
abbrev pub drained_by : Option Amount → ℕ → Amount → Amount
drained_by None n left = whole 0
drained_by (Some rate) n left = drained left rate n

-- an amount over a number above zero, in lowest terms
pub record IsLowest (a : Amount) : Type 0 where
  pub positive : 0 < a.den
  pub lowest : reduced a.num a.den ≡ a

module _ {P : Type 0} (cmp : P → P → Ordering) where
  -- the side of this cap, if there is one, which those messages use that pass the test
  abbrev pub capped_side : Option ℕ → (Message P → Bool) → List (Message P) → List Side
  capped_side None uses messages = []
  capped_side (Some cap) uses messages = record { cap = cap; users = places_from 0 uses messages } ∷ []

  -- a message uses the egress of its origin, with all messages of that origin
  abbrev pub egress_side : Caps P → List (Message P) → Message P → List Side
  egress_side caps messages m = capped_side (caps.egress m.origin) (λ n. same_peer cmp m.origin n.origin) messages

  -- and if it is delivered the ingress of its recipient, with all messages that are delivered there
  abbrev pub ingress_side : Caps P → List (Message P) → Message P → List Side
  ingress_side caps messages m =
      capped_side (if is_delivered cmp m then caps.ingress m.recipient else None)
      (λ n. is_delivered cmp n && same_peer cmp m.recipient n.recipient) messages

  -- and the link of its pair, with all messages of the pair, delivered or dropped
  abbrev pub link_side : Caps P → List (Message P) → Message P → List Side
  link_side caps messages m =
      capped_side (caps.link m.origin m.recipient)
      (λ n. same_peer cmp m.origin n.origin && same_peer cmp m.recipient n.recipient) messages

  -- the capped sides that one message uses, at most three
  abbrev pub sides_for : Caps P → List (Message P) → Message P → List Side
  sides_for caps messages m = egress_side caps messages m ++ ingress_side caps messages m ++ link_side caps messages m

  -- the capped sides that the messages use; one that several use stands there for each
  abbrev pub capped_sides : Caps P → List (Message P) → List Side
  capped_sides caps messages = flat_map (sides_for caps messages) messages

  -- whether a message uses no capped side
  abbrev pub is_unlimited : Caps P → Message P → Bool
  is_unlimited caps m =
      is_none (caps.egress m.origin) && (not (is_delivered cmp m) || is_none (caps.ingress m.recipient))
      && is_none (caps.link m.origin m.recipient)

  -- the rate of each message: none without a capped side, and else the parts of its place, where the first has that
  -- place
  abbrev pub rates_from : Caps P → (ℕ → ℕ) → ℕ → List (Message P) → Parts
  rates_from caps parts place [] = []
  rates_from caps parts place (m ∷ ms) =
      (if is_unlimited caps m then None else Some (parts place)) ∷ rates_from caps parts (place + 1) ms

  -- these are the max-min fair rates of the messages under the caps, in parts of which so many are one byte a second
  pub record AreFair (caps : Caps P) (messages : List (Message P)) (per : ℕ) (rates : Parts) : Type 0 where
    pub parts : ℕ → ℕ
    pub fair : IsFair (capped_sides caps messages) per parts
    pub rated : rates ≡ rates_from caps parts 0 messages
