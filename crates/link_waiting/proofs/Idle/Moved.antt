-- The moment from which on a pair at rest may start, as it is told from its last arrival.
use Rattle.link_waiting.proofs.Common.{◌≡◌, ℕ, true, false, ◌&&◌, if◌then◌else◌, cond, List, Option, Some, None, sym}
use Rattle.link_waiting.proofs.Common.{ap, ◌∙◌, Ordering, IsTotalOrder, and_from, same_peer, same_peer_itself, Message}
use Rattle.link_waiting.proofs.Common.{first_of, is_sending, first_moment, idle_from, RatedFlight, Pair, arrival_of}
use Rattle.link_waiting.proofs.Common.{raised_at, of_pairs}
use Rattle.std.specs.Prelude.{option_map}
use Rattle.link_simulation.specs.Simulation.World.{later_of}

module _ {P : Type 0} (cmp : P → P → Ordering) where
  -- where none of the pair is in flight, it is told by the latency of the first one that waits
  pub rested_is : (pairs : List (Pair P)) (ms : List (Message P)) (sending : List (RatedFlight P)) (o r : P)
      (last since : Option ℕ)
      → is_sending cmp (of_pairs cmp pairs ms sending) o r ≡ false
      → last ≡ arrival_of cmp pairs o r
      → since ≡ option_map (λ m. first_moment last m.latency) (first_of cmp ms o r)
      → since ≡ idle_from cmp (of_pairs cmp pairs ms sending) o r
  rested_is pairs ms sending o r last since free last_is told =
      told ∙ ap (λ (l : Option ℕ). option_map (λ (m : Message P). first_moment l m.latency) (first_of cmp ms o r)) last_is
      ∙ sym
      (ap
      (λ b. if b then None else option_map (λ (m : Message P). first_moment (arrival_of cmp pairs o r) m.latency)
      (first_of cmp ms o r))
      free)

  -- the last arrival, once it is raised
  pub raised_arrival : IsTotalOrder cmp → (pairs others : List (Pair P)) (o r : P) (at : ℕ) (last : Option ℕ) (later : ℕ)
      → last ≡ arrival_of cmp pairs o r
      → arrival_of cmp others ≡ raised_at cmp (arrival_of cmp pairs) o r at
      → later ≡ later_of last at
      → Some later ≡ arrival_of cmp others o r
  raised_arrival order pairs others o r at last later last_is raised later_is =
      let own : (same_peer cmp o o && same_peer cmp r r) ≡ true =
      and_from _ _ (same_peer_itself cmp order o) (same_peer_itself cmp order r) in
      let here : raised_at cmp (arrival_of cmp pairs) o r at o r ≡ Some (later_of (arrival_of cmp pairs o r) at) =
      ap
      (λ t. cond t (Some (later_of (arrival_of cmp pairs o r) at)) (arrival_of cmp pairs o r))
      own in
      ap Some (later_is ∙ ap (λ l. later_of l at) last_is) ∙ sym here
      ∙ sym (ap (λ (f : P → P → Option ℕ). f o r) raised)
