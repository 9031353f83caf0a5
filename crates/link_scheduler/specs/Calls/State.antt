-- How a scheduler is read, and what its calls promise.
use Rattle.std.specs.Prelude.{◌≡◌, ℕ, ◌+◌, ◌*◌, ◌≤◌, ◌⊎◌, Option}
use Rattle.std.specs.Prelude.{List, [], ◌∷◌, ◌++◌, length, map}
use Rattle.std.specs.declared.cmp.Ord.{Ghosts}
use Rattle.std.specs.declared.cmp.Ordering.{Ordering}
use Rattle.fairness.specs.declared.error.Error.{Error}
use Rattle.link_scheduler.specs.declared.transmitter.State.{State}
use Rattle.link_pairs.specs.declared.completion.Completion.{Completion}
use Rattle.link_events.specs.declared.outgoing.Outgoing.{Outgoing}
pub use Rattle.link_events.specs.Steps.Outgoing.{sent, outgoing, outgoing_by}
use Rattle.link_simulation.specs.Laws.Conserved.{IsConserved}
use Rattle.link_pairs.specs.Pairs.Messages.{completed_by}
use Rattle.link_simulation.specs.Rule.SamePlanned.{GoesByRule, AdvancesByRule}
use Rattle.link_simulation.specs.Rule.Simulated.{IsSimulated, KeepsRange, IsRefusedInSimulation, IsNextInSimulation}
use Rattle.link_simulation.specs.Rule.Simulated.{IsSplitAnywhere, KeepsToCaps}
use Rattle.link_events.specs.Steps.AsPlanned.{planned, HasNothingDue}
use Rattle.link_simulation.specs.Simulation.World.{Completed, new_world}
use Rattle.link_simulation.specs.Simulation.Calls.{Call, call_enqueue}
use Rattle.link_simulation.specs.Laws.PairCompletions.{enqueued}
use Rattle.link_simulation.specs.Rule.Planned.{Planned, IsRated, new_planned, next_event}
use Rattle.link_simulation.specs.Rule.Range.{IsInRange}
use Rattle.link_simulation.specs.Rule.Refusals.{MayBeRefused}
use Rattle.link_simulation.specs.Rule.StandsFor.{StandsFor}

-- the calls that send those messages at that moment, one after another; what they have stands for those bytes
abbrev pub sends_by : {P M : Type 0} → (M → List ℕ) → ℕ → List (Outgoing P M) → List (Call P)
sends_by bytes now messages = map (λ m. call_enqueue now m) (map (outgoing_by bytes) messages)

-- and where they have the bytes
abbrev pub sends : {P : Type 0} → ℕ → List (Outgoing P (List ℕ)) → List (Call P)
sends now messages = sends_by (λ bytes. bytes) now messages

module _ {P : Type 0} (cmp : P → P → Ordering) where
  -- a call that is made leads from the planned world p to q, with those completions
  pub record Makes (p : Planned P) (call : Call P) (completions : List (Completed P)) (q : Planned P) : Type 0 where
    -- by the event rule, at any moments
    pub by_rule : GoesByRule cmp p call completions q
    -- and in its turn as the simulation does
    pub simulated : IsSimulated cmp p call completions q
    -- no message is lost and none is doubled
    pub conserved : ∥ IsConserved cmp p (enqueued (call ∷ [])) completions q ∥₁
    -- what is in flight has its fair rate, under the caps as they are now
    pub rated : ∥ IsRated cmp q ∥₁
    -- in the range it stays there
    pub in_range : KeepsRange cmp p call q

  -- a call on the planned world p is refused
  pub record Refuses (p : Planned P) (call : Call P) (why : Error) : Type 0 where
    -- as the event rule allows, at any moments
    pub by_rule : MayBeRefused cmp p call why
    -- and in its turn as the simulation allows; in the range for memory alone
    pub simulated : IsRefusedInSimulation cmp p call why

  -- calls that are made one after another lead from the planned world p to q, with those completions in their order
  abbrev pub MakesEach : Planned P → List (Call P) → List (Completed P) → Planned P → Type 0
  MakesEach p [] completions q = (completions ≡ []) × (q ≡ p)
  MakesEach p (call ∷ calls) completions q =
      (first rest : List (Completed P)) × (between : Planned P) × (completions ≡ first ++ rest)
      × Makes p call first between × MakesEach between calls rest q

  -- of calls one after another, the first ones can be made so, and the next one is then refused
  abbrev pub RefusesOne : Planned P → List (Call P) → Error → Type 0
  RefusesOne p [] why = ⊥
  RefusesOne p (call ∷ calls) why =
      Refuses p call why
      ⊎ ((first : List (Completed P)) × (between : Planned P) × Makes p call first between
      × RefusesOne between calls why)

-- ---- of schedulers

module _ {P M : Type 0} {order : Ghosts P} {b : _} {c : _} where
  -- the planned world that a scheduler is read as
  abbrev pub planned_of : State P M order b c → Planned P
  planned_of s = planned order.cmp s.ledger

  -- nothing is limited and nothing was sent; flow ids begin at `first`
  pub record IsNew (s : State P M order b c) (first : ℕ) : Type 0 where
    pub planned : planned_of s ≡ new_planned first
    -- it stands for the new world of the simulation
    pub stands : StandsFor order.cmp (planned_of s) (new_world first)
    pub in_range : IsInRange (planned_of s)

  -- the call was made, and answered so, where what comes back of messages stands for those bytes
  abbrev pub IsMadeBy : (M → List ℕ) → State P M order b c → Call P → List (Completion P M) → State P M order b c
      → Type 0
  IsMadeBy bytes old call done new =
      Makes order.cmp (planned_of old) call (map (completed_by bytes) done) (planned_of new)

  -- the call may be refused so
  abbrev pub IsRefused : State P M order b c → Call P → Error → Type 0
  IsRefused s call why = Refuses order.cmp (planned_of s) call why

  -- the calls were made one after another, and answered so in all
  abbrev pub AreMadeBy : (M → List ℕ) → State P M order b c → List (Call P) → List (Completion P M)
      → State P M order b c → Type 0
  AreMadeBy bytes old calls done new =
      MakesEach order.cmp (planned_of old) calls (map (completed_by bytes) done) (planned_of new)

  -- of the calls one after another, some one may be refused so
  abbrev pub IsOneRefused : State P M order b c → List (Call P) → Error → Type 0
  IsOneRefused s calls why = RefusesOne order.cmp (planned_of s) calls why

  -- what else an advance promises: to advance to any moment on the way, and then on, is the same, and no origin sends
  -- more than its cap lets go
  pub record IsAdvancedBy (bytes : M → List ℕ) (old : State P M order b c) (now : ℕ) (done : List (Completion P M))
      (new : State P M order b c) : Type 0 where
    pub split : IsSplitAnywhere order.cmp (planned_of old) now (map (completed_by bytes) done) (planned_of new)
    pub within_caps : KeepsToCaps order.cmp (planned_of old) now (planned_of new)

  -- the advance went through so many events: at most two for each message that waited, and one for each in flight
  pub record IsCountedBy (bytes : M → List ℕ) (old : State P M order b c) (now : ℕ) (events : ℕ)
      (done : List (Completion P M)) (new : State P M order b c) : Type 0 where
    pub by_rule :
        AdvancesByRule order.cmp now (planned_of old) events (map (completed_by bytes) done) (planned_of new)
    pub few : events ≤ 2 * length (planned_of old).waiting + length (planned_of old).sending

  -- no event is due up to that moment, and no waiting message may start at it
  abbrev pub IsQuietUntil : ℕ → State P M order b c → Type 0
  IsQuietUntil now s = HasNothingDue order.cmp (planned_of s) now

  -- that is the moment of the next event: the planned one, and the simulation's
  pub record IsNextOf (s : State P M order b c) (next : Option ℕ) : Type 0 where
    pub planned : next ≡ next_event (planned_of s)
    pub simulated : IsNextInSimulation order.cmp (planned_of s) next

  -- how many of the messages in flight were rated anew at the last account, as they were counted
  abbrev pub rated_at_last : State P M order b c → ℕ
  rated_at_last s = s.ledger.flights.rated_anew

-- ---- of schedulers whose messages are bytes

module _ {P : Type 0} {order : Ghosts P} {b : _} {c : _} where
  -- the call was made, and answered so
  abbrev pub IsMade : State P (List ℕ) order b c → Call P → List (Completion P (List ℕ))
      → State P (List ℕ) order b c → Type 0
  IsMade old call done new = IsMadeBy (λ bytes. bytes) old call done new

  -- the calls were made one after another, and answered so in all
  abbrev pub AreMade : State P (List ℕ) order b c → List (Call P) → List (Completion P (List ℕ))
      → State P (List ℕ) order b c → Type 0
  AreMade old calls done new = AreMadeBy (λ bytes. bytes) old calls done new

  -- what else an advance promises
  abbrev pub IsAdvanced : State P (List ℕ) order b c → ℕ → List (Completion P (List ℕ))
      → State P (List ℕ) order b c → Type 0
  IsAdvanced old now done new = IsAdvancedBy (λ bytes. bytes) old now done new

  -- the advance went through so many events
  abbrev pub IsCounted : State P (List ℕ) order b c → ℕ → ℕ → List (Completion P (List ℕ))
      → State P (List ℕ) order b c → Type 0
  IsCounted old now events done new = IsCountedBy (λ bytes. bytes) old now events done new
