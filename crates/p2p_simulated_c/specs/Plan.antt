-- What a plan is: flows and caps as C lists them, and what is answered for them.
use Rattle.std.specs.Prelude.{◌≡◌, ◌⊎◌, ℕ, ◌==◌, ◌&&◌, cond, List, [], ◌∷◌, map, Option, Some, None}
use Rattle.std.specs.Ordering.{nat_cmp}
use Rattle.fairness.specs.Sides.Caps.{Caps}
use Rattle.fairness.specs.Fairness.UnderCaps.{IsFairById}
use Rattle.fairness.specs.Fairness.Rates.{HasDifferentRates, or_else}
use Rattle.fairness.specs.Refusals.ErrorTexts.{refusal_number}
use Rattle.fairness.specs.Refusals.TooLarge.{AreTooLarge}
use Rattle.fairness.specs.declared.bandwidth.Flow.{Flow}
use Rattle.fairness.specs.declared.bandwidth.Rate.{Rate}
use Rattle.fairness.specs.declared.bandwidth.Rate.TheVariants.{Unlimited, Finite}
use Rattle.fairness.specs.declared.error.Error.{Error}
use Rattle.fairness.specs.declared.error.Error.TheVariants.{OutOfMemory, NumberTooLarge}
use Rattle.p2p_simulated_c.specs.declared.records.LinkCap.{LinkCap}
use Rattle.p2p_simulated_c.specs.declared.records.PeerCap.{PeerCap}
use Rattle.p2p_simulated_c.specs.declared.records.PlanFlow.{PlanFlow}
use Rattle.p2p_simulated_c.specs.declared.records.PlanRate.{PlanRate}
use Rattle.p2p_simulated_c.specs.Records.{is_set, value_of, wide_of}
use Rattle.p2p_simulated_c.specs.Written.{written}

-- the flow of a record
abbrev pub flow_of : PlanFlow → Flow ℕ
flow_of f = record { id = f.id; origin = f.origin; recipient = f.recipient; delivered = is_set f.delivered }

-- the cap of a peer: that of the last record for it, and none where there is no record
abbrev pub peer_cap : List PeerCap → ℕ → Option ℕ
peer_cap [] peer = None
peer_cap (c ∷ caps) peer = or_else (peer_cap caps peer) (cond (c.peer == peer) (Some (value_of c.cap)) None)

-- the cap of what goes from one peer to another: that of the last record for both
abbrev pub link_cap : List LinkCap → ℕ → ℕ → Option ℕ
link_cap [] origin recipient = None
link_cap (c ∷ caps) origin recipient = or_else (link_cap caps origin recipient)
    (cond ((c.origin == origin) && (c.recipient == recipient)) (Some (value_of c.cap)) None)

-- the caps of three lists of records: on what is sent, on what is received, and on what goes from one peer to another
abbrev pub caps_of_records : List PeerCap → List PeerCap → List LinkCap → Caps ℕ
caps_of_records egress ingress links = record {
  egress = peer_cap egress;
  ingress = peer_cap ingress;
  link = link_cap links;
}

-- the record of a rate
abbrev pub record_of_rate : Option Rate → PlanRate
record_of_rate None = record { numerator = wide_of 0; denominator = wide_of 1; is_limited = 0 }
record_of_rate (Some Unlimited) = record { numerator = wide_of 0; denominator = wide_of 1; is_limited = 0 }
record_of_rate (Some (Finite ratio)) = record {
  numerator = wide_of ratio.numerator;
  denominator = wide_of ratio.denominator;
  is_limited = 1;
}

-- ---- what is answered

-- the rates by id are max-min fair under the caps, and there were as many rounds of filling as there are different
-- finite rates
pub record IsPlan (caps : Caps ℕ) (flows : List (Flow ℕ)) (rate_by : ℕ → Option Rate) (rounds : ℕ) : Type 0 where
  pub fair : IsFairById nat_cmp caps flows rate_by
  pub different : HasDifferentRates fair.rates rounds

-- a plan is refused for want of memory, or because a fair rate is no fraction of 128 bits
abbrev pub MayRefusePlan : Caps ℕ → List (Flow ℕ) → Error → Type 0
MayRefusePlan caps flows why = (why ≡ OutOfMemory) ⊎ ((why ≡ NumberTooLarge) × AreTooLarge nat_cmp caps flows)

-- the records of the flows' rates, in the order of the flows
abbrev pub rates_of : List PlanFlow → (ℕ → Option Rate) → List PlanRate
rates_of flows rate_by = map (λ f. record_of_rate (rate_by f.id)) flows

-- with status 0 the rates were written; with another it was refused for the cause of that number, and nothing was
-- written
abbrev pub IsPlanned : Caps ℕ → List PlanFlow → ℕ → ℕ → List PlanRate → List PlanRate → Type 0
IsPlanned caps flows status rounds old new =
    ((status ≡ 0) × (rate_by : ℕ → Option Rate) × IsPlan caps (map flow_of flows) rate_by rounds
    × (new ≡ written (rates_of flows rate_by) old))
    ⊎ ((why : Error) × (status ≡ refusal_number why) × MayRefusePlan caps (map flow_of flows) why × (new ≡ old)
    × (rounds ≡ 0))
