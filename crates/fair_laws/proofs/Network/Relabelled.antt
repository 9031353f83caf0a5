-- Flows that stand at other places: where each flow of a list is one of another list, and the sides go together, so do
-- the fair rates.
use Rattle.fair_laws.proofs.Common.{rules, ◌≡◌, ℕ, ◌*◌, ◌<◌, ◌≤◌, List, Contains, sym, ap, ◌∙◌, arith, All-contains}
use Rattle.fair_laws.proofs.Common.{Side, load, IsLimited, IsFair, HaveUsersBelow, IsRateOf, Rate, Unlimited, Finite}
use Rattle.fair_laws.proofs.Common.{All-from_contains}
use Rattle.fairness.specs.Fairness.Fair.{HasBottleneck}

-- `of` says which old flow a new one is. A new side is an old one: its cap and its load are the same, and its users are
-- those of the new flows that use the old side
pub record IsTheSide (of : ℕ → ℕ) (flows : ℕ) (old new : Side) : Type 0 where
  pub cap : new.cap ≡ old.cap
  pub loads : (parts : ℕ → ℕ) → load parts old ≡ load (λ flow. parts (of flow)) new
  pub used : (flow : ℕ) → Contains new.users flow → Contains old.users (of flow)
  pub back : (flow : ℕ) → flow < flows → Contains old.users (of flow) → Contains new.users flow

pub record AreRelabelled (of : ℕ → ℕ) (flows : ℕ) (olds news : List Side) : Type 0 where
  pub below : HaveUsersBelow flows news
  pub there : (old : Side) → Contains olds old → (new : Side) × Contains news new × IsTheSide of flows old new
  pub from : (new : Side) → Contains news new → (old : Side) × Contains olds old × IsTheSide of flows old new

module _ (of : ℕ → ℕ) (flows : ℕ) (olds news : List Side) (are : AreRelabelled of flows olds news) where
  is_flow : (flow : ℕ) → IsLimited news flow → flow < flows
  is_flow flow (side, uses) = search (rules, All-contains)

  pub old_limited : (flow : ℕ) → IsLimited news flow → IsLimited olds (of flow)
  old_limited flow (side, uses) =
      let old = are.from side uses.listed in
      (old.0, record { listed = old.1; used = old.2.used flow uses.used })

  pub new_limited : (flow : ℕ) → flow < flows → IsLimited olds (of flow) → IsLimited news flow
  new_limited flow inside (side, uses) =
      let new = are.there side uses.listed in
      (new.0, record { listed = new.1; used = new.2.back flow inside uses.used })

  -- a flow has the rate of the old one that it is
  pub rate_on : (per : ℕ) (parts : ℕ → ℕ) (flow : ℕ) (rate : Rate) → flow < flows → IsRateOf olds per parts (of flow) rate
      → IsRateOf news per (λ f. parts (of f)) flow rate
  rate_on per parts flow Unlimited inside none = λ limited. none (old_limited flow limited)
  rate_on per parts flow (Finite ratio) inside (limited, worth) = (new_limited flow inside limited, worth)

  module _ (per : ℕ) (parts : ℕ → ℕ) (fair : IsFair olds per parts) where
    held : (flow : ℕ) → IsLimited news flow → HasBottleneck news per (λ f. parts (of f)) flow
    held flow limited =
        let b = fair.held (of flow) (old_limited flow limited) in
        let new = are.there b.side b.uses.listed in
        record {
          side = new.0;
          uses = record { listed = new.1; used = new.2.back flow (is_flow flow limited) b.uses.used };
          full = sym (new.2.loads parts) ∙ b.full ∙ ap (λ cap. cap * per) (sym new.2.cap);
          greatest = All-from_contains (λ other. parts (of other) ≤ parts (of flow)) new.0.users (λ other has.
              All-contains (λ o. parts o ≤ parts (of flow)) b.side.users (of other) b.greatest (new.2.used other has));
        }

    pub relabelled_fair : IsFair news per (λ f. parts (of f))
    relabelled_fair = record {
      some_part = fair.some_part;
      within = All-from_contains (λ side. load (λ f. parts (of f)) side ≤ side.cap * per) news (λ side listed.
          let old = are.from side listed in
          let small = All-contains (λ s. load parts s ≤ s.cap * per) olds old.0 fair.within old.1 in
          omega (arith, small, old.2.loads parts, ap (λ cap. cap * per) old.2.cap));
      held = held;
    }

    pub relabelled_rate : (flow : ℕ) (rate : Rate) → flow < flows → IsRateOf olds per parts (of flow) rate
        → IsRateOf news per (λ f. parts (of f)) flow rate
    relabelled_rate flow Unlimited inside none = λ limited. none (old_limited flow limited)
    relabelled_rate flow (Finite ratio) inside (limited, worth) = (new_limited flow inside limited, worth)
