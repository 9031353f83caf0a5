-- The caps of a flow alone.
use Rattle.std.specs.Prelude.{ℕ, Bool, Option, Some, None, cond, min}
use Rattle.fairness.specs.declared.bandwidth.FlowCaps.{FlowCaps}

-- the less of two caps, where None stands for no cap
abbrev pub least_of : Option ℕ → Option ℕ → Option ℕ
least_of None other = other
least_of (Some cap) None = Some cap
least_of (Some cap) (Some other) = Some (min cap other)

-- the least cap that holds for the flow, of which that on what its recipient receives holds if it is delivered
abbrev pub least_cap_of : FlowCaps → Bool → Option ℕ
least_cap_of caps delivered = least_of (least_of caps.egress (cond delivered caps.ingress None)) caps.link
