-- Lists of calls.
use Rattle.std.specs.Prelude.{ℕ, List, [], ◌∷◌, true, Some, None}
use Rattle.p2p_simulated.specs.Calls.State.{sent}
use Rattle.p2p_simulated.specs.Simulation.Calls.{Call, call_limit, call_enqueue, call_advance}

-- peer 1 is limited, sends a message to peer 2, and time goes on
abbrev pub one_message : ℕ → List ℕ → ℕ → List (Call ℕ)
one_message cap message time =
    call_limit 0 1 (Some cap) None
    ∷ call_enqueue 0 (sent 1 2 0 message 0 true)
    ∷ call_advance time
    ∷ []
