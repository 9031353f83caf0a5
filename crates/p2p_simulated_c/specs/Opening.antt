-- What opening a handle leads to.
use Rattle.std.specs.Prelude.{◌≡◌, ◌⊎◌, ℕ, [], Option, Some, None}
use Rattle.link_scheduler.specs.Calls.State.{IsNew}
use Rattle.p2p_simulated_c.specs.declared.opened.Opened.{Opened}

-- a scheduler at its start, at moment 0, which has completed nothing, with status 0; or none, with that of too little
-- memory
abbrev pub IsOpened : ℕ → ℕ → Option Opened → Type 0
IsOpened first_id status there =
    ((status ≡ 0) × (opened : Opened) × (there ≡ Some opened)
    × IsNew opened.state first_id × (opened.completed.items ≡ []) × (opened.last ≡ 0))
    ⊎ ((status ≡ 1) × (there ≡ None))
