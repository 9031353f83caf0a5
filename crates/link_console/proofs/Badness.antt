-- When lines are not bad.
use Rattle.std.proofs.Common.{◌≡◌, ℕ, ◌≤◌, List, length, inl, inr, arith}
use Rattle.link_scripts.specs.BadLines.{IsBad}
use Rattle.link_scripts.specs.Script.{line_of, IsCommandInRange}
use Rattle.link_scripts.specs.declared.linkrun.command.Command.{Command}

pub command_is_not_bad : (line : List ℕ) (command : Command) → line ≡ line_of command → IsCommandInRange command
    → length line ≤ 256 → IsBad line → ⊥
command_is_not_bad line command says range short (inl long) = omega (arith, short, long)
command_is_not_bad line command says range short (inr none) = none.1 command range says
