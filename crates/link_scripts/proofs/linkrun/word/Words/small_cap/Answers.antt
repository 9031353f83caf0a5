use Rattle.link_scripts.proofs.Common.{rules}
use Rattle.link_scripts.proofs.Columns.{narrow_cap, wide_cap, no_cap}
use Rattle.link_scripts.proofs.linkrun.word.Words.small_cap.Goals as goal

pub returns-in_err-cap : goal.returns-in_err-cap
returns-in_err-cap c = rw c.from_residual.ensures (no_cap _ _ c.in_err-cap.ensures)

pub returns-in_err-ok-in-Some : goal.returns-in_err-ok-in-Some
returns-in_err-ok-in-Some c =
    rw c.from_residual-in_err-ok-in-Some.ensures (wide_cap _ _ c.in-Some.cap (search rules) (search rules))

pub returns-in-None : goal.returns-in-None
returns-in-None c = narrow_cap _ _ _ (search rules) tt

pub returns-in_ok-ok-in-Some : goal.returns-in_ok-ok-in-Some
returns-in_ok-ok-in-Some c = narrow_cap _ _ _ (search rules) (search rules)
