use Rattle.link_scripts.proofs.Common.{◌≡◌, codes, arith, rules}
use Rattle.link_scripts.proofs.Wording.{one_byte, takes_no_cap}
use Rattle.link_scripts.proofs.linkrun.word.Words.cap.Goals as goal

pub returns-in-45 : goal.returns-in-45
returns-in-45 c =
    let word = c.in_ok-word.word.now in
    let dash : word ≡ codes "-" = one_byte word 45 (omega arith) (search rules) in
    takes_no_cap _ _ word (search rules) dash
