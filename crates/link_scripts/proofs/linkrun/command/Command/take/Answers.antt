use Rattle.link_scripts.proofs.Common.{rules, IsUtf8}
use Rattle.link_scripts.specs.Words.{words_left}
use Rattle.link_scripts.proofs.Wording.{takes_no_text}
use Rattle.link_scripts.proofs.linkrun.command.Command.take.Goals as goal

pub returns-in_err-ok : goal.returns-in_err-ok
returns-in_err-ok c =
    let word = c.in_ok-name.name.now in
    let no_text : ¬ (IsUtf8 word) = search rules in
    rw c.from_residual-in_err-ok.ensures
    (takes_no_text (words_left c.args.words.now) (words_left c.next.new.self) (words_left c.next.new.self) word
    c.in_ok-name.ensures.taken no_text)
