use Rattle.link_scripts.proofs.Wording.{says_all, says_less}
use Rattle.link_scripts.proofs.linkrun.command.Command.of_words.Goals as goal

pub returns-in-None : goal.returns-in-None
returns-in-None c =
    says_all c.args.line.now _ _ c.of-words.ensures _ c.take-command.ensures c.in-None.ensures.none

pub returns-in-Some : goal.returns-in-Some
returns-in-Some c =
    says_less c.args.line.now _ _ c.of-words.ensures _ c.in-Some.field-0.now _ c.take-command.ensures
    c.in-Some.ensures.taken
