use Rattle.link_scripts.proofs.Common.{codes, refl}
use Rattle.link_scripts.proofs.Wording.{named_parts, says_all, says_less}
use Rattle.link_scripts.proofs.linkrun.command.Command.of_enqueue.Goals as goal

pub returns-in-None : goal.returns-in-None
returns-in-None c =
    says_all _ _ _ (named_parts (codes "enqueue") c.args.columns.now _ refl c.of-words.ensures) _
    c.take_enqueue-command.ensures c.in-None.ensures.none

pub returns-in-Some : goal.returns-in-Some
returns-in-Some c =
    says_less _ _ _ (named_parts (codes "enqueue") c.args.columns.now _ refl c.of-words.ensures) _
    c.in-Some.field-0.now _ c.take_enqueue-command.ensures c.in-Some.ensures.taken
