use Rattle.std.proofs.Common.{◌≡◌, ◌-◌, ◌+◌, ◌++◌, ◌∷◌, [], take, replicate, ap, sym, ◌∙◌, arith, append_assoc}
use Rattle.std.proofs.lemmas.List.{take_more_set, replicate_more}
use Rattle.undo_list.proofs.journal.set_from.Goals as goal

pub loop-at-preserved : goal.loop-at-preserved
loop-at-preserved c =
    let items = c.loop-at.saved.items in
    let at = c.loop-at.at in
    let from = c.args.from in
    let front = take from c.args.saved.now.items in
    let more : at + 1 - from ≡ at - from + 1 = omega arith in
    record {
      long = c.loop-at.invariant.long;
      clear = take_more_set items at c.args.flag (omega arith)
          ∙ ap (λ l. l ++ c.args.flag ∷ []) c.loop-at.invariant.clear
          ∙ append_assoc front (replicate (at - from) c.args.flag) (c.args.flag ∷ [])
          ∙ ap (λ l. front ++ l) (replicate_more (at - from) c.args.flag)
          ∙ ap (λ n. front ++ replicate n c.args.flag) (sym more);
    }
