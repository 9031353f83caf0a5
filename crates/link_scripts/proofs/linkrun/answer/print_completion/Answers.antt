use Rattle.link_scripts.proofs.Common.{◌≡◌, ◌∙◌, subst, OnOk, Appends, completed_of, done_line}
use Rattle.link_scripts.proofs.Printing.{done_from_end}
use Rattle.link_scripts.proofs.linkrun.answer.print_completion.Goals as goal

pub returns : goal.returns
returns g c =
    let line : c.as_slice.result.now ≡ done_line (completed_of c.args.completion.now) =
    done_from_end c.args.completion.now _ _ _ _ _ _ _ _ c.len.ensures.value c.new-line.ensures.text
    c.put_moment.ensures.text c.put_number.ensures.text c.put_number-2.ensures.text c.put_number-3.ensures.text
    c.put_number-4.ensures.text (c.as_slice.ensures ∙ c.put_word.ensures.text) in
    subst
    (λ bytes. OnOk c.write_all.result
    (Appends (g.W.Write.contents c.args.output.now) (g.W.Write.contents c.write_all.new.self) bytes))
    line c.write_all.ensures.bytes
