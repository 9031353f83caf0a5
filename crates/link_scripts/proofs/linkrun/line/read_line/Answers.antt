use Rattle.link_scripts.proofs.Common.{rules, ap, arith}
use Rattle.link_scripts.proofs.Reading.{one_line, front_of_known, front_of_long_known}
use Rattle.link_scripts.proofs.linkrun.line.read_line.Goals as goal

pub returns-then-len-gt-MOST_BYTES-clause-one_line : goal.returns-then-len-gt-MOST_BYTES-clause-one_line
returns-then-len-gt-MOST_BYTES-clause-one_line g c =
    one_line c.read_until.new.buf.items _ c.cut_end-end.result (search rules) c.cut_end-end.ensures

pub returns-else-len-gt-MOST_BYTES-clause-one_line : goal.returns-else-len-gt-MOST_BYTES-clause-one_line
returns-else-len-gt-MOST_BYTES-clause-one_line g c =
    one_line c.read_until.new.buf.items _ c.cut_end-end.result (search rules) c.cut_end-end.ensures

pub returns-then-len-gt-MOST_BYTES-clause-front : goal.returns-then-len-gt-MOST_BYTES-clause-front
returns-then-len-gt-MOST_BYTES-clause-front g c =
    front_of_long_known _ (g.B.Read.remaining c.take-front.result.inner.now) _ _ _ _
    (ap (λ inner. g.B.Read.remaining inner.now) c.take-front.ensures.inner)
    c.take-front.ensures.limit c.clear.ensures.items c.in_ok-read_until.ensures.bytes c.cut_end-end.result
    c.cut_end-end.ensures

pub returns-else-len-gt-MOST_BYTES-clause-front : goal.returns-else-len-gt-MOST_BYTES-clause-front
returns-else-len-gt-MOST_BYTES-clause-front g c =
    front_of_known _ (g.B.Read.remaining c.take-front.result.inner.now) _ _ _ _
    (ap (λ inner. g.B.Read.remaining inner.now) c.take-front.ensures.inner) c.take-front.ensures.limit
    c.clear.ensures.items
    c.in_ok-read_until.ensures.bytes c.cut_end-end.result c.cut_end-end.ensures (omega (arith, c.len.ensures))
