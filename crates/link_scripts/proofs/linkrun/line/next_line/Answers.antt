use Rattle.link_scripts.proofs.Common.{◌≡◌, ◌++◌, ◌∷◌, ◌+◌, drop, subst, rules, IsLineAhead}
use Rattle.std.proofs.Common.{IfSome}
use Rattle.std.specs.Io.Buffered.{reader_buffer}
use Rattle.link_scripts.proofs.Reading.{front_of_ahead}
use Rattle.link_scripts.proofs.linkrun.line.next_line.Goals as goal

pub returns-then-length-le-MOST_BYTES-clause-front : goal.returns-then-length-le-MOST_BYTES-clause-front
returns-then-length-le-MOST_BYTES-clause-front g c =
    let old = reader_buffer c.args.input.now in
    let ahead : IsLineAhead old c.in-Some.length =
    subst (λ a. IfSome a (IsLineAhead old)) c.in-Some.is c.requires in
    let cut : old ≡ c.extend_from_slice.new.self.items ++ 10 ∷ drop (c.in-Some.length + 1) old =
    search (rules, ahead.cut) in
    front_of_ahead _ _ _ _ _ cut
