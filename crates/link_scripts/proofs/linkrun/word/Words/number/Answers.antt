use Rattle.link_scripts.proofs.Common.{ap, Some}
use Rattle.std.proofs.lemmas.Fmt.{decimal_injective}
use Rattle.link_scripts.proofs.linkrun.word.Words.number.Goals as goal

pub returns-in-Some : goal.returns-in-Some
returns-in-Some c =
    let taken = c.in-Some.ensures.taken in
    record {
      taken = taken;
      missed = λ n rest range said.
          ap Some (decimal_injective c.in-Some.number n taken.1 range (cc (taken.0, said)));
    }
