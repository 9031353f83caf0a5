use Rattle.std.proofs.Common.{◌≡◌, true, false, refl, arith}
use Rattle.link_console.proofs.Badness.{command_is_not_bad}
use Rattle.link_console.proofs.why.is_bad.Goals as goal

pub returns-in-Some : goal.returns-in-Some
returns-in-Some c =
    let says = (c.in-Some.ensures c.in-Some._command).0 refl in (
      λ e. let no : false ≡ true = e in absurd cc,
      λ bad. absurd
          (command_is_not_bad c.args.line.now c.in-Some._command says.0 says.1 (omega arith) bad),
    )
