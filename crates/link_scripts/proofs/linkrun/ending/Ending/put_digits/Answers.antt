use Rattle.link_scripts.proofs.Common.{◌≡◌, ◌+◌, ◌-◌, ◌<◌, arith, rules, length}
use Rattle.std.proofs.lemmas.Fmt.{decimal_digit, length-decimal-le}
use Rattle.std.proofs.lemmas.List.{drop-set}
use Rattle.link_scripts.proofs.linkrun.ending.Ending.put_digits.Goals as goal

pub returns-then-number-lt10-clause-text : goal.returns-then-number-lt10-clause-text
returns-then-number-lt10-clause-text c =
    let old = c.args.self.now in
    let next : old.start - 1 + 1 ≡ old.start = omega arith in
    let within : old.start - 1 < length old.bytes = omega arith in
    rw (drop-set old.bytes (old.start - 1) (48 + c.args.number) within, next, decimal_digit c.args.number (omega arith))

pub write_digits-self-requires : goal.write_digits-self-requires
write_digits-self-requires c = (
  omega (arith, length-decimal-le 20 c.args.number (omega arith) (omega arith) c.ranges.number.fits),
  search rules,
)

pub returns-clause-room : goal.returns-clause-room
returns-clause-room c =
    omega (arith, length-decimal-le 20 c.args.number (omega arith) (omega arith) c.ranges.number.fits)
