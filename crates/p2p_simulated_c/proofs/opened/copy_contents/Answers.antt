use Rattle.p2p_simulated_c.proofs.Common.{◌≡◌, replicate, length, min, ◌+◌, ◌-◌, drop, ◌++◌, take, ap, ◌∙◌, arith}
use Rattle.p2p_simulated_c.proofs.Common.{length-take, length-append, length-replicate}
use Rattle.std.proofs.Common.{length-drop}
use Rattle.p2p_simulated_c.proofs.Copying.{zeros_written, drop_behind}
use Rattle.p2p_simulated_c.proofs.opened.copy_contents.Goals as goal

pub returns-clause-written : goal.returns-clause-written
returns-clause-written c =
    let bytes = c.given.result.now in
    let zeros = length c.args.contents.now - length bytes in
    let all : length c.args.contents.now ≡ length bytes + zeros =
    ap length c.given.ensures ∙ length-append bytes (replicate zeros 0)
    ∙ ap (λ n. length bytes + n) (length-replicate zeros 0) in
    let given = c.copy-given.result in
    let count = c.min-count.result in
    let front = drop c.args.from bytes in
    let more = zeros - (c.args.from - length bytes) in
    let so : length front ≡ length bytes - c.args.from = length-drop c.args.from bytes in
    let is_given : given ≡ min (length front) (length c.args.out.now) = c.copy-given.ensures.count in
    let is_count : count ≡ min (length front + more) (length c.args.out.now) =
    omega (arith, so, all, c.copy-given.auto.out, c.min-count.ensures, c.saturating_sub.ensures, c.len.ensures.value) in
    let long : length (take (count - given) (drop given c.copy-given.new.out)) ≡ count - given =
    length-take (count - given) (drop given c.copy-given.new.out)
    ∙ omega (arith, is_given, is_count, c.copy-given.auto.out, length-drop given c.copy-given.new.out) in
    rw (
      c.fill.ensures.after (λ y e. e) ∙ ap (λ n. replicate n 0) long,
      c.copy-given.ensures.written,
      ap (drop c.args.from) c.given.ensures ∙ drop_behind bytes zeros c.args.from,
    )
    (zeros_written front c.args.out.now more given count is_given is_count)
