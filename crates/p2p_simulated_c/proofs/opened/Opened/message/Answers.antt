use Rattle.p2p_simulated_c.proofs.Common.{◌≡◌, [], length, min, drop, ap, sym, ◌∙◌, arith, drop_all, written}
use Rattle.std.proofs.Common.{slice_get}
use Rattle.std.proofs.lemmas.Option.{slice_get_past, slice_get_read}
use Rattle.p2p_simulated_c.specs.Completions.{completed_bytes}
use Rattle.p2p_simulated_c.proofs.Copying.{none_written}
use Rattle.p2p_simulated_c.proofs.opened.Opened.message.Goals as goal

pub returns-then-index-len-clause-written : goal.returns-then-index-len-clause-written
returns-then-index-len-clause-written c =
    let items = c.args.self.now.completed.items in
    let long : c.len.result ≡ length items = c.len.ensures ∙ c.args.self.now.completed.ok.0 in
    let past = slice_get_past items c.args.index (omega (arith, long, c.if-index-len.true)) in
    none_written _ c.args.out.now
    (ap (λ o. drop c.args.from (completed_bytes o)) past ∙ drop_all c.args.from [] (omega arith))

-- what is copied is what the completion has
copied : (c : goal.After-slice_known-2-1)
    → c.index.result.now.message ≡ completed_bytes (slice_get c.args.self.now.completed.items c.args.index)
copied c =
    let items = c.args.self.now.completed.items in
    let long : c.len.result ≡ length items = c.len.ensures ∙ c.args.self.now.completed.ok.0 in
    sym
    (ap completed_bytes
    (slice_get_read items c.len.result c.args.index c.index.result.now long c.if-index-len.false c.index.ensures))

pub returns-clause-count : goal.returns-clause-count
returns-clause-count c =
    c.copy_contents.ensures.count
    ∙ ap (λ bytes. min (length (drop c.args.from bytes)) (length c.args.out.now)) (copied c)

pub returns-clause-written : goal.returns-clause-written
returns-clause-written c =
    c.copy_contents.ensures.written ∙ ap (λ bytes. written (drop c.args.from bytes) c.args.out.now) (copied c)
