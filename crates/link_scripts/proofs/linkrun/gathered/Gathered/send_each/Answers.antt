use Rattle.link_scripts.proofs.Common.{◌≡◌, ◌≤◌, ℕ, ◌+◌, false, List, [], ◌∷◌, ◌++◌, length, get_or, take, sym, ap, ◌∙◌}
use Rattle.link_scripts.proofs.Common.{subst, take_all, take_more, Outgoing, Call, PrintsInTurn, zeroed_sends}
use Rattle.link_scheduler.specs.declared.call.Call.TheVariants as calls
use Rattle.link_scripts.proofs.InTurn.{sends-append, one_printed}
use Rattle.link_scripts.proofs.Saying.{says_same_on, says_same_after_call}
use Rattle.link_scripts.proofs.linkrun.gathered.Gathered.send_each.Goals as goal

-- what stands past the end of a list of messages
abbrev past_end : Outgoing ℕ ℕ
past_end = record { origin = 0; recipient = 0; channel = 0; message = 0; latency = 0; should_deliver = false }

pub loop-one-preserved : goal.loop-one-preserved
loop-one-preserved g c =
    let now = c.args.self.now.moment in
    let messages = c.args.self.now.messages.items in
    let i = c.loop-one.one-index in
    let m = get_or c.deref-one-items.result.now i past_end in
    let more : take (i + 1) messages ≡ take i messages ++ m ∷ [] =
    subst (λ (ms : List (Outgoing ℕ ℕ)). take (i + 1) ms ≡ take i ms ++ m ∷ []) c.deref-one-items.ensures.value
    (take_more c.deref-one-items.result.now i past_end c.loop-one-test.true) in
    record {
      said =
          says_same_on c.args.session.now c.loop-one.session c.perform.new.self c.loop-one.invariant.said
          (says_same_after_call c.loop-one.session c.perform.new.self c.perform.result c.perform.ensures.done
          c.perform.ensures.kept);
      printed =
          subst
          (λ (sends : List (Call ℕ)). PrintsInTurn sends c.args.session.now (g.W.Write.contents c.args.output.now)
          c.perform.new.self (g.W.Write.contents c.print.new.output))
          (sym (ap (zeroed_sends now) more ∙ sends-append now (take i messages) m))
          (one_printed c.loop-one.session c.perform.new.self (g.W.Write.contents c.loop-one.output)
          (g.W.Write.contents c.print.new.output) c.args.session.now (g.W.Write.contents c.args.output.now)
          (zeroed_sends now (take i messages))
          (calls.Enqueue now m.origin m.recipient m.channel m.message m.latency m.should_deliver)
          c.loop-one.invariant.printed c.perform.result c.perform.ensures.answer c.perform.ensures.kept
          c.perform.ensures.refused c.in_ok-print.ensures.answered c.in_ok-print.ensures.refused);
    }

pub returns-clause-printed : goal.returns-clause-printed
returns-clause-printed g c =
    let messages = c.args.self.now.messages.items in
    let all : length messages ≤ c.loop-one.one-index =
    subst (λ (ms : List (Outgoing ℕ ℕ)). length ms ≤ c.loop-one.one-index) c.deref-one-items.ensures.value
    c.loop-one-test.false in
    subst
    (λ (ms : List (Outgoing ℕ ℕ)). PrintsInTurn (zeroed_sends c.args.self.now.moment ms) c.args.session.now
    (g.W.Write.contents c.args.output.now) c.loop-one.session (g.W.Write.contents c.loop-one.output))
    (take_all c.loop-one.one-index messages all) c.loop-one.invariant.printed
