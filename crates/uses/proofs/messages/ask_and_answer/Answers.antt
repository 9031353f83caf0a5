use Rattle.std.proofs.Common.{[], ◌∷◌, true, map, sym, ap, ◌∙◌, subst}
use Rattle.std.proofs.Math.Logic.{∥∥₁_map₂}
use Rattle.std.proofs.lemmas.List.{map-append}
use Rattle.std.specs.Ordering.{nat_cmp}
use Rattle.p2p_simulated.specs.Laws.Conserved.{IsConserved}
use Rattle.p2p_simulated.specs.Pairs.Messages.{completed_of}
use Rattle.p2p_simulated.specs.Calls.State.{planned_of, sent}
use Rattle.uses.proofs.messages.ask_and_answer.Goals as goal

-- what each call conserves, one after the other
pub returns : goal.returns
returns c =
    let question = sent c.args.client c.args.server 0 c.args.question 0 true in
    let reply = sent c.args.server c.args.client 0 c.args.reply 0 true in
    let both =
    ap (map completed_of) c.in_ok-append.ensures.items
    ∙ map-append completed_of c.in_ok-done.done.items c.in_ok-more.more.items in
    record {
      conserved = ∥∥₁_map₂ c.in_ok-done.ensures.made.conserved c.in_ok-more.ensures.made.conserved (λ one two.
          subst
          (λ cs. IsConserved nat_cmp (planned_of c.args.state.now) (question ∷ reply ∷ []) cs
          (planned_of c.enqueue-2.new.self))
          (sym both)
          (c.calls_lose_no_message.ensures.on (planned_of c.args.state.now) (planned_of c.enqueue.new.self)
          (planned_of c.enqueue-2.new.self) (question ∷ []) (reply ∷ [])
          (map completed_of c.in_ok-done.done.items) (map completed_of c.in_ok-more.more.items) one two));
    }
