use Rattle.link_events.proofs.Common.{◌≡◌, ◌+◌, ◌<◌, List, [], ◌∷◌, ◌++◌, length, take, sym, ap, ◌∙◌, refl, subst}
use Rattle.link_events.proofs.Common.{arith, option_map, Arc, Global, map-append, Message, with_link, Planned, of_pairs}
use Rattle.link_events.proofs.Common.{first_moment, idle_from, AreAtRest, since_of, first_of, message_of, messages}
use Rattle.link_events.proofs.Common.{arrivals_looked_up, rested_is}
use Rattle.std.proofs.lemmas.List.{take_more}
use Rattle.link_pairs.specs.declared.message.Message as code
use Rattle.link_waiting.proofs.Idle.IndexChanges.{rests_more}
use Rattle.link_events.proofs.Steps.Landing.{since_taken, since_taken_first}
use Rattle.link_events.proofs.readiness.tell_all.Goals as goal
use Rattle.link_events.proofs.readiness.tell_all.Goals.{then-at-eq0, else-at-eq0}

pub loop-at-preserved : goal.loop-at-preserved
loop-at-preserved g c =
    let cmp = g.P.Ord.cmp in
    let known = c.args.pairs.now.entries in
    let waits = c.args.waiting.now.messages in
    let q : Planned g.row.P.Denot = of_pairs cmp known waits [] in
    let alike = arrivals_looked_up cmp g.met.P.Ord.total known in
    let old = since_of cmp c.args.waiting.now.told in
    let done = c.args.done.now.items in
    let at = c.loop-at.at in
    let lt : at < length done = omega (arith, c.loop-at-test.true, c.len-at-end.ensures, c.args.done.now.ok.0) in
    let m : Message g.row.P.Denot = message_of c.deref-message.result.now in
    let there : message_of c.index.result.now.value ≡ m = ap message_of (sym c.deref-message.ensures) in
    let more : messages (take (at + 1) done) ≡ messages (take at done) ++ m ∷ [] =
    ap messages
    (take_more done at c.index.result.now lt
    ∙ ap (λ (x : Arc (code.Message g.row.P.Denot) Global). take at done ++ x ∷ []) (sym c.index.ensures))
    ∙ map-append (λ x. message_of x.value) (take at done) (c.index.result.now ∷ [])
    ∙ ap (λ x. messages (take at done) ++ x ∷ []) there in
    let since_is : c.in_ok-since.since ≡ idle_from cmp q m.origin m.recipient =
    rested_is cmp known waits [] m.origin m.recipient c.last_arrival-last.result c.in_ok-since.since refl
    c.last_arrival-last.ensures
    (c.in_ok-since.ensures.answer
    ∙ ap (λ (ms : List (Message g.row.P.Denot)). option_map
    (λ (n : Message g.row.P.Denot). first_moment c.last_arrival-last.result n.latency) (first_of cmp ms m.origin m.recipient))
    c.loop-at.invariant.same) in
    let here = since_of cmp c.loop-at.waiting.told in
    record {
      same = c.in_ok-since.ensures.messages ∙ c.loop-at.invariant.same;
      before = c.in_ok-since.ensures.before ∙ c.loop-at.invariant.before;
      rest = subst (λ (ms : List (Message g.row.P.Denot)). AreAtRest cmp q ms old (since_of cmp c.tell_since.new.self.told)) (sym more)
          (rests_more cmp g.met.P.Ord.total q alike old (messages (take at done)) m here c.loop-at.invariant.rest
          (since_of cmp c.tell_since.new.self.told)
          (c.in_ok-since.ensures.since ∙ ap (with_link cmp here m.origin m.recipient) since_is));
      first = elim c.if-at-eq0.branch [
        | then-at-eq0 w ↦
            w.first-is ∙ since_is
            ∙ ap (λ (n : Message g.row.P.Denot). idle_from cmp q n.origin n.recipient) (sym there)
            ∙ sym (since_taken_first cmp q done c.index.result.now at lt w.if-at-eq0.true c.index.ensures)
        | else-at-eq0 w ↦
            w.first-is ∙ c.loop-at.invariant.first
            ∙ since_taken cmp q done at (at + 1) (omega (arith, w.if-at-eq0.false)) (omega arith)
      ];
    }
