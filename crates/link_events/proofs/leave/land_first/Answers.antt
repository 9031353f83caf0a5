use Rattle.link_events.proofs.Common.{List, drop, inr, sym, ap, ap₂, ◌∙◌, subst, then_some, is_delivered, arrival}
use Rattle.link_events.proofs.Common.{completion_of, err_from_is_err_and, Message, message_of, messages, arrival_of}
use Rattle.link_events.proofs.Common.{FirstLands}
use Rattle.link_events.proofs.Steps.Landing.{then_is}
use Rattle.link_events.proofs.Steps.SettledFirst.{first_and_others}
use Rattle.link_events.proofs.leave.land_first.Goals as goal

pub returns-in_err-arrival-clause-refused : goal.returns-in_err-arrival-clause-refused
returns-in_err-arrival-clause-refused g c =
    let p = err_from_is_err_and c.from_residual.result c.from_residual.ensures.1 in
    let late = c.in_err-arrival.ensures.refused in
    rw (p.1, p.2) (inr (
      late.0,
      record {
        first = message_of c.deref-first.result.now;
        others = messages (drop 1 c.args.done.now.items);
        done_is = first_and_others c.args.done.now.items c.in-Some.first.now c.deref-first.result.now
            c.in-Some.ensures.item.3.0 c.in-Some.ensures.lookup c.deref-first.ensures;
        is = late.1;
      },
    ))

pub returns-clause-lands : goal.returns-clause-lands
returns-clause-lands g c =
    let cmp = g.P.Ord.cmp in
    let x = message_of c.deref-first.result.now in
    let first = first_and_others c.args.done.now.items c.in-Some.first.now c.deref-first.result.now
    c.in-Some.ensures.item.3.0 c.in-Some.ensures.lookup c.deref-first.ensures in
    subst
    (λ (ms : List (Message g.row.P.Denot)). FirstLands cmp c.args.now ms (arrival_of cmp c.args.pairs.now.entries)
    (arrival_of cmp c.raise.new.self.entries) c.then_some.result) (sym first)
    (record {
      at = c.in_ok-arrival.arrival;
      moment = c.in_ok-arrival.ensures.moment;
      raised = c.in_ok-raise.ensures.arrival;
      in_time = c.in_ok-arrival.ensures.in_time;
      completion =
          ap (completion_of x c.args.now)
          (c.then_some.ensures ∙ ap₂ then_some c.is_delivered.ensures c.in_ok-arrival.ensures.moment
          ∙ then_is (is_delivered cmp x) (arrival cmp c.args.now x));
    })
