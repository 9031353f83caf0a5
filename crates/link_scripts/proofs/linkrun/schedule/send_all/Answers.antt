use Rattle.link_scripts.proofs.Common.{List, map, subst, err_from_is_err_and, nat_cmp, completed_of, call_enqueue}
use Rattle.link_scripts.proofs.Common.{call_enqueue_all, Message, planned_of, MakesEach, Refuses}
use Rattle.link_scheduler.specs.Calls.State.{Makes}
use Rattle.link_scripts.proofs.linkrun.schedule.send_all.Goals as goal

pub returns-clause-one_by_one : goal.returns-clause-one_by_one
returns-clause-one_by_one c =
    subst
    (λ (ms : List (Message _)). MakesEach nat_cmp (planned_of c.args.scheduler.now)
    (map (λ m. call_enqueue c.args.now m) ms) (map completed_of c.in_ok-enqueue_all.field-0.items)
    (planned_of c.enqueue_all.new.self))
    c.in_ok-messages.ensures.made c.in_ok-enqueue_all.ensures.made

pub returns-clause-at_once : goal.returns-clause-at_once
returns-clause-at_once c =
    subst
    (λ (ms : List (Message _)). Makes nat_cmp (planned_of c.args.scheduler.now) (call_enqueue_all c.args.now ms)
    (map completed_of c.in_ok-enqueue_all.field-0.items) (planned_of c.enqueue_all.new.self))
    c.in_ok-messages.ensures.made c.in_ok-enqueue_all.ensures.as_one

pub returns-in_err-enqueue_all-clause-refused : goal.returns-in_err-enqueue_all-clause-refused
returns-in_err-enqueue_all-clause-refused c =
    let p =
    err_from_is_err_and c.from_residual-in_err-enqueue_all.result c.from_residual-in_err-enqueue_all.ensures.1 in
    rw (p.1, p.2)
    (subst
    (λ (ms : List (Message _)). Refuses nat_cmp (planned_of c.args.scheduler.now) (call_enqueue_all c.args.now ms)
    c.in_err-enqueue_all.field-0.0)
    c.in_ok-messages.ensures.made c.in_err-enqueue_all.ensures.refused_as_one)
