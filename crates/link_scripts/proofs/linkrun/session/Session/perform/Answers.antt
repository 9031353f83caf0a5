use Rattle.link_scripts.proofs.Common.{refl, err_from_is_err_and}
use Rattle.link_scripts.proofs.linkrun.session.Session.perform.Goals as goal

pub returns-in_err-reply-in-Schedule-clause-kept : goal.returns-in_err-reply-in-Schedule-clause-kept
returns-in_err-reply-in-Schedule-clause-kept c =
    let p =
    err_from_is_err_and c.from_residual-in_err-reply-in-Schedule.result
    c.from_residual-in_err-reply-in-Schedule.ensures.1 in
    rw p.1 (
      (
        record {
          flows_are = refl;
          egress_is = λ peer. refl;
          ingress_is = λ peer. refl;
          link_is = λ origin recipient. refl;
        },
        record { routes_are = λ flow. refl; caps_are = λ link. refl; weights_are = λ flow. refl },
      ),
      c.in_err-reply-in-Schedule.ensures.unchanged,
    )

pub returns-in_err-reply-in-Schedule-clause-refused : goal.returns-in_err-reply-in-Schedule-clause-refused
returns-in_err-reply-in-Schedule-clause-refused c =
    let p =
    err_from_is_err_and c.from_residual-in_err-reply-in-Schedule.result
    c.from_residual-in_err-reply-in-Schedule.ensures.1 in
    rw (p.1, p.2, c.in-Schedule.is) c.in_err-reply-in-Schedule.ensures.refused
