use Rattle.link_scripts.proofs.Common.{◌∙◌, nat_cmp, get, pair_cmp}
use Rattle.link_scripts.proofs.LinkCaps.{with_one_link}
use Rattle.link_scripts.proofs.linkrun.session.set_link.Goals as goal

pub returns-in_ok-insert-in-Some-clause-set : goal.returns-in_ok-insert-in-Some-clause-set
returns-in_ok-insert-in-Some-clause-set c = λ p q.
    rw c.in-Some.is
    (c.in_ok-insert-in-Some.ensures.updates.0 (p, q)
    ∙ with_one_link (λ r s. get (pair_cmp nat_cmp) c.args.caps.now (r, s)) c.args.origin c.args.recipient _ p q)

pub returns-in-None-clause-set : goal.returns-in-None-clause-set
returns-in-None-clause-set c = λ p q.
    rw c.in-None.is
    (c.remove.ensures.updates.0 (p, q)
    ∙ with_one_link (λ r s. get (pair_cmp nat_cmp) c.args.caps.now (r, s)) c.args.origin c.args.recipient _ p q)
