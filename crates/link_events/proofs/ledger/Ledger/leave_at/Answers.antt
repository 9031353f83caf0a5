use Rattle.link_events.proofs.ledger.Ledger.leave_at.Goals as goal

pub leave-left-requires-clause-rated : goal.leave-left-requires-clause-rated
leave-left-requires-clause-rated g c e =
    let old = c.args.self.now in
    old.rated (c.were_fair_until-were_fair.ensures.rated e)
