use Rattle.link_replay.proofs.clauses.a_new_scheduler_is_empty.Goals as goal

pub returns : goal.returns
returns g c first new = new.planned
