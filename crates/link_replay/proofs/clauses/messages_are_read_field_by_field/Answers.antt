use Rattle.link_replay.proofs.Common.{refl}
use Rattle.link_replay.proofs.clauses.messages_are_read_field_by_field.Goals as goal

pub returns-clause-completed : goal.returns-clause-completed
returns-clause-completed g c = refl

pub returns-clause-sent : goal.returns-clause-sent
returns-clause-sent g c origin recipient channel latency bytes should_deliver = refl
