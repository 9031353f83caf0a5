use Rattle.link_laws.proofs.Examples.LongRow.{slow_next}
use Rattle.link_laws.proofs.model.rows.a_slow_message_takes_long.Goals as goal

pub returns : goal.returns
returns c = slow_next
