use Rattle.link_events.proofs.Common.{Result, Ok, Err, OnOk}
use Rattle.link_events.proofs.ledger.Ledger.conclude.Goals as goal

-- what holds in any case
on_ok : {X E A : Type 0} (r : Result X E) → A → OnOk r A
on_ok (Ok x) h = h
on_ok (Err e) h = tt

pub returns-then-is_ok-clause-made : goal.returns-then-is_ok-clause-made
returns-then-is_ok-clause-made g c = on_ok c.args.answer c.commit.ensures.same

pub returns-else-is_ok-clause-marked : goal.returns-else-is_ok-clause-marked
returns-else-is_ok-clause-marked g c = rw (c.put_back.ensures c.requires.0 c.requires.1) c.requires.1.marked
