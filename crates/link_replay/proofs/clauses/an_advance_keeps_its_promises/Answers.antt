use Rattle.link_replay.proofs.Common.{map, arith, planned_of}
use Rattle.link_pairs.specs.Pairs.Messages.{completed_of}
use Rattle.link_simulation.proofs.Rule.OneMeaning.{one_split}
use Rattle.link_simulation.proofs.Laws.BytesStand.{sending_takes}
use Rattle.link_replay.proofs.clauses.an_advance_keeps_its_promises.Goals as goal

pub returns-clause-split : goal.returns-clause-split
returns-clause-split g c w v now ds advanced stands after runs =
    one_split g.P.Ord.cmp g.met.P.Ord.total (planned_of c.args.old.now) (planned_of c.args.new.now) w v now now
    (map completed_of c.args.done.now) ds advanced.split stands after (omega arith) runs

pub returns-clause-within_caps : goal.returns-clause-within_caps
returns-clause-within_caps g c w v origin bytes cap now advanced =
    sending_takes g.P.Ord.cmp (planned_of c.args.old.now) (planned_of c.args.new.now) w v origin bytes cap now
    advanced.within_caps
