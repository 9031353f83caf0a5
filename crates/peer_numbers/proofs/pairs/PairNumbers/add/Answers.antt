use Rattle.peer_numbers.proofs.pairs.PairNumbers.add.Goals as goal

pub returns-clause-pairs : goal.returns-clause-pairs
returns-clause-pairs g c = rw c.note.ensures c.in_ok-number.ensures.pairs
