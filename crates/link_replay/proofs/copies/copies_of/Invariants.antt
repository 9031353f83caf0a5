use Rattle.link_replay.proofs.Common.{map, take, AllZip, SameMessage, outgoing}
use Rattle.link_replay.proofs.copies.copies_of.Given as goal

abbrev pub invariant-loop-one : goal.invariant-loop-one
invariant-loop-one g l =
    AllZip (SameMessage g.P.Ord.cmp) (map outgoing (take l.one-index l.messages)) (map outgoing l.copies.items)
