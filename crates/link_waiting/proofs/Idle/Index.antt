-- Two pairs that are equal.
use Rattle.link_waiting.proofs.Common.{Bool, ◌&&◌, Ordering, same_peer}

abbrev pub same_two : {P : Type 0} → (P → P → Ordering) → P → P → P → P → Bool
same_two cmp o r a b = same_peer cmp o a && same_peer cmp r b
