use Rattle.std.specs.List.{All}
use Rattle.broadcast.specs.Links.{IsLinkOf}
use Rattle.broadcast.proofs.link.draw_links.Given as goal

-- each of the links so far
abbrev pub invariant-loop-origin : goal.invariant-loop-origin
invariant-loop-origin l = All (IsLinkOf l.peers) l.links.items

-- and of those of the next origin
abbrev pub invariant-loop-recipient : goal.invariant-loop-recipient
invariant-loop-recipient l = All (IsLinkOf l.peers) l.links.items
