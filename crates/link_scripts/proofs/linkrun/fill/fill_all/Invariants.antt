use Rattle.link_scripts.proofs.Common.{◌≡◌, map, take, zeroed}
use Rattle.link_events.specs.Steps.Outgoing.{outgoing}
use Rattle.link_scripts.proofs.linkrun.fill.fill_all.Given as goal

-- the messages so far
abbrev pub invariant-loop-one : goal.invariant-loop-one
invariant-loop-one l = map outgoing l.made.items ≡ map zeroed (take l.one-index l.messages)
