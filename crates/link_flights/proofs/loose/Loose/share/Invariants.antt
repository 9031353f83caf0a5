use Rattle.link_flights.proofs.Common.{◌≡◌, map, take}
use Rattle.link_flights.proofs.loose.Loose.share.Given as goal

abbrev pub invariant-loop-message : goal.invariant-loop-message
invariant-loop-message g l = map (λ message. message.value) l.messages.items ≡ take l.message-index l.self
