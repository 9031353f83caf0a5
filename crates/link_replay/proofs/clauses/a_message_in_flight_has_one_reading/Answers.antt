use Rattle.link_replay.proofs.Common.{Option, subst, Amount}
use Rattle.std.specs.Prelude.{MatchOption}
use Rattle.link_flights.specs.Flights.Readings.{IsReadingOf}
use Rattle.link_replay.proofs.clauses.a_message_in_flight_has_one_reading.Goals as goal

pub returns-clause-peers : goal.returns-clause-peers
returns-clause-peers g c f r is = (is.origin, is.recipient)

pub returns-clause-amounts : goal.returns-clause-amounts
returns-clause-amounts g c f rate r is at =
    (is.left, subst (λ (o : Option Amount). MatchOption o ⊥ (λ a. IsReadingOf a r.rate)) at is.rate, is.since)

pub returns-clause-no_rate : goal.returns-clause-no_rate
returns-clause-no_rate g c f r at is =
    subst (λ (o : Option Amount). MatchOption o ⊥ (λ a. IsReadingOf a r.rate)) at is.rate

pub returns-clause-channel : goal.returns-clause-channel
returns-clause-channel g c f r is = is.channel
