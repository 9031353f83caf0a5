use Rattle.link_events.proofs.Common.{sym, ap, ◌∙◌, option_map, message_of}
use Rattle.link_events.proofs.ledger.Ledger.next_is_unlimited.Goals as goal

pub returns-in-Some : goal.returns-in-Some
returns-in-Some g c = λ unlimited. record {
  message = message_of c.in-Some.next.now;
  first = sym c.first.ensures ∙ ap (option_map (λ m. message_of m.now)) c.in-Some.is;
  unlimited = sym c.is_unlimited.ensures ∙ unlimited;
}
