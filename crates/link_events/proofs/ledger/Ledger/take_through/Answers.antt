use Rattle.link_events.proofs.Common.{◌+◌, refl, sym, ap, ◌∙◌, option_map, with_link, in_flight, message_of}
use Rattle.link_events.proofs.Common.{arrivals_looked_up, since_of, rested_is, planned}
use Rattle.link_waiting.proofs.Idle.IndexChanges.{taken_index}
use Rattle.link_events.proofs.Steps.Through.{taken_is}
use Rattle.link_events.proofs.ledger.Ledger.take_through.Goals as goal

pub invariant_of-self : goal.invariant_of-self
invariant_of-self g c =
    let cmp = g.P.Ord.cmp in
    let old = c.args.self.now in
    let o = c.args.origin.now in
    let r = c.args.recipient.now in
    record {
      one_each = old.one_each;
      rated = old.rated;
      indexed =
          taken_index cmp g.met.P.Ord.total old.pairs.entries old.waiting.messages c.take_telling.new.waiting.messages
          (in_flight old.flights) o r (since_of cmp old.waiting.told) (since_of cmp c.take_telling.new.waiting.told)
          (arrivals_looked_up cmp g.met.P.Ord.total old.pairs.entries) c.in-Ok-Some.ensures.others old.indexed
          (c.in-Ok-Some.ensures.since
          ∙ ap (with_link cmp (since_of cmp old.waiting.told) o r)
          (rested_is cmp old.pairs.entries c.take_telling.new.waiting.messages (in_flight old.flights) o r
          c.last_arrival-last.result _ c.requires.idle c.last_arrival-last.ensures refl));
    }

pub returns-in-Ok-Some-clause-taken : goal.returns-in-Ok-Some-clause-taken
returns-in-Ok-Some-clause-taken g c =
    sym c.in-Ok-Some.ensures.taken ∙ ap (option_map (λ x. message_of x.value)) c.in-Ok-Some.field-0-is

pub returns-in-Ok-Some-clause-gone : goal.returns-in-Ok-Some-clause-gone
returns-in-Ok-Some-clause-gone g c =
    let cmp = g.P.Ord.cmp in
    let old = c.args.self.now in
    let taken = c.in-Ok-Some.ensures.others in
    (λ i. record (planned cmp old) { waiting = taken i; next_id = old.next_id + 1 })
    ∙ taken_is cmp g.met.P.Ord.total (planned cmp old) c.args.origin.now c.args.recipient.now
    (message_of c.in-Ok-Some.message.value)
    (sym c.in-Ok-Some.ensures.taken ∙ ap (option_map (λ x. message_of x.value)) c.in-Ok-Some.field-0-is)
