use Rattle.link_events.proofs.Common.{Some, sym, ap, ◌∙◌, subst, with_link, of_pairs, since_of, rested_is}
use Rattle.link_events.proofs.Common.{arrived_index, busy_none, in_flight, WereRatedUnder, caps_of, arrivals_looked_up}
use Rattle.link_waiting.proofs.Idle.Moved.{raised_arrival}
use Rattle.link_waiting.proofs.Idle.IndexChanges.{raised_index, raised_none}
use Rattle.link_events.proofs.ledger.Ledger.raise.Goals as goal

pub invariant_of-self : goal.invariant_of-self
invariant_of-self g c =
    let cmp = g.P.Ord.cmp in
    let old = c.args.self.now in
    record {
      one_each = old.one_each;
      rated = λ e.
          subst (λ l. ∥ WereRatedUnder cmp (record (caps_of cmp old.peers.entries old.pairs.entries) { link = l })
          old.flights ∥₁)
          (sym c.in_err-last.ensures.link) (old.rated e);
      indexed =
          arrived_index cmp g.met.P.Ord.total old.pairs.entries c.raise.new.self.entries old.waiting.messages
          (in_flight old.flights) (since_of cmp old.waiting.told) c.in_err-last.ensures.kept old.indexed;
    }

pub invariant_of-self-then-is_busy : goal.invariant_of-self-then-is_busy
invariant_of-self-then-is_busy g c =
    let cmp = g.P.Ord.cmp in
    let old = c.args.self.now in
    let o = c.args.origin.now in
    let r = c.args.recipient.now in
    record {
      one_each = old.one_each;
      rated = λ e.
          subst (λ l. ∥ WereRatedUnder cmp (record (caps_of cmp old.peers.entries old.pairs.entries) { link = l })
          old.flights ∥₁)
          (sym c.in_ok-last.ensures.link) (old.rated e);
      indexed =
          raised_none cmp g.met.P.Ord.total old.pairs.entries c.raise.new.self.entries old.waiting.messages
          (in_flight old.flights) o r c.args.moment (since_of cmp old.waiting.told)
          (arrivals_looked_up cmp g.met.P.Ord.total c.raise.new.self.entries)
          (arrivals_looked_up cmp g.met.P.Ord.total old.pairs.entries) c.in_ok-last.ensures.arrival old.indexed
          (busy_none cmp (of_pairs cmp old.pairs.entries old.waiting.messages (in_flight old.flights)) o r
          (c.requires ∙ c.if-is_busy.true))
          (busy_none cmp (of_pairs cmp c.raise.new.self.entries old.waiting.messages (in_flight old.flights)) o r
          (c.requires ∙ c.if-is_busy.true));
    }

pub returns-then-is_busy-clause-idle : goal.returns-then-is_busy-clause-idle
returns-then-is_busy-clause-idle g c =
    let cmp = g.P.Ord.cmp in
    let old = c.args.self.now in
    sym
    (busy_none cmp (of_pairs cmp c.raise.new.self.entries old.waiting.messages (in_flight old.flights)) c.args.origin.now
    c.args.recipient.now (c.requires ∙ c.if-is_busy.true))

pub invariant_of-self-in-Ok-1 : goal.invariant_of-self-in-Ok-1
invariant_of-self-in-Ok-1 g c =
    let cmp = g.P.Ord.cmp in
    let old = c.args.self.now in
    let o = c.args.origin.now in
    let r = c.args.recipient.now in
    record {
      one_each = old.one_each;
      rated = λ e.
          subst (λ l. ∥ WereRatedUnder cmp (record (caps_of cmp old.peers.entries old.pairs.entries) { link = l })
          old.flights ∥₁)
          (sym c.in_ok-last.ensures.link) (old.rated e);
      indexed = rw c.in-Ok.ensures.messages
          (raised_index cmp g.met.P.Ord.total old.pairs.entries c.raise.new.self.entries old.waiting.messages
          (in_flight old.flights) o r c.args.moment (since_of cmp old.waiting.told) (since_of cmp c.tell_since.new.self.told)
          (arrivals_looked_up cmp g.met.P.Ord.total c.raise.new.self.entries) c.in_ok-last.ensures.arrival old.indexed
          (c.in-Ok.ensures.since
          ∙ ap (with_link cmp (since_of cmp old.waiting.told) o r)
          (rested_is cmp c.raise.new.self.entries old.waiting.messages (in_flight old.flights) o r
          (Some c.later_of-arrival.result) c.in-Ok.since (c.requires ∙ c.if-is_busy.false)
          (raised_arrival cmp g.met.P.Ord.total old.pairs.entries c.raise.new.self.entries o r c.args.moment c.in_ok-last.last
          c.later_of-arrival.result c.in_ok-last.ensures.last c.in_ok-last.ensures.arrival c.later_of-arrival.ensures)
          c.in-Ok.ensures.answer)));
    }

pub returns-in-Ok-clause-idle : goal.returns-in-Ok-clause-idle
returns-in-Ok-clause-idle g c =
    let cmp = g.P.Ord.cmp in
    let old = c.args.self.now in
    let o = c.args.origin.now in
    let r = c.args.recipient.now in
    rw c.in-Ok.ensures.messages
    (rested_is cmp c.raise.new.self.entries old.waiting.messages (in_flight old.flights) o r
    (Some c.later_of-arrival.result) c.in-Ok.since (c.requires ∙ c.if-is_busy.false)
    (raised_arrival cmp g.met.P.Ord.total old.pairs.entries c.raise.new.self.entries o r c.args.moment c.in_ok-last.last
    c.later_of-arrival.result c.in_ok-last.ensures.last c.in_ok-last.ensures.arrival c.later_of-arrival.ensures)
    c.in-Ok.ensures.answer)
