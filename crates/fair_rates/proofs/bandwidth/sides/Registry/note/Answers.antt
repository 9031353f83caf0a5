use Rattle.fair_rates.proofs.Common.{refl, sym, subst, HasNumber, subject_of, Registry}
use Rattle.fair_rates.specs.Sides.Registry.{IsGapFor}
use Rattle.fair_rates.proofs.Sides.Registry.{sender_numbered, receiver_numbered, link_numbered, by_both}
use Rattle.fair_rates.proofs.bandwidth.sides.Registry.note.Goals as goal

pub note-requires : goal.note-requires
note-requires g c =
    let old = c.args.self.now in
    record {
      order = c.requires.order.senders;
      gap = subst (λ s. IsGapFor g.P.Ord.cmp old s c.args.place) c.in-SentBy.is c.requires.gap;
    }

pub note-requires-in-ReceivedBy : goal.note-requires-in-ReceivedBy
note-requires-in-ReceivedBy g c =
    let old = c.args.self.now in
    record {
      order = c.requires.order.receivers;
      gap = subst (λ s. IsGapFor g.P.Ord.cmp old s c.args.place) c.in-ReceivedBy.is c.requires.gap;
    }

pub note-requires-in-SentBetween : goal.note-requires-in-SentBetween
note-requires-in-SentBetween g c =
    let old = c.args.self.now in
    record {
      order = c.requires.order.links;
      gap = subst (λ s. IsGapFor g.P.Ord.cmp old s c.args.place) c.in-SentBetween.is c.requires.gap;
    }

pub returns-in_ok-note-in-SentBy-clause-numbers : goal.returns-in_ok-note-in-SentBy-clause-numbers
returns-in_ok-note-in-SentBy-clause-numbers g c =
    let old = c.args.self.now in
    let new : Registry g.row.P.Denot = record old { senders = c.note.new.self } in
    let peer = c.in-SentBy.peer in
    subst (λ s. HasNumber g.P.Ord.cmp (subject_of s) c.args.number old new) (sym c.in-SentBy.is)
    (sender_numbered g.P.Ord.cmp c.args.number old new peer.now refl refl
    (λ q. c.in_ok-note-in-SentBy.ensures.numbers (record peer { now = q })))

pub returns-in_ok-note-in-ReceivedBy-clause-numbers : goal.returns-in_ok-note-in-ReceivedBy-clause-numbers
returns-in_ok-note-in-ReceivedBy-clause-numbers g c =
    let old = c.args.self.now in
    let new : Registry g.row.P.Denot = record old { receivers = c.note-in-ReceivedBy.new.self } in
    let peer = c.in-ReceivedBy.peer in
    subst (λ s. HasNumber g.P.Ord.cmp (subject_of s) c.args.number old new) (sym c.in-ReceivedBy.is)
    (receiver_numbered g.P.Ord.cmp c.args.number old new peer.now refl refl
    (λ q. c.in_ok-note-in-ReceivedBy.ensures.numbers (record peer { now = q })))

pub returns-in_ok-note-in-SentBetween-clause-numbers : goal.returns-in_ok-note-in-SentBetween-clause-numbers
returns-in_ok-note-in-SentBetween-clause-numbers g c =
    let old = c.args.self.now in
    let new : Registry g.row.P.Denot = record old { links = c.note-in-SentBetween.new.self } in
    let o = c.in-SentBetween.origin in
    let p = c.in-SentBetween.recipient in
    subst (λ s. HasNumber g.P.Ord.cmp (subject_of s) c.args.number old new) (sym c.in-SentBetween.is)
    (link_numbered g.P.Ord.cmp c.args.number old new o.now p.now refl refl (λ q r.
    by_both g.P.Ord.cmp c.args.number o.now p.now q r old.links new.links
    (c.in_ok-note-in-SentBetween.ensures.numbers (record o { now = q }, record p { now = r }))))
