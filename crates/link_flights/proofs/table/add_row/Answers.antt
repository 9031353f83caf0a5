use Rattle.link_flights.proofs.Common.{refl, sym, ap, ◌∙◌, subst, number_of, IsRow, number_stays, AreKept}
use Rattle.std.proofs.lemmas.List.Elements.{All-push}
use Rattle.link_flights.proofs.Flights.Rows.{taken_back, changed, kept_more}
use Rattle.link_flights.proofs.table.add_row.Goals as goal

pub returns-in_err-receiver-clause-kept : goal.returns-in_err-receiver-clause-kept
returns-in_err-receiver-clause-kept g c =
    subst (λ peers. AreKept g.P.Ord.cmp peers c.args.rows.now) (sym c.in_err-receiver.ensures.unchanged)
    (kept_more g.P.Ord.cmp c.args.numbers.now c.add.new.self c.deref.result.now.origin c.args.rows.now
    c.in_ok-sender.ensures.peers c.requires)

pub returns-in_err-push-clause-kept : goal.returns-in_err-push-clause-kept
returns-in_err-push-clause-kept g c =
    let cmp = g.P.Ord.cmp in
    taken_back cmp c.add-2.new.self c.args.rows.now c.push.new.self
    (kept_more cmp c.add.new.self c.add-2.new.self c.deref-2.result.now.recipient c.args.rows.now
    c.in_ok-receiver.ensures.peers
    (kept_more cmp c.args.numbers.now c.add.new.self c.deref.result.now.origin c.args.rows.now
    c.in_ok-sender.ensures.peers c.requires))
    c.in_err-push.ensures.taken_back c.in_err-push.ensures.before

pub returns-clause-kept : goal.returns-clause-kept
returns-clause-kept g c =
    let cmp = g.P.Ord.cmp in
    let origin = c.deref.result.now.origin in
    let recipient = c.deref-2.result.now.recipient in
    let was =
    kept_more cmp c.add.new.self c.add-2.new.self recipient c.args.rows.now c.in_ok-receiver.ensures.peers
    (kept_more cmp c.args.numbers.now c.add.new.self origin c.args.rows.now c.in_ok-sender.ensures.peers c.requires) in
    changed cmp c.add-2.new.self c.args.rows.now c.push.new.self _ was
    (All-push (IsRow cmp c.add-2.new.self) c.args.rows.now.now _ was.now
    (record {
      sender = ap (λ m. number_of cmp c.add-2.new.self m.origin)
          (sym c.deref.ensures)
          ∙ number_stays cmp c.add.new.self recipient c.add-2.new.self c.in_ok-receiver.ensures.peers origin
          c.in_ok-sender.sender c.in_ok-sender.ensures.number;
      receiver = ap (λ m. number_of cmp c.add-2.new.self m.recipient)
          (sym c.deref-2.ensures)
          ∙ c.in_ok-receiver.ensures.number;
      moment = refl;
    }))
    c.in_ok-push.ensures.now c.in_ok-push.ensures.before
