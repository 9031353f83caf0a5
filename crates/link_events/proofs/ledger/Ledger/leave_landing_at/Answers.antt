use Rattle.link_events.proofs.Common.{not, sym, ap, ◌∙◌, refl, subst, inl, inr, filter, Planned, is_spent, drained_to}
use Rattle.link_events.proofs.Common.{caps_of, egress_of, ingress_of, messages, in_flight, HadFairRates, planned}
use Rattle.link_events.proofs.Common.{since_of_first, arrival_of, of_pairs}
use Rattle.link_events.proofs.Steps.Landing.{leaves_landing, since_alike}
use Rattle.link_events.proofs.ledger.Ledger.leave_landing_at.Goals as goal

pub leave_landing-left-requires-clause-rated : goal.leave_landing-left-requires-clause-rated
leave_landing-left-requires-clause-rated g c e =
    let old = c.args.self.now in
    old.rated (c.were_fair_until-were_fair.ensures.rated e)

pub returns-in-Ok-clause-lands : goal.returns-in-Ok-clause-lands
returns-in-Ok-clause-lands g c =
    let cmp = g.P.Ord.cmp in
    let old = c.args.self.now in
    let caps = caps_of cmp old.peers.entries old.pairs.entries in
    let known = c.leave_landing-left.new.pairs.entries in
    let flights = c.leave_landing-left.new.flights in
    let left = c.in-Ok.ensures in
    let new : Planned g.row.P.Denot = record (planned cmp old) {
      caps = caps_of cmp old.peers.entries known;
      sending = in_flight flights;
      last_arrival = arrival_of cmp known;
      accounted = flights.at;
    } in
    rw left.messages
    (leaves_landing cmp g.met.P.Ord.total c.args.now (planned cmp old) new
    (filter (λ f. not (is_spent cmp caps f)) (drained_to c.args.now (in_flight old.flights))) (arrival_of cmp known)
    (messages c.in-Ok.left.done.items) c.in-Ok.left.deliver_at c.in-Ok.left.since
    (record { left = left.parted.left; is = refl })
    (λ i. record (planned cmp old) {
      caps =
          record {
            egress = egress_of cmp old.peers.entries;
            ingress = ingress_of cmp old.peers.entries;
            link = left.link i;
          };
      sending = left.parted.stays i;
      last_arrival = arrival_of cmp known;
      accounted = left.parted.moment i;
    })
    left.lands
    (left.idle
    ∙ ap
    (λ ms. since_of_first cmp (of_pairs cmp known ms (in_flight flights)) (messages c.in-Ok.left.done.items))
    left.messages
    ∙ since_alike cmp g.met.P.Ord.total (of_pairs cmp known old.waiting.messages (in_flight flights)) new
    (messages c.in-Ok.left.done.items) (λ a b some. refl)))

pub returns-in-Ok-clause-fair : goal.returns-in-Ok-clause-fair
returns-in-Ok-clause-fair g c e =
    let cmp = g.P.Ord.cmp in
    let old = c.args.self.now in
    subst
    (λ l. ∥ HadFairRates cmp (record (caps_of cmp old.peers.entries old.pairs.entries) { link = l })
    c.leave_landing-left.new.flights (messages c.in-Ok.left.done.items) ∥₁)
    (sym c.in-Ok.ensures.link) (c.in-Ok.ensures.parted.fair e)

pub returns-in-Err-clause-refused : goal.returns-in-Err-clause-refused
returns-in-Err-clause-refused g c =
    let cmp = g.P.Ord.cmp in
    let old = c.args.self.now in
    let caps = caps_of cmp old.peers.entries old.pairs.entries in
    elim c.in-Err.ensures.refused [
      | inl memory ↦ inl memory
      | inr late ↦ inr (
        late.0,
        record {
          first = late.1.first;
          others = late.1.others;
          here = record (planned cmp old) {
            sending = filter (λ f. not (is_spent cmp caps f)) (drained_to c.args.now (in_flight old.flights));
            accounted = c.args.now;
          };
          leaves = record { left = sym late.1.done_is; is = refl };
          late = late.1.is;
        },
      )
    ]
