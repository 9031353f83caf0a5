use Rattle.link_flights.proofs.Common.{◌≡◌, ◌∷◌, ◌∙◌, [], sym, ap, subst, slice_index, unwrap_or, get_or_default}
use Rattle.link_flights.proofs.Common.{IsFair, sides_under, is_delivered, caps_of, message_of, looked_up, Flight}
use Rattle.link_flights.proofs.Common.{flow_sent, FlowCaps, parts_alone_fair, AreFairFor}
use Rattle.link_flights.proofs.Flights.Alone.{alone_fair}
use Rattle.link_flights.proofs.flight_list.Flights.rate_alone.Goals as goal

pub returns-clause-fair : goal.returns-clause-fair
returns-clause-fair g c d =
    let cmp = g.P.Ord.cmp in
    let self = c.args.self.now in
    let caps = caps_of cmp c.args.peers.now.entries c.args.pairs.now.entries in
    let of = looked_up cmp g.met.P.Ord.total c.args.peers.now.entries c.args.pairs.now.entries in
    let m = c.at.result.now.message.value in
    let parts = c.unwrap_or.result in
    let is : parts ≡ c.in_ok-rate.rate = sym c.in_ok-rate.ensures.value in
    let own : FlowCaps = record { egress = c.egress.result; ingress = c.ingress.result; link = c.cap.result } in
    let none : unwrap_or c.in_ok-least.least 0 ≡ parts =
    sym (c.unwrap_or.ensures ∙ ap (unwrap_or c.in_ok-least.least) c.from_u64-none.ensures) in
    let fair : IsFair (sides_under cmp caps (flow_sent cmp m ∷ [])) self.scale (slice_index (parts ∷ [])) =
    subst (λ n. IsFair (sides_under cmp caps (flow_sent cmp m ∷ [])) self.scale (slice_index (n ∷ []))) none
    (parts_alone_fair self.scale self.scaled cmp caps (flow_sent cmp m) own c.is_delivered.result
    (c.egress.ensures.cap ∙ ap (λ n. caps.egress n.origin) c.deref.ensures)
    (c.ingress.ensures.cap ∙ ap (λ n. caps.ingress n.recipient) c.deref-2.ensures)
    (c.cap.ensures.cap ∙ ap (λ n. caps.link n.origin c.deref-4.result.now.recipient) c.deref-3.ensures
    ∙ ap (λ n. caps.link m.origin n.recipient) c.deref-4.ensures)
    (c.is_delivered.ensures ∙ ap (λ n. is_delivered cmp (message_of n)) c.deref-5.ensures)
    c.in_ok-least.least c.in_ok-least.ensures.least) in
    subst
    (λ (f : Flight g.row.P.Denot). AreFairFor cmp caps self.scale (message_of f.message.value ∷ []) (c.in_ok-rate.rate ∷ []))
    (c.at.ensures ∙ get_or_default self.list.items c.args.at c.at.result.now d c.requires.place)
    (subst (λ n. AreFairFor cmp caps self.scale (message_of m ∷ []) (n ∷ [])) is (alone_fair cmp g.met.P.Ord.total caps of m self.scale parts fair))
