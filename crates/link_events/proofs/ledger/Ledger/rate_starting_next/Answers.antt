use Rattle.link_events.proofs.Common.{[], refl, sym, subst, by_bool, Message, Leaves, landed, launched, caps_of, message_of}
use Rattle.link_events.proofs.Common.{messages, in_units, HadFairRates, planned}
use Rattle.link_events.proofs.Steps.RatedWithNext.{leaves_landed, leaves_started, started_rated}
use Rattle.link_events.proofs.ledger.Ledger.rate_starting_next.Goals as goal

pub rate-requires-clause-leaves : goal.rate-requires-clause-leaves
rate-requires-clause-leaves g c =
    let cmp = g.P.Ord.cmp in
    let there = planned cmp c.args.self.now in
    let flights = c.args.self.now.flights in
    let m : Message g.row.P.Denot = message_of c.args.message.now in
    let r = c.requires.left in
    by_bool c.in_ok-starts.starts
    (λ e.
    let s = c.in_ok-starts.ensures.starts e in (
      launched cmp c.args.now (landed cmp c.args.now r.1 m) s.next,
      [],
      leaves_started cmp g.met.P.Ord.total c.args.now r.0 r.1 there m s.next r.2 flights.scale (in_units flights)
          flights.scaled refl r.4 r.3 s.stays (planned cmp c.start_next.new.self) s.is,
    ))
    (λ e. (
      landed cmp c.args.now r.0 m,
      r.2,
      subst (λ l. Leaves cmp c.args.now (landed cmp c.args.now r.0 m) r.2 (planned cmp l))
          (sym (c.in_ok-starts.ensures.waits e))
          (leaves_landed cmp g.met.P.Ord.total c.args.now r.0 r.1 there m r.2 r.3 r.4),
    ))

pub rate-requires-clause-fair : goal.rate-requires-clause-fair
rate-requires-clause-fair g c f =
    let cmp = g.P.Ord.cmp in
    let done = messages c.args.done.now.items in
    let had = c.requires.fair f in
    by_bool c.in_ok-starts.starts
    (λ e. (c.in_ok-starts.ensures.starts e).fair done had)
    (λ e. subst (λ l. ∥ HadFairRates cmp (caps_of cmp l.peers.entries l.pairs.entries) l.flights done ∥₁)
    (sym (c.in_ok-starts.ensures.waits e)) had)

pub returns-clause-starts : goal.returns-clause-starts
returns-clause-starts g c = λ e old here ls lv is.
    let cmp = g.P.Ord.cmp in
    let order = g.met.P.Ord.total in
    let there = planned cmp c.args.self.now in
    let flights = c.args.self.now.flights in
    let m : Message g.row.P.Denot = message_of c.args.message.now in
    let s = c.in_ok-starts.ensures.starts e in
    let a = c.in_ok-rate.ensures.accounts (launched cmp c.args.now (landed cmp c.args.now here m) s.next) []
    (leaves_started cmp order c.args.now old here there m s.next ls flights.scale (in_units flights) flights.scaled refl
    is lv s.stays (planned cmp c.start_next.new.self) s.is) in
    started_rated cmp order c.args.now old here there m s.next ls flights.scale (in_units flights) flights.scaled refl
    is lv s.stays (planned cmp c.rate.new.self) s.first s.may s.id a

pub returns-clause-waits : goal.returns-clause-waits
returns-clause-waits g c = λ e old ls lv.
    c.in_ok-rate.ensures.accounts old ls
    (subst (λ l. Leaves g.P.Ord.cmp c.args.now old ls (planned g.P.Ord.cmp l)) (sym (c.in_ok-starts.ensures.waits e)) lv)
