use Rattle.link_flights.proofs.Common.{◌≡◌, inl, inr, get_or, sym, ap, ◌∙◌, arith, cases_lt, caps_of, Flight, flight_at}
use Rattle.link_flights.proofs.Common.{is_out}
use Rattle.link_flights.proofs.Flights.Settled.{none_out_between}
use Rattle.link_flights.proofs.flight_list.Flights.next_done.Goals as goal
use Rattle.link_flights.proofs.flight_list.Flights.next_done.Goals.{then-were_rated+then-from-self, else-were_rated}

pub loop-at-preserved : goal.loop-at-preserved
loop-at-preserved g c =
    let self = c.args.self.now in
    let list = self.list.items in
    let at = c.loop-at.at in
    let caps = caps_of g.P.Ord.cmp c.args.peers.now.entries c.args.pairs.now.entries in
    let out = λ (f : Flight g.row.P.Denot). is_out g.P.Ord.cmp caps self.scale (flight_at self.at f)
    in
    λ i low high d. elim (cases_lt i at) [
      | inl less ↦ c.loop-at.invariant i low less d
      | inr past ↦
          let here : i ≡ at = omega (arith, past, high) in
          ap (λ k. out (get_or list k d)) here ∙ sym (c.is_done.ensures d) ∙ c.if-is_done.false
    ]

pub loop-at-init : goal.loop-at-init
loop-at-init g c = elim c.if-were_rated.branch [
  | then-were_rated+then-from-self w ↦
      let self = c.args.self.now in
      let caps = caps_of g.P.Ord.cmp c.args.peers.now.entries c.args.pairs.now.entries in
      let passes = w.settled_finish-start.ensures in
      rw w.start-is
      (none_out_between g.P.Ord.cmp caps self.scale self.scaled self.at (omega arith) self.settled self.list.items
      c.args.from w.settled_finish-start.result self.have_rates self.past
      (λ i low high. omega (arith, high, passes.rated)) passes.go_on (c.requires.timed w.if-were_rated.true)
      (c.requires.limited w.if-were_rated.true))
  | else-were_rated w ↦ rw w.start-is (λ i low high d. absurd (omega (arith, low, high)))
]
