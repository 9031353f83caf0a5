use Rattle.link_flights.proofs.Common.{refl, ◌∙◌}
use Rattle.link_flights.proofs.Flights.Loose.{none_loosened, loosened_inside, loosened_more, loosened_all, fewer_loosened}
use Rattle.link_flights.proofs.flight_list.Flights.loosen_end.Goals as goal

pub loop-next-init : goal.loop-next-init
loop-next-init g c = (
  none_loosened g.P.Ord.cmp c.args.end c.args.peer.now c.args.self.now c.first_of-next.result c.first_of-next.ensures,
  refl,
)

pub loosen-requires : goal.loosen-requires
loosen-requires g c = record {
  place =
      loosened_inside g.P.Ord.cmp c.args.end c.args.peer.now c.args.self.now c.loop-next.self c.loop-next.next
      c.loop-next.invariant.0 c.in-Some.at c.in-Some.is;
}

pub loop-next-preserved : goal.loop-next-preserved
loop-next-preserved g c = (
  loosened_more g.P.Ord.cmp c.args.end c.args.peer.now c.args.self.now c.loop-next.self c.loop-next.next
      c.loop-next.invariant.0 g.met.P.Ord.total c.in-Some.at c.in-Some.is c.next_at-next.result _ c.next_at-next.ensures
      c.in_ok-loosen.ensures.still c.in_ok-loosen.ensures.here,
  c.loosen.ensures.before ∙ c.loop-next.invariant.1,
)

pub loop-next-smaller : goal.loop-next-smaller
loop-next-smaller g c =
    fewer_loosened g.P.Ord.cmp c.args.end c.args.peer.now c.args.self.now c.loop-next.self c.loop-next.next
    c.loop-next.invariant.0 g.met.P.Ord.total c.in-Some.at c.in-Some.is c.next_at-next.result _ c.next_at-next.ensures
    c.in_ok-loosen.ensures.still

pub returns-clause-loosens : goal.returns-clause-loosens
returns-clause-loosens g c =
    loosened_all g.P.Ord.cmp c.args.end c.args.peer.now c.args.self.now c.loop-next.self c.loop-next.next
    c.loop-next.invariant.0 c.in_default.is
