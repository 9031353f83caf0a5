use Rattle.link_scheduler.proofs.Common.{sym, subst, IsPlanned, planned, looked_up, arrivals_looked_up}
use Rattle.link_simulation.proofs.Laws.MostEvents.{new_is_planned}
use Rattle.link_scheduler.proofs.Calls.Promises.{new_one_stands, new_one_in_range, new_one_orderly}
use Rattle.link_scheduler.proofs.transmitter.State.with_payload.Goals as goal

pub invariant_of-result-clause-caps : goal.invariant_of-result-clause-caps
invariant_of-result-clause-caps g c =
    looked_up g.P.Ord.cmp g.met.P.Ord.total c.new.result.peers.entries c.new.result.pairs.entries

pub invariant_of-result-clause-arrivals : goal.invariant_of-result-clause-arrivals
invariant_of-result-clause-arrivals g c = arrivals_looked_up g.P.Ord.cmp g.met.P.Ord.total c.new.result.pairs.entries

pub invariant_of-result-clause-right : goal.invariant_of-result-clause-right
invariant_of-result-clause-right g c =
    ∣ subst (IsPlanned g.P.Ord.cmp) (sym c.new.ensures.planned) (new_is_planned g.P.Ord.cmp g.met.P.Ord.total c.args.first) ∣₁

pub invariant_of-result-clause-orderly : goal.invariant_of-result-clause-orderly
invariant_of-result-clause-orderly g c =
    new_one_orderly g.P.Ord.cmp g.met.P.Ord.total (planned g.P.Ord.cmp c.new.result) c.args.first c.new.ensures.planned

pub returns : goal.returns
returns g c = record {
  new = record {
    planned = c.new.ensures.planned;
    stands = new_one_stands g.P.Ord.cmp g.met.P.Ord.total (planned g.P.Ord.cmp c.new.result) c.args.first c.new.ensures.planned;
    in_range =
        new_one_in_range g.P.Ord.cmp g.met.P.Ord.total (planned g.P.Ord.cmp c.new.result) c.args.first c.new.ensures.planned
        c.ranges.first.fits;
  };
}
