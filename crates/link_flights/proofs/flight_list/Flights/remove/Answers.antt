use Rattle.link_flights.proofs.Common.{◌-◌, sym, ap, ◌∙◌, subst, arith, list_all, HaveRates}
use Rattle.link_flights.proofs.Flights.Flight.{all_but, is_past}
use Rattle.link_flights.proofs.Flights.Settled.{rates_less, rates_still}
use Rattle.link_flights.proofs.flight_list.Flights.remove.Goals as goal
use Rattle.link_flights.proofs.flight_list.Flights.remove.Goals.{then-at-self, else-at-self}

pub invariant_of-self-2-clause-past : goal.invariant_of-self-2-clause-past
invariant_of-self-2-clause-past g c =
    let old = c.args.self.now in
    ap (list_all (is_past old.at)) c.in_default.ensures.items
    ∙ all_but (is_past old.at) old.list.items c.args.at old.past

pub invariant_of-self-2-clause-have_rates : goal.invariant_of-self-2-clause-have_rates
invariant_of-self-2-clause-have_rates g c =
    let old = c.args.self.now in
    let list = c.in_default.ensures.items in
    elim c.if-at-self.branch [
      | then-at-self w ↦
          subst (λ n. HaveRates n c.remove.new.self.items) (sym w.settled-is)
          (subst (HaveRates (old.settled - 1)) (sym list)
          (rates_less (old.settled - 1) old.list.items c.args.at
          (subst (λ n. HaveRates n old.list.items) (omega (arith, w.if-at-self.true)) old.have_rates)
          (omega (arith, w.if-at-self.true))))
      | else-at-self w ↦
          subst (λ n. HaveRates n c.remove.new.self.items) (sym w.settled-is)
          (subst (HaveRates old.settled) (sym list)
          (rates_still old.settled old.list.items c.args.at old.have_rates (omega (arith, w.if-at-self.false))
          c.requires))
    ]
