use Rattle.link_flights.proofs.Common.{◌≡◌, ◌∙◌, sym, arith, subst, IsGcd, gcd, gcd-mod, gcd-IsGcd}
use Rattle.fairness.specs.Numbers.Gcd.{gcd-zero}
use Rattle.link_flights.proofs.flight.common_factor.Goals as goal

pub loop-rest-preserved : goal.loop-rest-preserved
loop-rest-preserved c = (gcd-mod _ _ (omega arith) ∙ c.loop-rest.invariant.0, omega arith)

pub returns : goal.returns
returns c =
    let found : gcd c.args.first c.args.second ≡ c.loop-rest.last =
    sym c.loop-rest.invariant.0 ∙ gcd-zero c.loop-rest.last c.loop-rest.rest (omega arith) in
    record {
      some = c.loop-rest.invariant.1;
      greatest = subst (IsGcd c.args.first c.args.second) found (gcd-IsGcd c.args.first c.args.second);
    }
