use Rattle.fair_rates.proofs.Common.{◌≡◌, ◌<◌, All, Some, length, subst, arith, common_steps, take_all, get_or, None, level_at}
use Rattle.std.proofs.lemmas.List.Sums.{sum_by-set}
use Rattle.fair_rates.specs.Filling.States.{rises}
use Rattle.fair_rates.proofs.Filling.Levels.{levels_next, rises_where_none, bool_small}
use Rattle.fair_rates.proofs.bandwidth.parts.set_levels.Goals as goal

pub loop-user-preserved : goal.loop-user-preserved
loop-user-preserved c =
    let i = c.loop-user.user-index in
    let inside : i < length c.args.users.now = omega (arith, c.loop-user-test.true) in
    let user = get_or c.args.users.now i 0 in
    let within : user < length c.loop-user.level_of = grind (arith, common_steps, c.requires) in
    let next =
    levels_next c.args.level_of.now c.loop-user.level_of c.args.users.now i c.args.place inside
    within c.loop-user.invariant.all
    c.loop-user.invariant.others in
    record {
      all = next.0;
      others = next.1;
      fewer = omega (
        arith,
        c.loop-user.invariant.fewer,
        sum_by-set rises c.loop-user.level_of user (Some c.args.place) None within,
        rises_where_none (get_or c.loop-user.level_of user None) c.is_none.result c.is_none.ensures,
      );
      few = omega (arith, c.loop-user.invariant.few, bool_small c.is_none.result);
    }

pub returns-clause-all : goal.returns-clause-all
returns-clause-all c =
    subst (All (λ flow. level_at c.loop-user.level_of flow ≡ Some c.args.place))
    (take_all c.loop-user.user-index c.args.users.now (omega (arith, c.loop-user-test.false)))
    c.loop-user.invariant.all
