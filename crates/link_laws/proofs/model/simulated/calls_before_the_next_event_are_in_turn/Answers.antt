use Rattle.link_simulation.proofs.Common.{◌<◌, ◌≤◌, refl, sym, subst, arith, next_event, new_world}
use Rattle.std.proofs.Common.{IfSome}
use Rattle.link_simulation.proofs.Laws.TurnByNext.{turn_by_next, called_at_once}
use Rattle.link_laws.proofs.model.simulated.calls_before_the_next_event_are_in_turn.Goals as goal

pub returns-clause-before : goal.returns-clause-before
returns-clause-before g c = turn_by_next g.P.Ord.cmp g.met.P.Ord.total

pub returns-clause-called : goal.returns-clause-called
returns-clause-called g c p w call now stands moment later next = record {
  stands = stands;
  moment = moment;
  turn = turn_by_next g.P.Ord.cmp g.met.P.Ord.total p w call now stands moment later next;
}

pub returns-clause-first : goal.returns-clause-first
returns-clause-first g c p id now call new stands moment =
    let next = subst (λ q. IfSome (next_event q) (λ t. now < t)) (sym new) tt in
    let later : 0 ≤ now = omega arith in
    grind (arith, (turn_by_next g.P.Ord.cmp g.met.P.Ord.total p (new_world id) call now stands moment later next))

pub returns-clause-advance : goal.returns-clause-advance
returns-clause-advance g c p w now stands later = record { stands = stands; moment = refl; turn = later }

pub returns-clause-at_once : goal.returns-clause-at_once
returns-clause-at_once g c = called_at_once g.P.Ord.cmp g.met.P.Ord.total
