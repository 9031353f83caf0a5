use Rattle.link_replay.proofs.Common.{[], ◌∷◌, ∥∥₁_elim}
use Rattle.std.proofs.Math.Nat.{ℕ_set}
use Rattle.link_simulation.specs.Laws.PairCompletions.{enqueued}
use Rattle.link_simulation.proofs.Laws.ConservedCount.{all_counted}
use Rattle.link_simulation.proofs.Rule.OneMeaning.{one_run, one_going}
use Rattle.link_replay.proofs.clauses.a_call_that_is_made_keeps_its_promises.Goals as goal

pub returns-clause-rule : goal.returns-clause-rule
returns-clause-rule g c p q r call cs ds made obeys =
    one_going g.P.Ord.cmp g.met.P.Ord.total p q r call cs ds made.by_rule obeys

pub returns-clause-simulated : goal.returns-clause-simulated
returns-clause-simulated g c p q w v call now cs ds made called runs =
    one_run g.P.Ord.cmp g.met.P.Ord.total p q w v call now cs ds made.simulated called runs

pub returns-clause-counted : goal.returns-clause-counted
returns-clause-counted g c p q call cs made =
    ∥∥₁_elim made.conserved (ℕ_set _ _) (all_counted g.P.Ord.cmp g.met.P.Ord.total p q (enqueued (call ∷ [])) cs)

pub returns-clause-rated : goal.returns-clause-rated
returns-clause-rated g c p q call cs made = made.rated

pub returns-clause-in_range : goal.returns-clause-in_range
returns-clause-in_range g c p q call cs made within = made.in_range within
