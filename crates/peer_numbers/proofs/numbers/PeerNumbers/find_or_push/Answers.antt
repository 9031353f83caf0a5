use Rattle.std.proofs.Common.{rules, ◌≡◌, ◌++◌, ◌∷◌, [], cond, length, None, Some, subst, ap, sym, ◌∙◌}
use Rattle.std.specs.declared.cmp.Ordering.TheVariants.{Equal}
use Rattle.std.specs.Map.{lookup}
use Rattle.fairness.specs.Sides.Subjects.{same_peer}
use Rattle.peer_numbers.specs.Peers.{number_of, AreNumbered}
use Rattle.peer_numbers.proofs.Peers.{more, number_of-last}
use Rattle.peer_numbers.proofs.numbers.PeerNumbers.find_or_push.Given.{Over}
use Rattle.peer_numbers.proofs.numbers.PeerNumbers.find_or_push.Goals as goal

none : (g : Over) (c : goal.In-Ok g) → number_of g.P.Ord.cmp c.self.inside.peers.items c.args.peer.now ≡ None
none g c = search rules

same : (g : Over) (c : goal.In-Ok g) → g.P.Ord.cmp c.in_ok-copy.copy c.args.peer.now ≡ Equal
same g c = search rules

same_key : (g : Over) (c : goal.In-Ok g) → g.P.Ord.cmp c.in_ok-key.key c.args.peer.now ≡ Equal
same_key g c = search rules

pushed : (g : Over) (c : goal.In-Ok g)
    → c.push.new.self.items ≡ c.self.inside.peers.items ++ c.in_ok-copy.copy ∷ []
pushed g c = search rules

count : (g : Over) (c : goal.In-Ok g) → c.len-number.result ≡ length c.self.inside.peers.items
count g c = search rules

pub invariant_of-self-in-Ok : goal.invariant_of-self-in-Ok
invariant_of-self-in-Ok g c =
    subst (λ peers. AreNumbered g.P.Ord.cmp peers c.insert.new.self.entries) (sym (pushed g c))
    (more g.P.Ord.cmp g.met.P.Ord.total c.self.inside.peers.items c.self.inside.numbers.entries
    c.insert.new.self.entries c.args.peer.now c.in_ok-copy.copy c.in_ok-key.key c.self.invariant (none g c) (same g c)
    (same_key g c)
    (λ other. c.in-Ok.ensures.updates.0 other
    ∙ ap (λ n. cond (same_peer g.P.Ord.cmp c.in_ok-key.key other) (Some n)
    (lookup (same_peer g.P.Ord.cmp other) c.self.inside.numbers.entries))
    (count g c)))

pub returns-clause-number : goal.returns-clause-number
returns-clause-number g c =
    ap (λ peers. number_of g.P.Ord.cmp peers c.args.peer.now) (pushed g c)
    ∙ number_of-last g.P.Ord.cmp g.met.P.Ord.total c.self.inside.peers.items c.args.peer.now c.in_ok-copy.copy (none g c)
    (same g c)
    ∙ ap Some (sym (count g c))
