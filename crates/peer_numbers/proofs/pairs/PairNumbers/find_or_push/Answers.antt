use Rattle.std.proofs.Common.{◌≡◌, Some, sym, ap, subst, ◌∙◌}
use Rattle.std.proofs.lemmas.Result.{IfOk-weaker, on_ok_weaker, on_err_weaker}
use Rattle.peer_numbers.specs.Peers.{number_of}
use Rattle.peer_numbers.specs.Pairs.{listed_pairs, ArePairsNumbered}
use Rattle.peer_numbers.proofs.Peers.{number_stays as number_of_peer_stays}
use Rattle.peer_numbers.proofs.OrderedPairs.{on_err, all_stay, listed_stay, with_ends, numbered_after, number_by_ends}
use Rattle.peer_numbers.proofs.pairs.PairNumbers.find_or_push.Given.{Over}
use Rattle.peer_numbers.proofs.pairs.PairNumbers.find_or_push.Goals as goal

-- the origin alone has come

pub invariant_of-self-in_err-recipient : goal.invariant_of-self-in_err-recipient
invariant_of-self-in_err-recipient g c =
    subst (λ peers. ArePairsNumbered g.P.Ord.cmp peers c.self.inside.ends) (sym c.in_err-recipient.ensures.unchanged)
    (all_stay g.P.Ord.cmp c.self.inside.peers c.add.new.self c.args.origin.now c.in_ok-origin.ensures.peers
    c.self.inside.ends c.self.invariant)

pub returns-in_err-recipient-clause-unchanged : goal.returns-in_err-recipient-clause-unchanged
returns-in_err-recipient-clause-unchanged g c =
    let same : listed_pairs c.add-2.new.self c.self.inside.ends ≡ c.args.self.now =
    ap (λ peers. listed_pairs peers c.self.inside.ends) c.in_err-recipient.ensures.unchanged
    ∙ listed_stay g.P.Ord.cmp c.self.inside.peers c.add.new.self c.args.origin.now c.in_ok-origin.ensures.peers
    c.self.inside.ends c.self.invariant
    ∙ c.self.view_is in
    on_err c.from_residual-in_err-recipient.result same

-- both peers have numbers

numbered : (g : Over) (c : goal.After-add-3 g) → ArePairsNumbered g.P.Ord.cmp c.add-2.new.self c.self.inside.ends
numbered g c =
    all_stay g.P.Ord.cmp c.add.new.self c.add-2.new.self c.args.recipient.now c.in_ok-recipient.ensures.peers
    c.self.inside.ends
    (all_stay g.P.Ord.cmp c.self.inside.peers c.add.new.self c.args.origin.now c.in_ok-origin.ensures.peers
    c.self.inside.ends c.self.invariant)

listed : (g : Over) (c : goal.After-add-3 g) → listed_pairs c.add-2.new.self c.self.inside.ends ≡ c.args.self.now
listed g c =
    listed_stay g.P.Ord.cmp c.add.new.self c.add-2.new.self c.args.recipient.now c.in_ok-recipient.ensures.peers
    c.self.inside.ends
    (all_stay g.P.Ord.cmp c.self.inside.peers c.add.new.self c.args.origin.now c.in_ok-origin.ensures.peers
    c.self.inside.ends c.self.invariant)
    ∙ listed_stay g.P.Ord.cmp c.self.inside.peers c.add.new.self c.args.origin.now c.in_ok-origin.ensures.peers
    c.self.inside.ends c.self.invariant
    ∙ c.self.view_is

origin : (g : Over) (c : goal.After-add-3 g)
    → number_of g.P.Ord.cmp c.add-2.new.self c.args.origin.now ≡ Some c.in_ok-origin.origin
origin g c =
    number_of_peer_stays g.P.Ord.cmp c.add.new.self c.args.recipient.now c.add-2.new.self c.in_ok-recipient.ensures.peers
    c.args.origin.now c.in_ok-origin.origin c.in_ok-origin.ensures.number

pub invariant_of-self-2 : goal.invariant_of-self-2
invariant_of-self-2 g c =
    numbered_after g.P.Ord.cmp g.met.P.Ord.total c.add-2.new.self c.self.inside.ends c.add-3.new.self
    (numbered g c) c.args.origin.now c.args.recipient.now
    (record { origin = c.in_ok-origin.origin; recipient = c.in_ok-recipient.recipient }) (origin g c)
    c.in_ok-recipient.ensures.number c.add-3.result c.add-3.ensures.ends c.add-3.ensures.unchanged

pub returns-clause-number : goal.returns-clause-number
returns-clause-number g c =
    IfOk-weaker c.add-3.result _ _
    (λ number h.
    number_by_ends g.P.Ord.cmp g.met.P.Ord.total c.add-2.new.self c.add-3.new.self
    (invariant_of-self-2 g c) c.args.origin.now c.args.recipient.now
    (record { origin = c.in_ok-origin.origin; recipient = c.in_ok-recipient.recipient }) (origin g c)
    c.in_ok-recipient.ensures.number
    ∙ h)
    c.add-3.ensures.number

pub returns-clause-pairs : goal.returns-clause-pairs
returns-clause-pairs g c =
    rw (← listed g c)
    (on_ok_weaker c.add-3.result
    (λ with.
    (with_ends g.P.Ord.cmp g.met.P.Ord.total c.add-2.new.self c.self.inside.ends c.add-3.new.self
    (numbered g c) c.args.origin.now c.args.recipient.now
    (record { origin = c.in_ok-origin.origin; recipient = c.in_ok-recipient.recipient }) (origin g c)
    c.in_ok-recipient.ensures.number with).pairs)
    c.add-3.ensures.ends)

pub returns-clause-unchanged : goal.returns-clause-unchanged
returns-clause-unchanged g c =
    on_err_weaker c.add-3.result (λ kept. ap (listed_pairs c.add-2.new.self) kept ∙ listed g c) c.add-3.ensures.unchanged
