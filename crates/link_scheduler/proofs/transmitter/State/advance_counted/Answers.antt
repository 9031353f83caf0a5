use Rattle.link_scheduler.proofs.Common.{[], map, ap, refl, call_advance, planned, completed_by, looked_up}
use Rattle.link_scheduler.proofs.Common.{arrivals_looked_up, if_ok}
use Rattle.link_scheduler.proofs.Calls.Answered.{rested, right_after, orderly_after, made_after, counted_after, few_after}
use Rattle.link_scheduler.proofs.Calls.Promises.{split_on, within_caps_on}
use Rattle.link_scheduler.proofs.transmitter.State.advance_counted.Goals as goal

-- where nothing happens up to then

pub invariant_of-self-clause-caps : goal.invariant_of-self-clause-caps
invariant_of-self-clause-caps g c =
    looked_up g.P.Ord.cmp g.met.P.Ord.total c.pass.new.self.peers.entries c.pass.new.self.pairs.entries

pub invariant_of-self-clause-arrivals : goal.invariant_of-self-clause-arrivals
invariant_of-self-clause-arrivals g c = arrivals_looked_up g.P.Ord.cmp g.met.P.Ord.total c.pass.new.self.pairs.entries

pub invariant_of-self-clause-right : goal.invariant_of-self-clause-right
invariant_of-self-clause-right g c =
    let p = planned g.P.Ord.cmp c.args.self.now.ledger in
    let q = planned g.P.Ord.cmp c.pass.new.self in
    right_after g.P.Ord.cmp g.met.P.Ord.total p (call_advance c.args.now) 0 [] q
    (rested g.P.Ord.cmp c.args.now p q c.pass.ensures.advances) c.args.self.now.right

pub invariant_of-self-clause-orderly : goal.invariant_of-self-clause-orderly
invariant_of-self-clause-orderly g c =
    let p = planned g.P.Ord.cmp c.args.self.now.ledger in
    let q = planned g.P.Ord.cmp c.pass.new.self in
    orderly_after g.P.Ord.cmp g.met.P.Ord.total p (call_advance c.args.now) 0 [] q
    (rested g.P.Ord.cmp c.args.now p q c.pass.ensures.advances) c.args.self.now.orderly

pub returns-then-is_quiet-clause-made : goal.returns-then-is_quiet-clause-made
returns-then-is_quiet-clause-made g c =
    let p = planned g.P.Ord.cmp c.args.self.now.ledger in
    let q = planned g.P.Ord.cmp c.pass.new.self in
    rw (ap (map (completed_by g.M.Payload.bytes)) c.new.ensures.items)
    (made_after g.P.Ord.cmp g.met.P.Ord.total p (call_advance c.args.now) 0 [] q
    (rested g.P.Ord.cmp c.args.now p q c.pass.ensures.advances) c.args.now refl c.ranges.now.fits
    c.args.self.now.orderly (looked_up g.P.Ord.cmp g.met.P.Ord.total c.pass.new.self.peers.entries
    c.pass.new.self.pairs.entries)
    (arrivals_looked_up g.P.Ord.cmp g.met.P.Ord.total c.pass.new.self.pairs.entries))

pub returns-then-is_quiet-clause-advanced : goal.returns-then-is_quiet-clause-advanced
returns-then-is_quiet-clause-advanced g c =
    let p = planned g.P.Ord.cmp c.args.self.now.ledger in
    let q = planned g.P.Ord.cmp c.pass.new.self in
    let went = (returns-then-is_quiet-clause-made g c).by_rule in
    record {
      split = split_on g.P.Ord.cmp g.met.P.Ord.total p q c.args.now _ c.ranges.now.fits went;
      within_caps = within_caps_on g.P.Ord.cmp g.met.P.Ord.total p q c.args.now _ c.ranges.now.fits went;
    }

pub returns-then-is_quiet-clause-counted : goal.returns-then-is_quiet-clause-counted
returns-then-is_quiet-clause-counted g c =
    let p = planned g.P.Ord.cmp c.args.self.now.ledger in
    let q = planned g.P.Ord.cmp c.pass.new.self in
    let h = rested g.P.Ord.cmp c.args.now p q c.pass.ensures.advances in
    record {
      by_rule = rw (ap (map (completed_by g.M.Payload.bytes)) c.new.ensures.items)
          (counted_after g.P.Ord.cmp g.met.P.Ord.total c.args.now p 0 [] q h
          (looked_up g.P.Ord.cmp g.met.P.Ord.total c.pass.new.self.peers.entries c.pass.new.self.pairs.entries)
          (arrivals_looked_up g.P.Ord.cmp g.met.P.Ord.total c.pass.new.self.pairs.entries));
      few = few_after g.P.Ord.cmp g.met.P.Ord.total c.args.now p 0 [] q h c.args.self.now.right;
    }

-- where something does

pub returns-clause-advanced : goal.returns-clause-advanced
returns-clause-advanced g c =
    let p = planned g.P.Ord.cmp c.args.self.now.ledger in
    let q = planned g.P.Ord.cmp c.make.new.self.ledger in
    if_ok c.make.result (λ answer made. record {
      split = split_on g.P.Ord.cmp g.met.P.Ord.total p q c.args.now _ c.ranges.now.fits made.by_rule;
      within_caps = within_caps_on g.P.Ord.cmp g.met.P.Ord.total p q c.args.now _ c.ranges.now.fits made.by_rule;
    }) c.make.ensures.made

pub returns-clause-counted : goal.returns-clause-counted
returns-clause-counted g c =
    let p = planned g.P.Ord.cmp c.args.self.now.ledger in
    let new = c.make.new.self in
    let q = planned g.P.Ord.cmp new.ledger in
    if_ok c.make.result (λ answer h. record {
      by_rule = counted_after g.P.Ord.cmp g.met.P.Ord.total c.args.now p answer.1 _ q h new.caps new.arrivals;
      few = few_after g.P.Ord.cmp g.met.P.Ord.total c.args.now p answer.1 _ q h c.args.self.now.right;
    }) c.make.ensures.answered
