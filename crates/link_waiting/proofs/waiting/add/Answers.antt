use Rattle.link_waiting.proofs.Common.{◌≡◌, Some, List, Option, sym, subst, message_of, Waiter, live, AreNumbered}
use Rattle.link_waiting.proofs.Common.{number_of_pair, Slot}
use Rattle.link_waiting.proofs.Idle.Numbered.{numbered_more, numbered_added}
use Rattle.link_waiting.proofs.Idle.Told.{since_same}
use Rattle.link_pairs.specs.declared.message.Message.{Message}
use Rattle.link_waiting.proofs.waiting.add.Given as given
use Rattle.link_waiting.proofs.waiting.add.Goals as goal

pub returns-in_err-pair-clause-numbered : goal.returns-in_err-pair-clause-numbered
returns-in_err-pair-clause-numbered g c =
    subst (λ pairs. AreNumbered g.P.Ord.cmp pairs (live c.args.slots.now.slots.before)) (sym c.in_err-pair.ensures.unchanged)
    c.requires.before

pub returns-in_err-new-clause-numbered : goal.returns-in_err-new-clause-numbered
returns-in_err-new-clause-numbered g c =
    numbered_more g.P.Ord.cmp g.met.P.Ord.total c.args.pairs.now c.args.message.origin c.args.message.recipient c.add.new.self
    c.in_ok-pair.ensures.pairs (live c.args.slots.now.slots.before) c.requires.before

pub returns-in_err-push-clause-numbered : goal.returns-in_err-push-clause-numbered
returns-in_err-push-clause-numbered g c =
    subst (λ (slots : List (Option (Slot g.row.P.Denot))). AreNumbered g.P.Ord.cmp c.add.new.self (live slots))
    (sym c.push.ensures.before)
    (numbered_more g.P.Ord.cmp g.met.P.Ord.total c.args.pairs.now c.args.message.origin c.args.message.recipient
    c.add.new.self c.in_ok-pair.ensures.pairs (live c.args.slots.now.slots.before) c.requires.before)

module _ (g : given.Over) (c : goal.In_ok-push g) where
  before : AreNumbered g.P.Ord.cmp c.add.new.self (live c.push.new.self.slots.before)
  before = subst (λ (slots : List (Option (Slot g.row.P.Denot))). AreNumbered g.P.Ord.cmp c.add.new.self (live slots))
      (sym c.push.ensures.before)
      (numbered_more g.P.Ord.cmp g.met.P.Ord.total c.args.pairs.now c.args.message.origin c.args.message.recipient
      c.add.new.self c.in_ok-pair.ensures.pairs (live c.args.slots.now.slots.before) c.requires.before)

  was : AreNumbered g.P.Ord.cmp c.add.new.self (live c.args.slots.now.slots.items)
  was = numbered_more g.P.Ord.cmp g.met.P.Ord.total c.args.pairs.now c.args.message.origin c.args.message.recipient
      c.add.new.self c.in_ok-pair.ensures.pairs (live c.args.slots.now.slots.items) c.requires.now

  abbrev waiter : Waiter g.row.P.Denot
  waiter = record { message = message_of c.in_ok-new.field-0.value; pair = c.in_ok-pair.pair }

  numbered : AreNumbered g.P.Ord.cmp c.add.new.self (live c.push.new.self.slots.items)
  numbered = subst (AreNumbered g.P.Ord.cmp c.add.new.self) (sym c.in_ok-push.ensures.now)
      (numbered_added g.P.Ord.cmp g.met.P.Ord.total c.add.new.self waiter
      (subst (λ (m : Message g.row.P.Denot). number_of_pair g.P.Ord.cmp c.add.new.self m.origin m.recipient ≡ Some c.in_ok-pair.pair)
      (sym c.in_ok-new.ensures.ok) c.in_ok-pair.ensures.number)
      (live c.args.slots.now.slots.items) was)

pub returns-clause-told : goal.returns-clause-told
returns-clause-told g c =
    since_same g.P.Ord.cmp g.met.P.Ord.total c.add.new.self c.args.slots.now.sinces.items c.push.new.self.sinces.items
    (live c.args.slots.now.slots.items) (live c.push.new.self.slots.items) c.requires.stands.told (was g c)
    c.in_ok-push.ensures.stands.told (numbered g c) c.push.ensures.told

pub returns-clause-kept : goal.returns-clause-kept
returns-clause-kept g c = record {
  stands = c.in_ok-push.ensures.stands;
  marked = c.push.ensures.marked;
  now = numbered g c;
  before = before g c;
}

pub returns-clause-numbered : goal.returns-clause-numbered
returns-clause-numbered g c = before g c
