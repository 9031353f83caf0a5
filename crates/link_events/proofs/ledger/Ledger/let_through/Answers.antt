use Rattle.link_events.proofs.Common.{◌≡◌, ◌∷◌, ◌++◌, [], true, List, sym, ap, ◌∙◌, subst, map-append, ∥∥₁_map, Message}
use Rattle.link_events.proofs.Common.{is_unlimited, Planned, launched, Leaves, HadFairRates, message_of, messages}
use Rattle.link_events.proofs.Common.{planned, gone_through, OnOk}
use Rattle.link_events.specs.Steps.Through.{IsPassed}
use Rattle.link_events.proofs.Steps.Through.{is_free, leaves_through, had_through, through_alone}
use Rattle.link_events.proofs.ledger.Ledger.let_through.Given.{Over}
use Rattle.link_events.proofs.ledger.Ledger.let_through.Goals as goal

module _ (g : Over) (c : goal.After-done-3-1 g) where
  abbrev P : Type 0
  P = g.row.P.Denot

  abbrev p : Planned P
  p = planned g.P.Ord.cmp c.args.self.now

  abbrev m : Message P
  m = message_of c.in_ok-message.message.value

  free : is_unlimited g.P.Ord.cmp p.caps m ≡ true
  free =
      is_free g.P.Ord.cmp g.met.P.Ord.total p c.args.origin.now c.args.recipient.now m c.in_ok-message.ensures.taken
      c.requires.first

  pushed : messages c.push_back.new.self.items ≡ messages c.in_ok-done.done.items ++ m ∷ []
  pushed =
      ap messages c.in_ok-push_back.ensures.items
      ∙ map-append (λ x. message_of x.value) c.in_ok-done.done.items (c.in_ok-message.message ∷ [])

  before : Leaves g.P.Ord.cmp c.args.now (gone_through g.P.Ord.cmp p m) (messages c.in_ok-done.done.items)
      (planned g.P.Ord.cmp c.leave_at.new.self)
  before =
      subst
      (λ (q : Planned P). Leaves g.P.Ord.cmp c.args.now q (messages c.in_ok-done.done.items)
      (planned g.P.Ord.cmp c.leave_at.new.self))
      c.in_ok-message.ensures.gone c.in_ok-done.ensures.leaves

  leaves : Leaves g.P.Ord.cmp c.args.now (launched g.P.Ord.cmp c.args.now p m) (messages c.push_back.new.self.items)
      (planned g.P.Ord.cmp c.leave_at.new.self)
  leaves =
      subst
      (λ (ls : List (Message P)). Leaves g.P.Ord.cmp c.args.now (launched g.P.Ord.cmp c.args.now p m) ls
      (planned g.P.Ord.cmp c.leave_at.new.self))
      (sym pushed)
      (leaves_through g.P.Ord.cmp c.args.now p (planned g.P.Ord.cmp c.leave_at.new.self) m
      (messages c.in_ok-done.done.items) free before)

pub rate-requires-clause-leaves : goal.rate-requires-clause-leaves
rate-requires-clause-leaves g c =
    (launched g.P.Ord.cmp c.args.now (p g c) (m g c), messages c.push_back.new.self.items, leaves g c)

pub rate-requires-clause-fair : goal.rate-requires-clause-fair
rate-requires-clause-fair g c = λ fair.
    let q : Planned g.row.P.Denot = planned g.P.Ord.cmp c.leave_at.new.self in
    ∥∥₁_map (c.in_ok-done.ensures.fair fair) (λ had.
    subst (HadFairRates g.P.Ord.cmp q.caps c.leave_at.new.self.flights) (sym (pushed g c))
    (had_through g.P.Ord.cmp q.caps c.leave_at.new.self.flights (messages c.in_ok-done.done.items)
    c.in_ok-message.message.value
    (subst (λ caps. is_unlimited g.P.Ord.cmp caps (m g c) ≡ true)
    (sym (ap (λ (w : Planned g.row.P.Denot). w.caps) (before g c).is)) (free g c))
    had))

pub returns-clause-accounts : goal.returns-clause-accounts
returns-clause-accounts g c = (
  m g c.before.before.before,
  c.in_ok-message.ensures.taken,
  c.in_ok-rate.ensures.accounts (launched g.P.Ord.cmp c.args.now (p g c.before.before.before) (m g c.before.before.before))
      (messages c.push_back.new.self.items) (leaves g c.before.before.before),
)

pub returns-then-is_empty-clause-accounts : goal.returns-then-is_empty-clause-accounts
returns-then-is_empty-clause-accounts g c =
    let cmp = g.P.Ord.cmp in
    let p = planned cmp c.args.self.now in
    let o = c.args.origin.now in
    let r = c.args.recipient.now in
    let m = message_of c.in_ok-message.message.value in
    through_alone cmp g.met.P.Ord.total c.args.now p o r m c.in_ok-message.ensures.taken
    (is_free cmp g.met.P.Ord.total p o r m c.in_ok-message.ensures.taken c.requires.first) (λ ms. messages ms.items)
    c.done_alone.result (planned cmp c.done_alone.new.self) c.done_alone.ensures.done
    (subst (λ (q : Planned g.row.P.Denot). OnOk c.done_alone.result (IsPassed c.args.now q (planned cmp c.done_alone.new.self)))
    c.in_ok-message.ensures.gone c.done_alone.ensures.passes)
