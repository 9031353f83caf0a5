use Rattle.link_waiting.proofs.Common.{◌≡◌, ℕ, ◌+◌, ◌<◌, Option, Some, IfSome, List, [], ◌∷◌, ◌++◌, length, arith, sym}
use Rattle.link_waiting.proofs.Common.{subst, find, AllZip, unwrap_or, message_of, PeerPair, NamesPairOf, Waiter}
use Rattle.link_waiting.proofs.Common.{waiter_of, live, has_pair, due_below, IsDue}
use Rattle.fairness.proofs.Lists.Zips.{zip-push}
use Rattle.link_pairs.specs.declared.message.Message.{Message}
use Rattle.link_waiting.proofs.Idle.Due.{up_to_next, due_of_next, one_and_next}
use Rattle.link_waiting.proofs.slots.Slots.due.Given.{Over}
use Rattle.link_waiting.proofs.slots.Slots.due.Goals as goal

abbrev Named : (g : Over) → List (PeerPair g.row.P.Denot) → List (Waiter g.row.P.Denot) → Type 0
Named g = AllZip (λ key waiter. NamesPairOf g.P.Ord.cmp key waiter.message)

pub loop-next-init : goal.loop-next-init
loop-next-init g c =
    let slots = c.args.self.now in
    let next = c.next_due-next in
    let ws = live slots.slots.items in
    record {
      within = next.ensures.within;
      there = due_of_next c.args.now slots.moments ws 0 next.result next.ensures.some;
      named = subst (Named g c.args.due.items)
          (sym (up_to_next c.args.now slots.moments ws 0 next.result (omega arith)
          next.ensures.within next.ensures.some next.ensures.none))
          (subst (λ keys. Named g keys []) (sym c.requires.empty) tt);
    }

module _ (g : Over) (c : goal.After-next_due-next-in-Some g) where
  abbrev ws : List (Waiter g.row.P.Denot)
  ws = live c.args.self.now.slots.items

  low : c.in-Some.pair < length c.args.self.now.moments
  low = subst (λ (next : Option ℕ). IfSome next (λ at. at < length c.args.self.now.moments)) c.in-Some.is
      c.loop-next.invariant.within

  there : IsDue c.args.self.now.moments c.args.now c.in-Some.pair
  there = subst (λ (next : Option ℕ). IfSome next (IsDue c.args.self.now.moments c.args.now)) c.in-Some.is
      c.loop-next.invariant.there

  before : Named g c.loop-next.due.items (due_below c.args.now c.args.self.now.moments c.in-Some.pair ws)
  before = subst (λ (next : Option ℕ). Named g c.loop-next.due.items
      (due_below c.args.now c.args.self.now.moments (unwrap_or next (length c.args.self.now.moments)) ws)) c.in-Some.is
      c.loop-next.invariant.named

  found : find (has_pair c.in-Some.pair) ws ≡ Some (waiter_of c.in-Some-first.slot.now)
  found = sym c.in-Some-first.ensures

  names : NamesPairOf g.P.Ord.cmp c.in_ok-new.field-0 (waiter_of c.in-Some-first.slot.now).message
  names = subst (λ (m : Message g.row.P.Denot). NamesPairOf g.P.Ord.cmp c.in_ok-new.field-0 (message_of m))
      c.deref-message.ensures
      (record { origin = c.in_ok-new.ensures.origin; recipient = c.in_ok-new.ensures.recipient })

pub loop-next-preserved : goal.loop-next-preserved
loop-next-preserved g c =
    let slots = c.args.self.now in
    let next = c.next_due-next-in-Some in
    let w = waiter_of c.in-Some-first.slot.now in
    record {
      within = next.ensures.within;
      there = due_of_next c.args.now slots.moments (ws g c) (c.in-Some.pair + 1) next.result next.ensures.some;
      named = subst (Named g c.push.new.self.items)
          (sym (one_and_next c.args.now slots.moments (ws g c) c.in-Some.pair w
          next.result (low g c) (found g c) (there g c) next.ensures.within next.ensures.some next.ensures.none))
          (subst (λ keys. Named g keys (due_below c.args.now slots.moments c.in-Some.pair (ws g c) ++ w ∷ []))
          (sym c.in_ok-push.ensures.items)
          (zip-push (λ key waiter. NamesPairOf g.P.Ord.cmp key waiter.message) c.loop-next.due.items
          (due_below c.args.now slots.moments c.in-Some.pair (ws g c)) c.in_ok-new.field-0 w (before g c) (names g c)));
    }

pub returns-clause-due : goal.returns-clause-due
returns-clause-due g c =
    let slots = c.args.self.now in
    subst (λ (moments : List (Option ℕ)). Named g c.loop-next.due.items
    (due_below c.args.now moments (length moments) (live slots.slots.items))) c.requires.stands.moments
    (subst (λ (next : Option ℕ). Named g c.loop-next.due.items
    (due_below c.args.now slots.moments (unwrap_or next (length slots.moments)) (live slots.slots.items))) c.in_default.is
    c.loop-next.invariant.named)
