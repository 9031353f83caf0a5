use Rattle.link_flights.proofs.Common.{◌≡◌, ◌≤◌, [], ◌++◌, ◌∷◌, true, length, get_or, refl, ap, ap₂, sym, ◌∙◌, subst}
use Rattle.link_flights.proofs.Common.{arith, map-append, get_or_default, remove, Flight, message_of, messages, caps_of}
use Rattle.link_flights.proofs.Common.{flight_at, PassesNowhere, is_out}
use Rattle.link_pairs.specs.declared.message.Message.{Message}
use Rattle.link_flights.proofs.Flights.Floors.{none_over, over_stay, over_leaves}
use Rattle.link_flights.proofs.Flights.Floors.{all_over, floor_so}
use Rattle.link_flights.proofs.Flights.InFlight.{HaveLeft, none_left, within, step_leaves, steps_stay}
use Rattle.link_flights.proofs.Flights.InFlight.{all_looked_at}
use Rattle.link_flights.proofs.Flights.Leaving.{timed_without, flights_limited_without, parted_so}
use Rattle.link_flights.proofs.flight_list.Flights.take_done.Goals as goal

pub loop-next-init : goal.loop-next-init
loop-next-init g c =
    let old = c.args.self.now in
    let caps = caps_of g.P.Ord.cmp c.args.peers.now.entries c.args.pairs.now.entries in
    let message = λ (f : Flight g.row.P.Denot). message_of f.message.value in
    let out = λ (f : Flight g.row.P.Denot). is_out g.P.Ord.cmp caps old.scale (flight_at old.at f) in (
      subst (λ l. HaveLeft message out old.list.items old.list.items (messages l) 0) (sym c.requires.empty)
          (none_left message out old.list.items),
      refl,
      refl,
      λ h. h,
      λ h. h,
      none_over out old.floor old.list.items,
      refl,
      λ rate h. h,
      refl,
    )

pub loop-next-preserved : goal.loop-next-preserved
loop-next-preserved g c =
    let old = c.args.self.now in
    let now = c.loop-next.self in
    let at = c.in-Some.next in
    let h = c.loop-next.invariant in
    let caps = caps_of g.P.Ord.cmp c.args.peers.now.entries c.args.pairs.now.entries in
    let message = λ (f : Flight g.row.P.Denot). message_of f.message.value in
    let out = λ (f : Flight g.row.P.Denot). is_out g.P.Ord.cmp caps old.scale (flight_at old.at f) in
    let next = c.in-Some.ensures.next in
    let test = λ (f : Flight g.row.P.Denot).
    sym (ap₂ (λ n m. is_out g.P.Ord.cmp caps n (flight_at m f)) h.1 h.2) in
    let stay : PassesNowhere out now.list.items c.loop-next.at at =
    λ i after before d. test (get_or now.list.items i d) ∙ next.before i after before d in
    let done = λ (d : Flight g.row.P.Denot). sym (test (get_or now.list.items at d) ∙ next.here d) in
    let inside : at ≤ length now.list.items = omega (arith, next.high) in
    let gone : message_of c.in_ok-clone.field-0.value ≡ message c.at.result.now =
    ap (λ (m : Message g.row.P.Denot). message_of m) c.in_ok-clone.ensures.cases in
    let here = λ (d : Flight g.row.P.Denot).
    gone ∙ ap message (c.at.ensures ∙ get_or_default now.list.items at c.at.result.now d next.high) in
    let pushed : messages c.push_back.new.self.items
    ≡ messages c.loop-next.done.items ++ message_of c.in_ok-clone.field-0.value ∷ [] =
    ap messages c.in_ok-push_back.ensures.items
    ∙ map-append (λ m. message_of m.value) c.loop-next.done.items (c.in_ok-clone.field-0 ∷ []) in
    let left = step_leaves message out old.list.items now.list.items (messages c.loop-next.done.items) at
    (steps_stay message out old.list.items now.list.items (messages c.loop-next.done.items) c.loop-next.at at h.0
    next.low inside stay)
    (message_of c.in_ok-clone.field-0.value) true next.high refl done here in
    let lowered = c.lower_floor.new.self in
    let list : c.remove.new.self.list.items ≡ remove now.list.items at =
    c.in_ok-remove.ensures.list ∙ ap (λ l. remove l at) c.lower_floor.ensures.list in
    let over = over_leaves out now.floor old.list.items now.list.items at
    (over_stay out now.floor old.list.items now.list.items c.loop-next.at at h.5 next.low inside stay)
    next.high lowered.floor
    c.in_ok-lower_floor.ensures.lowered c.in_ok-lower_floor.ensures.lower in (
      rw (list, pushed) left,
      c.remove.ensures.scale ∙ c.lower_floor.ensures.scale ∙ h.1,
      c.remove.ensures.at ∙ c.lower_floor.ensures.at ∙ h.2,
      λ timed. rw list (timed_without now.list.items at (h.3 timed)),
      λ all.
          rw (list, c.remove.ensures.at, c.lower_floor.ensures.at)
          (flights_limited_without g.P.Ord.cmp caps now.at now.list.items at (h.4 all)),
      rw (list, c.remove.ensures.floor) over,
      c.remove.ensures.before ∙ c.lower_floor.ensures.before ∙ h.6,
      λ rate no_more. rw c.remove.ensures.floor (c.in_ok-lower_floor.ensures.lower rate (h.7 rate no_more)),
      c.remove.ensures.loose ∙ c.lower_floor.ensures.loose ∙ h.8,
    )

pub returns-clause-parted : goal.returns-clause-parted
returns-clause-parted g c =
    let old = c.args.self.now in
    let now = c.loop-next.self in
    let h = c.loop-next.invariant in
    let caps = caps_of g.P.Ord.cmp c.args.peers.now.entries c.args.pairs.now.entries in
    let message = λ (f : Flight g.row.P.Denot). message_of f.message.value in
    let out = λ (f : Flight g.row.P.Denot). is_out g.P.Ord.cmp caps old.scale (flight_at old.at f) in
    let test = λ (f : Flight g.row.P.Denot).
    sym (ap₂ (λ n m. is_out g.P.Ord.cmp caps n (flight_at m f)) h.1 h.2) in
    let stay : PassesNowhere out now.list.items c.loop-next.at (length now.list.items) =
    λ i after before d. test (get_or now.list.items i d) ∙ c.in_default.ensures.next i after before d in
    let done = messages c.loop-next.done.items in
    let all =
    all_looked_at message out old.list.items now.list.items done (length now.list.items)
    (steps_stay message out old.list.items now.list.items done c.loop-next.at (length now.list.items) h.0
    (within message out old.list.items now.list.items done c.loop-next.at h.0) (omega arith) stay) (omega arith) in
    rw h.2
    (parted_so g.P.Ord.cmp caps old.scale old.at old.list.items now.list.items done all.leavers all.stay)

pub returns-clause-floor : goal.returns-clause-floor
returns-clause-floor g c =
    let old = c.args.self.now in
    let now = c.loop-next.self in
    let h = c.loop-next.invariant in
    let caps = caps_of g.P.Ord.cmp c.args.peers.now.entries c.args.pairs.now.entries in
    let message = λ (f : Flight g.row.P.Denot). message_of f.message.value in
    let out = λ (f : Flight g.row.P.Denot). is_out g.P.Ord.cmp caps old.scale (flight_at old.at f) in
    let test = λ (f : Flight g.row.P.Denot).
    sym (ap₂ (λ n m. is_out g.P.Ord.cmp caps n (flight_at m f)) h.1 h.2) in
    let stay : PassesNowhere out now.list.items c.loop-next.at (length now.list.items) =
    λ i after before d. test (get_or now.list.items i d) ∙ c.in_default.ensures.next i after before d in
    let over = over_stay out now.floor old.list.items now.list.items c.loop-next.at (length now.list.items) h.5
    (within message out old.list.items now.list.items (messages c.loop-next.done.items) c.loop-next.at h.0)
    (omega arith) stay in
    floor_so out now.floor (is_out g.P.Ord.cmp caps old.scale) old.at old.list.items (λ f. refl)
    (all_over out now.floor old.list.items now.list.items (length now.list.items) over (omega arith))
