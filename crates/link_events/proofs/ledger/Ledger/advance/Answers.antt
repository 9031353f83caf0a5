use Rattle.link_events.proofs.Common.{◌≡◌, ◌+◌, ◌<◌, ◌≤◌, map, length, arith, ◌∙◌, err_from_is_err_and, planned}
use Rattle.link_events.proofs.Common.{ended_of}
use Rattle.link_flights.proofs.Flights.Standing.{length_in_flight}
use Rattle.link_events.proofs.Steps.Advancing.{advances_step, advances_end, event_refused, wake_refused}
use Rattle.link_events.proofs.Steps.FewerEvents.{events_left, happens_fewer, events_few}
use Rattle.link_events.proofs.ledger.Ledger.advance.Goals as goal

pub returns-in_err-happen-clause-refused : goal.returns-in_err-happen-clause-refused
returns-in_err-happen-clause-refused g c =
    let p = err_from_is_err_and c.from_residual.result c.from_residual.ensures.1 in
    rw (p.1, p.2) (event_refused g.P.Ord.cmp c.args.now (planned g.P.Ord.cmp c.args.self.now)
    (planned g.P.Ord.cmp c.loop-event.self)
    (map ended_of c.loop-event.ended.items) c.loop-event.events c.in-Some.event c.loop-event.invariant.so
    c.in-Some.ensures _ c.in_err-happen.ensures.refused)

pub overflow_add-events : goal.overflow_add-events
overflow_add-events g c =
    let h = c.in_ok-happen.ensures.happens in
    let fewer : events_left g.P.Ord.cmp (planned g.P.Ord.cmp c.happen.new.self) + 1 ≤ events_left g.P.Ord.cmp
    (planned g.P.Ord.cmp c.loop-event.self) = happens_fewer g.P.Ord.cmp g.met.P.Ord.total c.args.now c.in-Some.event
    (planned g.P.Ord.cmp c.loop-event.self) (planned g.P.Ord.cmp c.happen.new.self) h.0 c.in-Some.ensures h.2 in
    let few : c.loop-event.events + events_left g.P.Ord.cmp (planned g.P.Ord.cmp c.loop-event.self)
    ≤ events_left g.P.Ord.cmp (planned g.P.Ord.cmp c.args.self.now) =
    c.loop-event.invariant.few in
    let old = c.args.self.now in
    let sends : length (planned g.P.Ord.cmp old).sending ≡ length old.flights.list.items =
    length_in_flight old.flights.scale old.flights.at old.flights.list.items in
    let all : events_left g.P.Ord.cmp (planned g.P.Ord.cmp old) < 340282366920938463463374607431768211456
    = events_few g.P.Ord.cmp (planned g.P.Ord.cmp old) (omega (arith, c.len-waiting.ensures))
    (omega (arith, sends, c.len-sending.ensures)) in
    omega (arith, fewer, few, all)

pub loop-event-smaller : goal.loop-event-smaller
loop-event-smaller g c =
    let h = c.in_ok-happen.ensures.happens in
    let fewer : events_left g.P.Ord.cmp (planned g.P.Ord.cmp c.happen.new.self) + 1 ≤ events_left g.P.Ord.cmp
    (planned g.P.Ord.cmp c.loop-event.self) = happens_fewer g.P.Ord.cmp g.met.P.Ord.total c.args.now c.in-Some.event
    (planned g.P.Ord.cmp c.loop-event.self) (planned g.P.Ord.cmp c.happen.new.self) h.0 c.in-Some.ensures h.2 in
    omega (arith, fewer)

pub loop-event-preserved : goal.loop-event-preserved
loop-event-preserved g c =
    let h = c.in_ok-happen.ensures.happens in
    let fewer : events_left g.P.Ord.cmp (planned g.P.Ord.cmp c.happen.new.self) + 1 ≤ events_left g.P.Ord.cmp
    (planned g.P.Ord.cmp c.loop-event.self) = happens_fewer g.P.Ord.cmp g.met.P.Ord.total c.args.now c.in-Some.event
    (planned g.P.Ord.cmp c.loop-event.self) (planned g.P.Ord.cmp c.happen.new.self) h.0 c.in-Some.ensures h.2 in
    let few : c.loop-event.events + events_left g.P.Ord.cmp (planned g.P.Ord.cmp c.loop-event.self)
    ≤ events_left g.P.Ord.cmp (planned g.P.Ord.cmp c.args.self.now) =
    c.loop-event.invariant.few in
    record {
      so =
          advances_step g.P.Ord.cmp c.args.now (planned g.P.Ord.cmp c.args.self.now)
          (planned g.P.Ord.cmp c.loop-event.self) (planned g.P.Ord.cmp c.happen.new.self)
          (map ended_of c.loop-event.ended.items)
          (map ended_of c.happen.new.ended.items) h.0 c.loop-event.events c.in-Some.event c.loop-event.invariant.so
          c.in-Some.ensures h.2 h.1;
      few = omega (arith, fewer, few);
      before = c.happen.ensures.before ∙ c.loop-event.invariant.before;
    }

pub returns-in_err-wake-clause-refused : goal.returns-in_err-wake-clause-refused
returns-in_err-wake-clause-refused g c =
    let p = err_from_is_err_and c.from_residual-in_err-wake.result c.from_residual-in_err-wake.ensures.1 in
    rw (p.1, p.2) (wake_refused g.P.Ord.cmp c.args.now (planned g.P.Ord.cmp c.args.self.now)
    (planned g.P.Ord.cmp c.loop-event.self)
    (map ended_of c.loop-event.ended.items) c.loop-event.events c.loop-event.invariant.so c.in_default.ensures _
    c.in_err-wake.ensures.refused)

pub returns-clause-advances : goal.returns-clause-advances
returns-clause-advances g c =
    let h = c.in_ok-wake.ensures.wakes in
    advances_end g.P.Ord.cmp c.args.now (planned g.P.Ord.cmp c.args.self.now) (planned g.P.Ord.cmp c.loop-event.self)
    (planned g.P.Ord.cmp c.wake.new.self) (map ended_of c.loop-event.ended.items)
    (map ended_of c.wake.new.ended.items) h.0 c.loop-event.events c.loop-event.invariant.so c.in_default.ensures h.2 h.1
