use Rattle.link_flights.proofs.Common.{[], ℕ, ◌≤◌, ◌+◌, All, length, refl, sym, ◌∙◌, subst, arith}
use Rattle.link_flights.proofs.Common.{append-nil, take_all, All-nil, AreAllListed, AreListed, AreNoted, IsTouched}
use Rattle.std.specs.Prelude.{IfSome}
use Rattle.link_flights.specs.Flights.Components.{IsSuited}
use Rattle.link_flights.proofs.Flights.Noted.{noted_in_order}
use Rattle.link_flights.proofs.Flights.Search.{HasGrown, starts_on, walked_in_order}
use Rattle.link_flights.proofs.flight_list.Flights.grow.Goals as goal

pub loop-next-init : goal.loop-next-init
loop-next-init g c =
    let list = c.args.self.now.list.items in
    let old = c.args.component.now in
    let none : (Q : ℕ → Type 0) → All Q old.near.items = λ Q. subst (All Q) (sym c.requires.none) (All-nil Q) in
    let start = record old { level = c.in_ok-component.field-0 } in
    let small : length old.joined.items ≤ 48 + c.len.result = c.is_large.ensures c.if-is_large.false in
    let grown : HasGrown g.P.Ord.cmp list c.args.self.now.floor 0 start start =
    record {
      walked = record {
        listed = All-nil (λ j. AreListed g.P.Ord.cmp j old.near.items list);
        touched = none (IsTouched g.P.Ord.cmp start list);
        suited = none (IsSuited g.P.Ord.cmp start list);
      };
      joined = ([], sym (append-nil old.joined.items));
      few = omega (arith, small, c.len.ensures);
      level = c.in_ok-component.ensures.level;
      whole = refl;
    } in
    (grown, subst (λ places. AreNoted places c.args.noted.now.items) (sym c.requires.none) c.requires.noted, c.requires.each, λ tied. tied)

pub loop-next-preserved : goal.loop-next-preserved
loop-next-preserved g c =
    let before = c.loop-next.invariant.0 in
    let join = c.list_joining.ensures in
    let more = c.in_ok-list_joining.ensures in
    let small : length c.list_joining.new.component.joined.items ≤ 48 + c.len-in-loop-next-2.result =
    c.is_large-in-loop-next.ensures c.if-is_large-2.false in
    let grown : HasGrown g.P.Ord.cmp c.args.self.now.list.items c.args.self.now.floor (c.loop-next.next + 1)
    _ c.list_joining.new.component =
    record {
      walked = more.walked;
      joined = starts_on _ c.loop-next.component.joined.items
          c.list_joining.new.component.joined.items before.joined more.joined;
      few = omega (arith, small, c.len-in-loop-next-2.ensures);
      level = subst (λ level. IfSome c.args.self.now.floor (λ floor. level ≤ floor)) (sym join.level) before.level;
      whole = join.whole ∙ before.whole;
    } in
    (grown, more.noted, join.each ∙ c.loop-next.invariant.2, λ tied. more.tied (c.loop-next.invariant.3 tied))

pub returns-clause-walked : goal.returns-clause-walked
returns-clause-walked g c all =
    let found = c.loop-next.component in
    let done : length found.joined.items ≤ c.loop-next.next =
    omega (arith, c.loop-next-test.false, c.len.ensures) in
    let walked = c.loop-next.invariant.0.walked in
    walked_in_order g.P.Ord.cmp (length found.joined.items) found c.put_in_order.new.places
    c.args.self.now.list.items c.in_ok-put_in_order.ensures.still c.in_ok-put_in_order.ensures.only
    (record {
      listed = subst (λ ms. AreAllListed g.P.Ord.cmp ms found.near.items c.args.self.now.list.items)
          (take_all c.loop-next.next found.joined.items done
          ∙ sym (take_all (length found.joined.items) found.joined.items (omega arith))) walked.listed;
      touched = walked.touched;
      suited = walked.suited;
    })

pub returns-clause-noted : goal.returns-clause-noted
returns-clause-noted g c all =
    noted_in_order c.loop-next.component.near.items c.put_in_order.new.places.items c.loop-next.noted.items
    c.loop-next.invariant.1 c.in_ok-put_in_order.ensures.still c.in_ok-put_in_order.ensures.only

pub returns-then-is_large-2-clause-tied : goal.returns-then-is_large-2-clause-tied
returns-then-is_large-2-clause-tied g c tied = c.in_ok-list_joining.ensures.tied (c.loop-next.invariant.3 tied)
