use Rattle.link_flights.proofs.Common.{◌<◌, ◌+◌, length, IfSome, subst, share, get_or, Flight}
use Rattle.link_flights.proofs.Flights.Places.{one_there}
use Rattle.link_flights.proofs.Flights.Search.{next_is_inside, fewer_ahead}
use Rattle.link_flights.proofs.flight_list.Flights.count_sharing.Goals as goal

pub loop-next-init : goal.loop-next-init
loop-next-init g c =
    next_is_inside
    (λ (one : Flight g.row.P.Denot). share g.P.Ord.cmp c.args.end c.args.message.now one.message.value)
    c.args.self.now.list.items 0 c.first_at-next.result c.first_at-next.ensures

pub loop-next-preserved : goal.loop-next-preserved
loop-next-preserved g c =
    let list = c.args.self.now.list.items in
    let at = c.in-Some.at in
    let within = subst (λ next. IfSome next (λ at. at < length list)) c.in-Some.is c.loop-next.invariant in
    let one = (one_there list at within).0 in
    next_is_inside
    (λ (other : Flight g.row.P.Denot).
    share g.P.Ord.cmp c.args.end (get_or list at one).message.value other.message.value)
    list (at + 1) c.next_at-next.result (c.next_at-next.ensures one)

pub loop-next-smaller : goal.loop-next-smaller
loop-next-smaller g c =
    let list = c.args.self.now.list.items in
    let at = c.in-Some.at in
    let within = subst (λ next. IfSome next (λ at. at < length list)) c.in-Some.is c.loop-next.invariant in
    let one = (one_there list at within).0 in
    fewer_ahead
    (λ (other : Flight g.row.P.Denot).
    share g.P.Ord.cmp c.args.end (get_or list at one).message.value other.message.value)
    list at c.loop-next.next c.next_at-next.result c.in-Some.is within (c.next_at-next.ensures one)
