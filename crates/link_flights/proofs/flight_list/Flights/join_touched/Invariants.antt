use Rattle.link_flights.proofs.Common.{◌≡◌, [], All, true, take, has_both, caps_of, AllNewTouch, AreStillTied}
use Rattle.link_flights.proofs.Flights.Search.{AllTouchFrom}
use Rattle.link_flights.proofs.flight_list.Flights.join_touched.Given as goal

abbrev pub invariant-loop-at : goal.invariant-loop-at
invariant-loop-at g l =
    All (λ m. has_both g.P.Ord.cmp l.component m.value ≡ true) (take l.at l.done.items)
    × AreStillTied (caps_of g.P.Ord.cmp l.peers.entries []) l.initial.component l.component
    × (l.component.near.items ≡ l.initial.component.near.items)
    × (l.component.level ≡ l.initial.component.level) × (l.component.whole ≡ l.initial.component.whole)

abbrev pub invariant-loop-at-2 : goal.invariant-loop-at-2
invariant-loop-at-2 g l =
    All (λ m. has_both g.P.Ord.cmp l.component m.value ≡ true) l.done.items
    × AllTouchFrom g.P.Ord.cmp l.component l.self.settled l.at l.self.list.items
    × AreStillTied (caps_of g.P.Ord.cmp l.peers.entries []) l.fn.component l.component
    × (l.component.near.items ≡ l.fn.component.near.items)
    × (l.component.level ≡ l.fn.component.level) × (l.component.whole ≡ l.fn.component.whole)

abbrev pub invariant-loop-at-3 : goal.invariant-loop-at-3
invariant-loop-at-3 g l =
    All (λ m. has_both g.P.Ord.cmp l.component m.value ≡ true) l.done.items
    × AllNewTouch g.P.Ord.cmp l.component l.self.settled l.self.list.items
    × All (λ m. has_both g.P.Ord.cmp l.component m.value ≡ true) (take l.at l.loose)
    × AreStillTied (caps_of g.P.Ord.cmp l.peers.entries []) l.fn.component l.component
    × (l.component.near.items ≡ l.fn.component.near.items)
    × (l.component.level ≡ l.fn.component.level) × (l.component.whole ≡ l.fn.component.whole)
