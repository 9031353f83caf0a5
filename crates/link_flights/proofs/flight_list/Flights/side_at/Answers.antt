use Rattle.link_flights.proofs.Common.{◌≡◌, ◌-◌, ◌*◌, Some, sym, ap, ◌∙◌, subst, option_map, arith, Contains}
use Rattle.link_flights.proofs.Common.{get_or_from_slice_get, cap_of, Side, caps_of, Flight, is_of}
use Rattle.link_flights.proofs.Common.{flight_at, flights_at, flow_sent, uses_end, end_subject, kept_load, IsNextPlace}
use Rattle.link_flights.proofs.Common.{share, true≢false}
use Rattle.link_flights.proofs.Flights.AllSides.{cap_left}
use Rattle.link_flights.proofs.Flights.Places.{one_there}
use Rattle.link_flights.proofs.Flights.Sides.{HasCounted, what_is_listed, listed_within, counting_starts, next_within, next_shares, counted_here}
use Rattle.link_flights.proofs.Flights.Sides.{counts_on, counted_all, fewer_to_count}
use Rattle.link_flights.proofs.flight_list.Flights.side_at.Goals as goal

pub uses-requires : goal.uses-requires
uses-requires g c =
    listed_within (λ (f : Flight g.row.P.Denot). is_of g.P.Ord.cmp c.args.component.now (flight_at 0 f))
    c.args.self.now.list.items c.args.at (subst (λ ps. Contains ps c.args.at) c.requires.places c.requires.at)

pub first_beside-next-requires : goal.first_beside-next-requires
first_beside-next-requires g c =
    listed_within (λ (f : Flight g.row.P.Denot). is_of g.P.Ord.cmp c.args.component.now (flight_at 0 f))
    c.args.self.now.list.items c.args.at (subst (λ ps. Contains ps c.args.at) c.requires.places c.requires.at)

pub at-requires : goal.at-requires
at-requires g c =
    listed_within (λ (f : Flight g.row.P.Denot). is_of g.P.Ord.cmp c.args.component.now (flight_at 0 f))
    c.args.self.now.list.items c.args.at (subst (λ ps. Contains ps c.args.at) c.requires.places c.requires.at)

pub returns-then-not-uses-clause-none : goal.returns-then-not-uses-clause-none
returns-then-not-uses-clause-none g c none one pairs there uses =
    let cmp = g.P.Ord.cmp in
    let self = c.args.self.now in
    absurd (true≢false (sym uses ∙ sym (c.uses.ensures one ∙ ap (λ (f : Flight _). uses_end cmp c.args.end f.message.value)
    (get_or_from_slice_get self.list.items c.args.at one one there)) ∙ c.if-not-uses.true))

pub returns-in_default-clause-none : goal.returns-in_default-clause-none
returns-in_default-clause-none g c none one pairs there uses =
    let cmp = g.P.Ord.cmp in
    let self = c.args.self.now in
    let is : c.at.result.now ≡ one =
    c.at.ensures ∙ get_or_from_slice_get self.list.items c.args.at one c.at.result.now there in
    ap (λ m. cap_of (caps_of cmp c.args.peers.now.entries pairs) (end_subject c.args.end (flow_sent cmp m)))
    (sym (c.deref.ensures ∙ ap (λ (f : Flight _). f.message.value) is))
    ∙ sym (c.cap_at.ensures pairs) ∙ c.in_default.is

pub loop-next-init : goal.loop-next-init
loop-next-init g c one there =
    let cmp = g.P.Ord.cmp in
    let self = c.args.self.now in
    let all = c.in_ok-left.left in
    subst (λ users. HasCounted cmp c.args.end one.message.value c.args.component.now self.at self.list.items all
    c.first_beside-next.result (record { cap = all; users = users })) (sym c.clear.ensures.items)
    (counting_starts cmp c.args.end one.message.value c.args.component.now self.at self.list.items all
    c.first_beside-next.result (subst
    (λ (f : Flight _). IsNextPlace (λ other. share cmp c.args.end f.message.value other.message.value) self.list.items 0
    c.first_beside-next.result) (get_or_from_slice_get self.list.items c.args.at one one there)
    (c.first_beside-next.ensures one)))

pub count_one-requires-clause-within : goal.count_one-requires-clause-within
count_one-requires-clause-within g c =
    let self = c.args.self.now in
    let component = c.args.component.now in
    let x = what_is_listed (λ (f : Flight g.row.P.Denot). is_of g.P.Ord.cmp component (flight_at 0 f)) self.list.items
    c.args.at (subst (λ ps. Contains ps c.args.at) c.requires.places c.requires.at) in
    next_within g.P.Ord.cmp c.args.end x.0.message.value component self.at self.list.items c.in_ok-left.left c.loop-next.next
    (record { cap = c.loop-next.left; users = c.loop-next.users.items }) (c.loop-next.invariant x.0 x.1) c.in-Some-next.at c.in-Some-next.is

pub next_at-next-requires : goal.next_at-next-requires
next_at-next-requires g c =
    let self = c.args.self.now in
    let component = c.args.component.now in
    let x = what_is_listed (λ (f : Flight g.row.P.Denot). is_of g.P.Ord.cmp component (flight_at 0 f)) self.list.items
    c.args.at (subst (λ ps. Contains ps c.args.at) c.requires.places c.requires.at) in
    next_within g.P.Ord.cmp c.args.end x.0.message.value component self.at self.list.items c.in_ok-left.left c.loop-next.next
    (record { cap = c.loop-next.left; users = c.loop-next.users.items }) (c.loop-next.invariant x.0 x.1) c.in-Some-next.at c.in-Some-next.is

pub loop-next-smaller : goal.loop-next-smaller
loop-next-smaller g c =
    let self = c.args.self.now in
    let component = c.args.component.now in
    let x = what_is_listed (λ (f : Flight g.row.P.Denot). is_of g.P.Ord.cmp component (flight_at 0 f)) self.list.items
    c.args.at (subst (λ ps. Contains ps c.args.at) c.requires.places c.requires.at) in
    fewer_to_count g.P.Ord.cmp c.args.end x.0.message.value component self.at self.list.items c.in_ok-left.left c.loop-next.next
    (record { cap = c.loop-next.left; users = c.loop-next.users.items }) (c.loop-next.invariant x.0 x.1) c.in-Some-next.at c.in-Some-next.is
    c.next_at-next.result c.next_at-next.ensures

pub loop-next-preserved : goal.loop-next-preserved
loop-next-preserved g c one there =
    let cmp = g.P.Ord.cmp in
    let self = c.args.self.now in
    let component = c.args.component.now in
    let end = c.args.end in
    let m = one.message.value in
    let all = c.in_ok-left.left in
    let next = c.loop-next.next in
    let side : Side = record { cap = c.loop-next.left; users = c.loop-next.users.items } in
    let h = c.loop-next.invariant one there in
    let at = c.in-Some-next.at in
    let other = one_there self.list.items at
    (next_within cmp end m component self.at self.list.items all next side h at c.in-Some-next.is) in
    counts_on cmp end m component self.at self.list.items all next side h g.met.P.Ord.total at c.in-Some-next.is
    c.next_at-next.result c.next_at-next.ensures (record { cap = c.count_one.new.left; users = c.count_one.new.users.items })
    (c.in_ok-count_one.ensures.counted m other.0 all other.1
    (next_shares cmp end m component self.at self.list.items all next side h at c.in-Some-next.is other.0 other.1)
    (counted_here cmp end m component self.at self.list.items all next side h at c.in-Some-next.is))

pub returns-clause-side : goal.returns-clause-side
returns-clause-side g c one pairs there =
    let cmp = g.P.Ord.cmp in
    let self = c.args.self.now in
    let component = c.args.component.now in
    let end = c.args.end in
    let m = one.message.value in
    let all = c.in_ok-left.left in
    let s = end_subject end (flow_sent cmp m) in
    let side : Side = record { cap = c.loop-next.left; users = c.loop-next.users.items } in
    let us = flights_at self.at self.list.items in
    let caps = caps_of cmp c.args.peers.now.entries pairs in
    let is : c.at.result.now ≡ one =
    c.at.ensures ∙ get_or_from_slice_get self.list.items c.args.at one c.at.result.now there in
    let has : cap_of caps s ≡ Some c.in-Some.cap =
    ap (λ m. cap_of caps (end_subject end (flow_sent cmp m)))
    (sym (c.deref.ensures ∙ ap (λ (f : Flight _). f.message.value) is))
    ∙ sym (c.cap_at.ensures pairs) ∙ c.in-Some.is in
    let counted =
    counted_all cmp end m component self.at self.list.items all c.loop-next.next side (c.loop-next.invariant one there)
    c.in_default-next.is in
    let left : c.in-Some.cap * self.scale - kept_load cmp component us s ≡ side.cap =
    omega (arith, counted.0, c.in_ok-left.ensures.value) in
    record {
      capped = cap_left cmp caps self.scale component us s
          ∙ ap (option_map (λ cap. cap * self.scale - kept_load cmp component us s)) has ∙ ap Some left;
      users = counted.1;
    }

pub returns-clause-uses : goal.returns-clause-uses
returns-clause-uses g c one there =
    let cmp = g.P.Ord.cmp in
    let self = c.args.self.now in
    sym (c.uses.ensures one ∙ ap (λ (f : Flight _). uses_end cmp c.args.end f.message.value)
    (get_or_from_slice_get self.list.items c.args.at one one there))
    ∙ c.if-not-uses.false
