use Rattle.link_flights.proofs.Common.{◌≡◌, [], length, refl, sym, ◌∙◌, subst, arith, append-nil, AreSuited, AreNoted}
use Rattle.link_flights.proofs.Common.{Component, AreStillTied, caps_of}
use Rattle.link_flights.proofs.Flights.Search.{HasJoinedAll, HasWalked, none_listed, walked_more}
use Rattle.link_flights.proofs.Flights.Search.{fewer_behind, next_inside, starts_on, suited_with_one}
use Rattle.link_flights.proofs.flight_list.Flights.join_end.Goals.{then-is_new+in_ok-join_one, else-is_new}
use Rattle.link_flights.proofs.flight_list.Flights.join_end.Goals as goal

pub loop-next-init : goal.loop-next-init
loop-next-init g c = (
  record {
    walked = record {
      from = 0;
      is_next = c.first_at-next.ensures;
      so_far = none_listed g.P.Ord.cmp c.args.end c.args.message.now c.args.self.now.list.items
          c.args.component.now.near.items;
    };
    suited = c.requires.suited;
    joined = ([], sym (append-nil c.args.component.now.joined.items));
    level = refl;
    whole = refl;
  },
  c.requires.noted,
  refl,
  λ tied. tied,
)

pub list-requires-clause-within : goal.list-requires-clause-within
list-requires-clause-within g c =
    let inside = next_inside g.P.Ord.cmp c.args.end c.args.message.now c.args.self.now.list.items c.loop-next.next
    c.args.component.now.near.items c.loop-next.component.near.items c.loop-next.invariant.0.walked c.in-Some.at
    c.in-Some.is in
    omega (arith, inside, c.loop-next.invariant.2, c.requires.each)

pub next_at-next-requires : goal.next_at-next-requires
next_at-next-requires g c =
    next_inside g.P.Ord.cmp c.args.end c.args.message.now c.args.self.now.list.items c.loop-next.next
    c.args.component.now.near.items c.loop-next.component.near.items c.loop-next.invariant.0.walked
    c.in-Some.at c.in-Some.is

pub loop-next-smaller : goal.loop-next-smaller
loop-next-smaller g c =
    fewer_behind g.P.Ord.cmp c.args.end c.args.message.now c.args.self.now.list.items c.loop-next.next
    c.args.component.now.near.items c.loop-next.component.near.items c.loop-next.invariant.0.walked
    c.in-Some.at c.in-Some.is c.next_at-next.result c.next_at-next.ensures

pub loop-next-preserved : goal.loop-next-preserved
loop-next-preserved g c =
    let cmp = g.P.Ord.cmp in
    let end = c.args.end in
    let list = c.args.self.now.list.items in
    let m = c.args.message.now in
    let old = c.args.component.now in
    let mid = c.loop-next.component in
    let so_far = c.loop-next.invariant.0 in
    let at = c.in-Some.at in
    let after = c.list.new.places.items in
    let noted = c.list.new.noted.items in
    let place = c.in_ok-is_new.ensures in
    let next = c.next_at-next.result in
    let walked : HasWalked cmp end m list next old.near.items after =
    walked_more cmp end m list c.loop-next.next old.near.items mid.near.items so_far.walked
    g.met.P.Ord.total at c.in-Some.is next c.next_at-next.ensures after place.here place.others place.only in
    let each : length noted ≡ length c.args.noted.now.items = c.list.ensures.each ∙ c.loop-next.invariant.2 in
    let Tied = AreStillTied (caps_of cmp c.args.peers.now.entries []) old in
    elim c.if-is_new.branch [
      | then-is_new+in_ok-join_one w ↦
          let new = w.join_one.new.component in
          let join = w.join_one.ensures in
          let more = w.in_ok-join_one.ensures in
          subst (λ (x : Component g.row.P.Denot). HasJoinedAll cmp end m list next old x × AreNoted x.near.items noted
          × (length noted ≡ length c.args.noted.now.items) × Tied x) (sym w.component-is) (
            record {
              walked = subst (HasWalked cmp end m list next old.near.items) (sym join.near) walked;
              suited = subst (λ places. AreSuited cmp new places list) (sym join.near)
                  (suited_with_one cmp mid new more.joined join.level join.whole list at mid.near.items after place.only
                  so_far.suited more.suited);
              joined = starts_on old.joined.items mid.joined.items new.joined.items so_far.joined more.joined;
              level = join.level ∙ so_far.level;
              whole = join.whole ∙ so_far.whole;
            },
            subst (λ places. AreNoted places noted) (sym join.near) place.noted,
            each,
            λ tied. more.tied (c.loop-next.invariant.3 tied),
          )
      | else-is_new w ↦
          let same : after ≡ mid.near.items = place.same w.if-is_new.false in
          subst (λ (x : Component g.row.P.Denot). HasJoinedAll cmp end m list next old x × AreNoted x.near.items noted
          × (length noted ≡ length c.args.noted.now.items) × Tied x) (sym w.component-is) (
            record {
              walked = walked;
              suited = subst (λ places. AreSuited cmp mid places list) (sym same) so_far.suited;
              joined = so_far.joined;
              level = so_far.level;
              whole = so_far.whole;
            },
            place.noted,
            each,
            c.loop-next.invariant.3,
          )
    ]
