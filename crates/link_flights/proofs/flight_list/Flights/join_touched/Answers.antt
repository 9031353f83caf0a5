use Rattle.link_flights.proofs.Common.{◌≡◌, ◌<◌, ◌≤◌, ◌∙◌, All, length, true, subst, arith, take_all, slice_get_within}
use Rattle.link_flights.proofs.Common.{has_both}
use Rattle.std.proofs.lemmas.List.Elements.{All-map}
use Rattle.link_pairs.specs.declared.message.Message.{Message}
use Rattle.link_flights.proofs.Flights.Search.{still_has_all, still_touches_new, has_one_more, touches_one_more}
use Rattle.link_flights.proofs.flight_list.Flights.join_touched.Goals as goal

pub loop-at-preserved : goal.loop-at-preserved
loop-at-preserved g c =
    let done = c.args.done.now.items in
    let join = c.join.ensures in
    let more = c.in_ok-join.ensures in
    let inside : c.loop-at.at < length done = omega (arith, c.loop-at-test.true, c.len-at-end.ensures) in
    let (all, still, near, level, whole) = c.loop-at.invariant in (
      has_one_more g.P.Ord.cmp c.loop-at.component c.join.new.self more.joined join.whole done c.loop-at.at
          c.index-message.result.now inside c.index-message.ensures all more.has,
      λ tied. more.tied (still tied),
      join.near ∙ near,
      join.level ∙ level,
      join.whole ∙ whole,
    )

pub loop-at-2-init : goal.loop-at-2-init
loop-at-2-init g c =
    let done = c.args.done.now.items in
    let (all, still, near, level, whole) = c.loop-at.invariant in
    let through : length done ≤ c.loop-at.at = omega (arith, c.loop-at-test.false, c.len-at-end.ensures) in (
      subst (All (λ m. has_both g.P.Ord.cmp c.loop-at.component m.value ≡ true)) (take_all c.loop-at.at done through) all,
      λ at one below there from. absurd (omega (arith, below, from)),
      still,
      near,
      level,
      whole,
    )

pub loop-at-2-preserved : goal.loop-at-2-preserved
loop-at-2-preserved g c =
    let cmp = g.P.Ord.cmp in
    let list = c.args.self.now.list.items in
    let mid = c.loop-at-2.component in
    let new = c.join-in-loop-at-2.new.self in
    let join = c.join-in-loop-at-2.ensures in
    let more = c.in_ok-join-2.ensures in
    let read = c.at.result.now in
    let (all, touches, still, near, level, whole) = c.loop-at-2.invariant in (
      still_has_all cmp mid new more.joined join.whole c.args.done.now.items all,
      touches_one_more cmp mid new more.joined join.whole c.args.self.now.settled c.loop-at-2.at list touches read
          c.at.ensures more.has,
      λ tied. more.tied (still tied),
      join.near ∙ near,
      join.level ∙ level,
      join.whole ∙ whole,
    )

pub loop-at-3-init : goal.loop-at-3-init
loop-at-3-init g c =
    let list = c.args.self.now.list.items in
    let (all, touches, still, near, level, whole) = c.loop-at-2.invariant in (
      all,
      λ at one from there.
          let below : at < c.loop-at-2.at =
          omega (arith, c.loop-at-2-test.false, c.len-at-end-2.ensures, slice_get_within list at one there) in
          touches at one below there from,
      λ k d lt. absurd (omega (arith, lt)),
      still,
      near,
      level,
      whole,
    )

pub loop-at-3-preserved : goal.loop-at-3-preserved
loop-at-3-preserved g c =
    let cmp = g.P.Ord.cmp in
    let mid = c.loop-at-3.component in
    let new = c.join-in-loop-at-3.new.self in
    let join = c.join-in-loop-at-3.ensures in
    let more = c.in_ok-join-3.ensures in
    let loose = c.as_slice-loose.result.now in
    let (all, touches, listed, still, near, level, whole) = c.loop-at-3.invariant in (
      still_has_all cmp mid new more.joined join.whole c.args.done.now.items all,
      still_touches_new cmp mid new more.joined join.whole c.args.self.now.settled c.args.self.now.list.items touches,
      has_one_more cmp mid new more.joined join.whole loose c.loop-at-3.at
          c.index-loose-at.result (omega (arith, c.loop-at-3-test.true)) c.index-loose-at.is listed more.has,
      λ tied. more.tied (still tied),
      join.near ∙ near,
      join.level ∙ level,
      join.whole ∙ whole,
    )

pub returns-clause-loose : goal.returns-clause-loose
returns-clause-loose g c =
    let loose = c.as_slice-loose.result.now in
    let has = λ (m : Message g.row.P.Denot). has_both g.P.Ord.cmp c.loop-at-3.component m ≡ true in
    let listed = c.loop-at-3.invariant.2 in
    subst (All has) c.as_slice-loose.ensures
    (All-map has (λ m. m.value) loose
    (subst (All (λ m. has m.value)) (take_all c.loop-at-3.at loose (omega (arith, c.loop-at-3-test.false))) listed))
