use Rattle.link_flights.proofs.Common.{◌≡◌, ◌<◌, ◌+◌, ◌++◌, ◌∷◌, [], inl, inr, true, Bool, Some, List, get_or}
use Rattle.link_flights.proofs.Common.{slice_get, length, map, sym, ap, ◌∙◌, subst, arith, Contains, All, IfSome}
use Rattle.link_flights.proofs.Common.{option_map, ◌-◌, ◌*◌, map-append, slice_get-get_or, limits, side_of, caps_of}
use Rattle.link_flights.proofs.Common.{Pair, looked_up, Flight, is_of, places_of, flight_at, in_units, left_caps}
use Rattle.link_flights.proofs.Common.{Side, flows_of, flow_sent, end_subject, kept_load, uses_end, IsSideOf, places_below}
use Rattle.std.proofs.lemmas.List.{with_items_is}
use Rattle.link_flights.proofs.Flights.AllSides.{HaveAdded, of_left, cap_left, end_kind, side_there, none_there, side_added, sides_added}
use Rattle.link_flights.proofs.Flights.Sides.{place_is_of, flow_at, as_many, limited_itself, uses_if_limited}
use Rattle.std.proofs.lemmas.List.Elements.{Contains-get_or}
use Rattle.link_flights.proofs.flight_list.Flights.add_sides.Goals as goal
use Rattle.link_flights.proofs.flight_list.Flights.add_sides.Goals.{in-Some+in_ok-push, in_default}

pub loop-number-preserved-then-index : goal.loop-number-preserved-then-index
loop-number-preserved-then-index g c =
    let cmp = g.P.Ord.cmp in
    let self = c.args.self.now in
    let component = c.args.component.now in
    let us = in_units self in
    let number = c.loop-number.number in
    let noted : slice_get c.loop-number.has_side.items number ≡ Some true =
    slice_get-get_or c.loop-number.has_side.items number c.index.result.now
    (omega (arith, c.loop-number-test.true, c.loop-number.invariant.each))
    ∙ ap Some (sym c.index.ensures ∙ c.if-index.true) in
    record {
      added = λ pairs.
          let caps = caps_of cmp c.args.peers.now.entries pairs in
          let of = of_left cmp g.met.P.Ord.total caps (looked_up cmp g.met.P.Ord.total c.args.peers.now.entries pairs)
          self.scale component us in
          let h = c.loop-number.invariant.added pairs in
          side_there cmp g.met.P.Ord.total (left_caps cmp caps self.scale component us) of (flows_of cmp component us)
          (end_subject c.args.end) (end_kind cmp c.args.end) (map side_of c.args.sides.now.items)
          (map side_of c.loop-number.sides.items) c.loop-number.has_side.items number h (h.each number (inr noted));
      each = c.loop-number.invariant.each;
    }

pub note_users-requires : goal.note_users-requires
note_users-requires g c k d within =
    let cmp = g.P.Ord.cmp in
    let order = g.met.P.Ord.total in
    let self = c.args.self.now in
    let component = c.args.component.now in
    let end = c.args.end in
    let us = in_units self in
    let number = c.loop-number.number in
    let at = get_or c.places-places.result.now number 0 in
    let rated : Flight g.row.P.Denot → Bool = λ f. is_of cmp component (flight_at 0 f) in
    let placed : slice_get (places_of rated 0 self.list.items) number ≡ Some at =
    subst (λ ps. slice_get ps number ≡ Some at) (c.places-places.ensures ∙ c.requires.places)
    (slice_get-get_or c.places-places.result.now number 0 c.loop-number-test.true) in
    let p = place_is_of rated self.list.items number at placed in
    let there = flow_at cmp component self.list.items self.at number at p.x placed p.there in
    let is = (subst (λ o. IfSome o (λ cap. (one : Flight g.row.P.Denot) (pairs : List (Pair g.row.P.Denot))
    → slice_get self.list.items at ≡ Some one → IsSideOf cmp
    (left_caps cmp (caps_of cmp c.args.peers.now.entries pairs) self.scale component us) (flows_of cmp component us)
    (end_subject end (flow_sent cmp one.message.value)) (record { cap = cap; users = c.side_at.new.users.items }))) c.in-Some.is c.in_ok-cap.ensures.side) p.x [] p.there in
    let low : get_or c.side_at.new.users.items k d < length (flows_of cmp component us) =
    subst (All (λ user. user < length (flows_of cmp component us))) (sym is.users)
    (places_below (limits cmp (end_subject end (flow_sent cmp p.x.message.value))) (flows_of cmp component us)
    (length (flows_of cmp component us)) (omega arith)) k d
    (omega (arith, within, ap length c.deref.ensures.value)) in
    omega (
      arith,
      low,
      ap (λ l. get_or l k d) c.deref.ensures.value,
      ap length c.deref_mut.ensures.value,
      c.loop-number.invariant.each,
      as_many cmp component self.list.items self.at,
      ap length (c.places-places.ensures ∙ c.requires.places),
    )

pub loop-number-preserved : goal.loop-number-preserved
loop-number-preserved g c =
    let cmp = g.P.Ord.cmp in
    let order = g.met.P.Ord.total in
    let self = c.args.self.now in
    let component = c.args.component.now in
    let end = c.args.end in
    let us = in_units self in
    let number = c.loop-number.number in
    let at = get_or c.places-places.result.now number 0 in
    let rated : Flight g.row.P.Denot → Bool = λ f. is_of cmp component (flight_at 0 f) in
    let placed : slice_get (places_of rated 0 self.list.items) number ≡ Some at =
    subst (λ ps. slice_get ps number ≡ Some at) (c.places-places.ensures ∙ c.requires.places)
    (slice_get-get_or c.places-places.result.now number 0 c.loop-number-test.true) in
    let p = place_is_of rated self.list.items number at placed in
    let there = flow_at cmp component self.list.items self.at number at p.x placed p.there in
    elim c.match-branch-4.branch [
      | in-Some+in_ok-push w ↦
          let each : length w.note_users.new.has_side ≡ length c.loop-number.has_side.items =
          w.note_users.ensures.each ∙ ap length w.deref_mut.ensures.value in
          let noted : c.match-branch-4.has_side.items ≡ w.note_users.new.has_side =
          ap (λ v. v.items) w.has_side-is
          ∙ with_items_is c.loop-number.has_side w.note_users.new.has_side
          (w.note_users.ensures.each ∙ w.deref_mut.ensures.len) in
          let added : Side = record { cap = w.in-Some.cap; users = c.side_at.new.users.items } in
          let pushed : map side_of c.match-branch-4.sides.items
          ≡ map side_of c.loop-number.sides.items ++ added ∷ [] =
          ap (λ v. map side_of v.items) w.sides-is ∙ ap (map side_of) w.in_ok-push.ensures.items
          ∙ map-append side_of c.loop-number.sides.items _ in
          let m = p.x.message.value in
          let uses : uses_end cmp end m ≡ true =
          (subst (λ o. IfSome o (λ cap. (one : Flight g.row.P.Denot) → slice_get self.list.items at ≡ Some one
          → uses_end cmp end one.message.value ≡ true)) w.in-Some.is c.in_ok-cap.ensures.uses) p.x p.there in
          record {
            added = λ pairs.
                let caps = caps_of cmp c.args.peers.now.entries pairs in
                let of = of_left cmp order caps (looked_up cmp order c.args.peers.now.entries pairs) self.scale component us in
                let left = left_caps cmp caps self.scale component us in
                let is = (subst (λ o. IfSome o (λ cap. (one : Flight g.row.P.Denot) (pairs : List (Pair g.row.P.Denot))
                → slice_get self.list.items at ≡ Some one → IsSideOf cmp
                (left_caps cmp (caps_of cmp c.args.peers.now.entries pairs) self.scale component us) (flows_of cmp component us)
                (end_subject end (flow_sent cmp one.message.value)) (record { cap = cap; users = c.side_at.new.users.items }))) w.in-Some.is c.in_ok-cap.ensures.side) p.x pairs p.there in
                let h = side_added cmp order left of (flows_of cmp component us) (end_subject end) (end_kind cmp end)
                (map side_of c.args.sides.now.items) (map side_of c.loop-number.sides.items) c.loop-number.has_side.items
                number (c.loop-number.invariant.added pairs) (flow_sent cmp m) there (limited_itself cmp order end m uses)
                added is w.note_users.new.has_side
                (λ k marked. elim (w.note_users.ensures.noted k marked) [
                  | inl was ↦ inl (subst (λ l. slice_get l k ≡ Some true) w.deref_mut.ensures.value was)
                  | inr user ↦ inr (subst (λ l. Contains l k) w.deref.ensures.value user)
                ]) in
                subst (λ v. HaveAdded cmp left (flows_of cmp component us) (end_subject end)
                (map side_of c.args.sides.now.items) v c.match-branch-4.has_side.items (number + 1)) (sym pushed)
                (subst (λ v. HaveAdded cmp left (flows_of cmp component us) (end_subject end)
                (map side_of c.args.sides.now.items)
                (map side_of c.loop-number.sides.items ++ added ∷ []) v (number + 1)) (sym noted) h);
            each = ap length noted ∙ each ∙ c.loop-number.invariant.each;
          }
      | in_default w ↦ record {
        added = λ pairs.
            let caps = caps_of cmp c.args.peers.now.entries pairs in
            let of = of_left cmp order caps (looked_up cmp order c.args.peers.now.entries pairs) self.scale component us in
            let left = left_caps cmp caps self.scale component us in
            let m = p.x.message.value in
            let s = end_subject end (flow_sent cmp m) in
            let h = none_there cmp order left of (flows_of cmp component us) (end_subject end) (end_kind cmp end)
            (map side_of c.args.sides.now.items) (map side_of c.loop-number.sides.items) c.loop-number.has_side.items number
            (c.loop-number.invariant.added pairs) (flow_sent cmp m) there
            (λ l. cap_left cmp caps self.scale component us s
            ∙ ap (option_map (λ cap. cap * self.scale - kept_load cmp component us s))
            (c.in_ok-cap.ensures.none w.in_default.is p.x pairs p.there (uses_if_limited cmp end m l))) in
            subst (λ v. HaveAdded cmp left (flows_of cmp component us) (end_subject end) (map side_of c.args.sides.now.items)
            (map side_of v) c.match-branch-4.has_side.items (number + 1)) (sym (ap (λ v. v.items) w.sides-is))
            (subst (λ v. HaveAdded cmp left (flows_of cmp component us) (end_subject end)
            (map side_of c.args.sides.now.items) (map side_of c.loop-number.sides.items) v (number + 1))
            (sym (ap (λ v. v.items) w.has_side-is)) h);
        each = ap (λ v. length v.items) w.has_side-is ∙ c.loop-number.invariant.each;
      }
    ]

pub returns-clause-adds : goal.returns-clause-adds
returns-clause-adds g c pairs =
    let cmp = g.P.Ord.cmp in
    let self = c.args.self.now in
    let component = c.args.component.now in
    let us = in_units self in
    let caps = caps_of cmp c.args.peers.now.entries pairs in
    let of = of_left cmp g.met.P.Ord.total caps (looked_up cmp g.met.P.Ord.total c.args.peers.now.entries pairs)
    self.scale component us in
    sides_added cmp g.met.P.Ord.total (left_caps cmp caps self.scale component us) of (flows_of cmp component us)
    (end_subject c.args.end) (end_kind cmp c.args.end) (map side_of c.args.sides.now.items)
    (map side_of c.loop-number.sides.items) c.loop-number.has_side.items c.loop-number.number
    (c.loop-number.invariant.added pairs)
    (omega (arith, c.loop-number-test.false, as_many g.P.Ord.cmp component self.list.items self.at, ap length (c.places-places.ensures ∙ c.requires.places)))

pub side_at-requires-clause-at : goal.side_at-requires-clause-at
side_at-requires-clause-at g c =
    let places = c.places-places.result.now in
    subst (λ ps. Contains ps (get_or places c.loop-number.number 0)) c.places-places.ensures
    (Contains-get_or places c.loop-number.number 0 c.loop-number-test.true)
