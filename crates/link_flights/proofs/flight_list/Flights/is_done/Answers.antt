use Rattle.link_flights.proofs.Common.{◌≡◌, ◌≤◌, ◌||◌, true, refl, ap, sym, ◌∙◌, arith, get_or_default}
use Rattle.link_flights.proofs.Common.{slice_get_read, is_unlimited, flight_at, is_out, caps_of, message_of}
use Rattle.link_flights.proofs.Flights.Done.{as_test, out_by_finish, out_by_left, out_unrated, limited_there}
use Rattle.link_flights.proofs.Flights.Flight.{is_past, all_there, past_so}
use Rattle.link_flights.proofs.flight_list.Flights.is_done.Goals as goal

pub returns-then-were_rated : goal.returns-then-were_rated
returns-then-were_rated g c d =
    let old = c.args.self.now in
    let caps = caps_of g.P.Ord.cmp c.args.peers.now.entries c.args.pairs.now.entries in
    let x = c.at-one.result.now in
    let rated : x.rated ≡ true = c.if-one.true in
    let past : x.since ≤ old.at =
    past_so old.at x (all_there (is_past old.at) old.list.items c.args.at x old.past c.requires.place c.at-one.ensures) rated in
    c.has_finished_by.ensures
    ∙ out_by_finish g.P.Ord.cmp caps old.scale old.scaled old.at x rated past (omega arith)
    (c.requires.timed c.if-were_rated.true c.args.at x
    (slice_get_read old.list.items _ c.args.at x refl c.requires.place c.at-one.ensures) rated)
    (limited_there g.P.Ord.cmp caps old.scale old.scaled old.at old.list.items c.args.at x
    (c.requires.limited c.if-were_rated.true)
    c.requires.place c.at-one.ensures rated)
    ∙ ap (λ r. is_out g.P.Ord.cmp caps old.scale (flight_at old.at r))
    (c.at-one.ensures ∙ get_or_default old.list.items c.args.at x d c.requires.place)

pub returns-then-is_spent_at : goal.returns-then-is_spent_at
returns-then-is_spent_at g c d =
    let old = c.args.self.now in
    let caps = caps_of g.P.Ord.cmp c.args.peers.now.entries c.args.pairs.now.entries in
    let x = c.at-one.result.now in
    c.if-is_spent_at.true
    ∙ ap (λ b. b || is_unlimited g.P.Ord.cmp caps (message_of x.message.value)) (sym c.if-is_spent_at.true)
    ∙ out_by_left g.P.Ord.cmp caps old.scale old.scaled old.at x c.is_spent_at.result c.if-one.true c.is_spent_at.ensures
    ∙ ap (λ r. is_out g.P.Ord.cmp caps old.scale (flight_at old.at r))
    (c.at-one.ensures ∙ get_or_default old.list.items c.args.at x d c.requires.place)

pub returns-else-is_spent_at : goal.returns-else-is_spent_at
returns-else-is_spent_at g c d =
    let old = c.args.self.now in
    let caps = caps_of g.P.Ord.cmp c.args.peers.now.entries c.args.pairs.now.entries in
    let x = c.at-one.result.now in
    c.is_unlimited.ensures
    ∙ ap (λ m. is_unlimited g.P.Ord.cmp caps (message_of m)) c.deref.ensures
    ∙ ap (λ b. b || is_unlimited g.P.Ord.cmp caps (message_of x.message.value)) (sym c.if-is_spent_at.false)
    ∙ out_by_left g.P.Ord.cmp caps old.scale old.scaled old.at x c.is_spent_at.result c.if-one.true c.is_spent_at.ensures
    ∙ ap (λ r. is_out g.P.Ord.cmp caps old.scale (flight_at old.at r))
    (c.at-one.ensures ∙ get_or_default old.list.items c.args.at x d c.requires.place)

pub returns-then-is_zero : goal.returns-then-is_zero
returns-then-is_zero g c d =
    let old = c.args.self.now in
    let caps = caps_of g.P.Ord.cmp c.args.peers.now.entries c.args.pairs.now.entries in
    let x = c.at-one.result.now in
    c.if-is_zero.true
    ∙ ap (λ b. b || is_unlimited g.P.Ord.cmp caps (message_of x.message.value)) (sym c.if-is_zero.true)
    ∙ out_unrated g.P.Ord.cmp caps old.scale old.scaled old.at x c.is_zero.result c.if-one.false
    (as_test c.is_zero.result x.left c.is_zero.ensures.0 c.is_zero.ensures.1)
    ∙ ap (λ r. is_out g.P.Ord.cmp caps old.scale (flight_at old.at r))
    (c.at-one.ensures ∙ get_or_default old.list.items c.args.at x d c.requires.place)

pub returns-else-is_zero : goal.returns-else-is_zero
returns-else-is_zero g c d =
    let old = c.args.self.now in
    let caps = caps_of g.P.Ord.cmp c.args.peers.now.entries c.args.pairs.now.entries in
    let x = c.at-one.result.now in
    c.is_unlimited-else-is_zero.ensures
    ∙ ap (λ m. is_unlimited g.P.Ord.cmp caps (message_of m)) c.deref-else-is_zero.ensures
    ∙ ap (λ b. b || is_unlimited g.P.Ord.cmp caps (message_of x.message.value)) (sym c.if-is_zero.false)
    ∙ out_unrated g.P.Ord.cmp caps old.scale old.scaled old.at x c.is_zero.result c.if-one.false
    (as_test c.is_zero.result x.left c.is_zero.ensures.0 c.is_zero.ensures.1)
    ∙ ap (λ r. is_out g.P.Ord.cmp caps old.scale (flight_at old.at r))
    (c.at-one.ensures ∙ get_or_default old.list.items c.args.at x d c.requires.place)
