use Rattle.link_flights.proofs.Common.{All, All-nil, IsTied, caps_of, [], sym, subst, ◌∙◌, in_units}
use Rattle.link_flights.proofs.Flights.ComponentFlows.{always_ok, closed_whole}
use Rattle.link_flights.proofs.Flights.Search.{all_listed, closed_if_near, near_if_listed}
use Rattle.link_flights.proofs.Flights.Search.{still_has_all, still_has_messages, still_touches_new}
use Rattle.link_flights.proofs.flight_list.Flights.find_component.Goals as goal

pub returns-then-branch-clause-closed : goal.returns-then-branch-clause-closed
returns-then-branch-clause-closed g c =
    let self = c.args.self.now in
    let mid = c.join_touched.new.component in
    let found = c.grow.new.component in
    let touched = c.in_ok-join_touched.ensures in
    let joined = c.in_ok-grow.ensures.joined in
    let walked = c.in_ok-grow.ensures.walked c.if-branch.true in
    closed_if_near g.P.Ord.cmp found
    (c.grow.ensures.whole ∙ c.join_touched.ensures.whole ∙ c.requires.part)
    found.near.items c.args.done.now.items self.at self.settled self.list.items
    (still_has_all g.P.Ord.cmp mid found joined c.grow.ensures.whole c.args.done.now.items touched.done)
    self.have_rates
    (still_touches_new g.P.Ord.cmp mid found joined c.grow.ensures.whole self.settled self.list.items touched.new)
    (all_listed g.P.Ord.cmp found self.list.items walked) walked.suited

pub returns-then-branch-clause-near : goal.returns-then-branch-clause-near
returns-then-branch-clause-near g c part =
    let found = c.grow.new.component in
    let list = c.args.self.now.list.items in
    let walked = c.in_ok-grow.ensures.walked c.if-branch.true in
    near_if_listed g.P.Ord.cmp found
    (c.grow.ensures.whole ∙ c.join_touched.ensures.whole ∙ c.requires.part) list
    (all_listed g.P.Ord.cmp found list walked) (c.in_ok-grow.ensures.order c.if-branch.true) walked.touched

pub returns-then-branch-clause-loose : goal.returns-then-branch-clause-loose
returns-then-branch-clause-loose g c =
    still_has_messages g.P.Ord.cmp c.join_touched.new.component c.grow.new.component c.in_ok-grow.ensures.joined
    c.grow.ensures.whole c.args.self.now.loose c.in_ok-join_touched.ensures.loose

pub returns-clause-closed : goal.returns-clause-closed
returns-clause-closed g c =
    always_ok c.take_all.result
    (closed_whole g.P.Ord.cmp c.take_all.new.all c.take_all.ensures.whole c.args.done.now.items (in_units c.args.self.now))

pub grow-requires : goal.grow-requires
grow-requires g c = record {
  none = c.join_touched.ensures.near ∙ c.requires.empty;
  noted = c.requires.none;
  each = c.requires.each;
}

pub returns-then-branch-clause-tied : goal.returns-then-branch-clause-tied
returns-then-branch-clause-tied g c =
    c.in_ok-grow.ensures.tied (c.in_ok-join_touched.ensures.tied
    (subst (All (IsTied (caps_of g.P.Ord.cmp c.args.peers.now.entries []))) (sym c.requires.joined) (All-nil _)))
