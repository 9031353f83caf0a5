use Rattle.link_flights.proofs.Common.{ℕ, List, ◌∙◌, subst, arith, End, Origin, Recipient, StartsWith}
use Rattle.link_flights.specs.Flights.Components.{HasListedEnd}
use Rattle.link_pairs.specs.declared.message.Message.{Message}
use Rattle.link_flights.proofs.Flights.Search.{HasListedBoth, both_listed, all_listed_next, first_listed, touched_with, starts_on}
use Rattle.link_flights.proofs.Flights.Search.{starts_longer}
use Rattle.link_flights.proofs.flight_list.Flights.list_joining.Goals as goal

pub returns-clause-walked : goal.returns-clause-walked
returns-clause-walked g c =
    let cmp = g.P.Ord.cmp in
    let list = c.args.self.now.list.items in
    let old = c.args.component.now in
    let mid = c.join_new_end.new.component in
    let new = c.join_new_end-2.new.component in
    let first = c.in_ok-join_new_end.ensures in
    let second = c.in_ok-join_new_end-2.ensures in
    let walked = c.requires.walked in
    let j = c.index.result.now in
    let same = c.in_ok-joined.ensures in
    let at_end : (end : End) (before after : List ℕ)
    → HasListedEnd cmp end c.in_ok-joined.joined.ends c.in_ok-joined.joined.message.value list before after
    → HasListedEnd cmp end j.ends j.message.value list before after = λ end before after h.
    subst (λ ends. HasListedEnd cmp end ends j.message.value list before after) same.ends
    (subst (λ (m : Message g.row.P.Denot). HasListedEnd cmp end c.in_ok-joined.joined.ends m list before after)
    same.message h) in
    let both : HasListedBoth cmp j list old.near.items new.near.items =
    both_listed cmp g.met.P.Ord.total j list old.near.items mid.near.items new.near.items
    (at_end Origin old.near.items mid.near.items first.listed)
    (at_end Recipient mid.near.items new.near.items second.listed) in
    let joined : StartsWith old.joined.items new.joined.items =
    starts_on old.joined.items mid.joined.items new.joined.items first.joined second.joined in
    record {
      listed = all_listed_next cmp list old.joined.items new.joined.items joined c.args.number old.near.items
          new.near.items c.requires.number walked.listed both.more j c.index.ensures both.listed;
      touched = touched_with cmp old new joined (second.whole ∙ first.whole) list c.args.number j c.requires.number
          c.index.ensures old.near.items new.near.items both.only walked.touched;
      suited = second.suited;
    }

pub join_new_end-requires-2-clause-before : goal.join_new_end-requires-2-clause-before
join_new_end-requires-2-clause-before g c =
    let old = c.args.component.now in
    let mid = c.join_new_end.new.component in
    let first = c.in_ok-join_new_end.ensures in
    first_listed g.P.Ord.cmp c.args.self.now.list.items old.joined.items mid.joined.items first.joined c.args.number
    old.near.items mid.near.items (omega (arith, c.requires.number)) c.requires.walked.listed first.listed.more

pub join_new_end-requires-2-clause-number : goal.join_new_end-requires-2-clause-number
join_new_end-requires-2-clause-number g c =
    omega (
      arith,
      c.requires.number,
      starts_longer c.args.component.now.joined.items
          c.join_new_end.new.component.joined.items c.in_ok-join_new_end.ensures.joined,
    )

pub returns-clause-tied : goal.returns-clause-tied
returns-clause-tied g c tied =
    c.in_ok-join_new_end-2.ensures.tied (c.in_ok-join_new_end.ensures.tied tied)
