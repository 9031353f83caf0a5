use Rattle.link_waiting.proofs.Common.{rules, List, ap, ◌∙◌, is_lt, PeerPair, pair_cmp, pair_total, Told}
use Rattle.link_waiting.proofs.Common.{has_come, since_of, ranks_by}
use Rattle.std.proofs.lemmas.List.Sorted.{answers_always}
use Rattle.link_waiting.proofs.Idle.View.{in_order, told_are}
use Rattle.link_waiting.proofs.Idle.Ready.{keys_named, keys_few, ascends}
use Rattle.link_waiting.proofs.waiting.Waiting.ready.Goals as goal

pub returns-in_err-ready-clause-ordered : goal.returns-in_err-ready-clause-ordered
returns-in_err-ready-clause-ordered g c =
    in_order g.P.Ord.cmp c.self.inside.given_up c.self.inside.slots c.args.self.now c.self.view_is g.met.P.Ord.total

pub returns-in_err-sort_by-clause-ordered : goal.returns-in_err-sort_by-clause-ordered
returns-in_err-sort_by-clause-ordered g c =
    in_order g.P.Ord.cmp c.self.inside.given_up c.self.inside.slots c.args.self.now c.self.view_is g.met.P.Ord.total

pub returns-clause-ordered : goal.returns-clause-ordered
returns-clause-ordered g c =
    in_order g.P.Ord.cmp c.self.inside.given_up c.self.inside.slots c.args.self.now c.self.view_is g.met.P.Ord.total

pub returns-clause-ascending : goal.returns-clause-ascending
returns-clause-ascending g c =
    let inside = c.self.inside in
    let kept = c.self.invariant in
    ascends g.P.Ord.cmp g.met.P.Ord.total c.sort_by.new.self.items
    (c.in_ok-sort_by.ensures.sorted
    (λ j k. is_lt (pair_cmp g.P.Ord.cmp (j.origin, j.recipient) (k.origin, k.recipient)))
    (ranks_by (pair_total g.P.Ord.cmp g.met.P.Ord.total) (λ (k : PeerPair g.row.P.Denot). (k.origin, k.recipient)))
    (answers_always _ _ _ (λ f a r f' k. search rules)))
    (λ o r. keys_few g.P.Ord.cmp g.met.P.Ord.total inside.pairs c.args.now inside.slots.sinces.items _ kept.stands.told
    kept.now o r c.in_ok-ready.ready.items c.sort_by.new.self.items c.in_ok-sort_by.ensures.permutation
    c.in_ok-ready.ensures.due)

pub returns-clause-ready : goal.returns-clause-ready
returns-clause-ready g c = λ origin recipient.
    let inside = c.self.inside in
    let kept = c.self.invariant in
    keys_named g.P.Ord.cmp g.met.P.Ord.total inside.pairs c.args.now inside.slots.sinces.items _ kept.stands.told kept.now
    origin recipient c.in_ok-ready.ready.items c.sort_by.new.self.items c.in_ok-sort_by.ensures.permutation
    c.in_ok-ready.ensures.due
    ∙ ap (λ (told : List (Told g.row.P.Denot)). has_come c.args.now (since_of g.P.Ord.cmp told origin recipient))
    (told_are g.P.Ord.cmp inside.given_up inside.slots c.args.self.now c.self.view_is c.if-self.false)
