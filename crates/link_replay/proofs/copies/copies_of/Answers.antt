use Rattle.link_replay.proofs.Common.{◌≡◌, ◌+◌, ℕ, List, [], ◌∷◌, ◌++◌, length, map, take, sym, ap, ◌∙◌, subst}
use Rattle.link_replay.proofs.Common.{arith, AllZip, map-append, Message, SameMessage, outgoing}
use Rattle.std.proofs.lemmas.List.{take_more}
use Rattle.std.proofs.Math.Seq.{take-length}
use Rattle.fairness.proofs.Lists.Zips.{zip-push}
use Rattle.link_events.specs.declared.outgoing.Outgoing.{Outgoing}
use Rattle.link_replay.proofs.copies.copies_of.Goals as goal

pub loop-one-preserved : goal.loop-one-preserved
loop-one-preserved g c =
    let before : List (Outgoing g.row.P.Denot (List ℕ)) = take c.loop-one.one-index c.args.messages.now in
    let more : take (c.loop-one.one-index + 1) c.args.messages.now ≡ before ++ c.one-item.result ∷ [] =
    take_more c.args.messages.now c.loop-one.one-index c.one-item.result c.loop-one-test.true
    ∙ ap (λ (m : Outgoing g.row.P.Denot (List ℕ)). before ++ m ∷ []) (sym c.one-item.is) in
    let sent : map outgoing (take (c.loop-one.one-index + 1) c.args.messages.now)
    ≡ map outgoing before ++ outgoing c.one-item.result ∷ [] =
    ap (map outgoing) more ∙ map-append outgoing before (c.one-item.result ∷ []) in
    let one = c.in_ok-add_copy.ensures.added in
    subst
    (λ (ms : List (Message g.row.P.Denot)). AllZip (SameMessage g.P.Ord.cmp) ms
    (map outgoing c.add_copy.new.copies.items))
    (sym sent)
    (subst
    (λ (ns : List (Message g.row.P.Denot)). AllZip (SameMessage g.P.Ord.cmp)
    (map outgoing before ++ outgoing c.one-item.result ∷ []) ns)
    (sym one.1)
    (zip-push (SameMessage g.P.Ord.cmp) (map outgoing before) (map outgoing c.loop-one.copies.items)
    (outgoing c.one-item.result) one.0 c.loop-one.invariant one.2))

pub returns-clause-same : goal.returns-clause-same
returns-clause-same g c =
    let whole : c.loop-one.one-index ≡ length c.args.messages.now = omega arith in
    let all : take c.loop-one.one-index c.args.messages.now ≡ c.args.messages.now =
    ap (λ n. take n c.args.messages.now) whole ∙ take-length c.args.messages.now in
    subst
    (λ (l : List (Outgoing g.row.P.Denot (List ℕ))). AllZip (SameMessage g.P.Ord.cmp) (map outgoing l)
    (map outgoing c.loop-one.copies.items))
    all c.loop-one.invariant
