use Rattle.std.proofs.Common.{◌≡◌, ◌+◌, List, [], ◌∷◌, ◌++◌, length, map, take, sym, ap, ◌∙◌, subst, arith}
use Rattle.std.specs.List.{AllZip}
use Rattle.std.proofs.lemmas.List.{map-append, take_more}
use Rattle.std.proofs.Math.Seq.{take-length}
use Rattle.link_simulation.specs.Simulation.World.{Completed}
use Rattle.link_simulation.specs.Simulation.Replies.{SameCompletion}
use Rattle.fairness.proofs.Lists.Zips.{zip-push}
use Rattle.link_pairs.specs.declared.completion.Ended.{Ended}
use Rattle.link_pairs.specs.Pairs.Messages.{completed_by, ended_of}
use Rattle.link_pairs.proofs.completion.answers_of.Goals as goal

pub loop-one-preserved : goal.loop-one-preserved
loop-one-preserved g c =
    let before : List (Ended g.row.P.Denot) = take c.loop-one.one-index c.args.ended.now in
    let more : take (c.loop-one.one-index + 1) c.args.ended.now ≡ before ++ c.one-item.result ∷ [] =
    take_more c.args.ended.now c.loop-one.one-index c.one-item.result c.loop-one-test.true
    ∙ ap (λ (e : Ended g.row.P.Denot). before ++ e ∷ []) (sym c.one-item.is) in
    let ended : map ended_of (take (c.loop-one.one-index + 1) c.args.ended.now)
    ≡ map ended_of before ++ ended_of c.one-item.result ∷ [] =
    ap (map ended_of) more ∙ map-append ended_of before (c.one-item.result ∷ []) in
    let answered : map (completed_by g.M.Payload.bytes) c.push.new.self.items
    ≡ map (completed_by g.M.Payload.bytes) c.loop-one.answers.items ++ completed_by g.M.Payload.bytes c.in_ok-answer.field-0 ∷ [] =
    ap (map (completed_by g.M.Payload.bytes)) c.in_ok-push.ensures.items
    ∙ map-append (completed_by g.M.Payload.bytes) c.loop-one.answers.items (c.in_ok-answer.field-0 ∷ []) in
    subst
    (λ (ds : List (Completed g.row.P.Denot)). AllZip (SameCompletion g.P.Ord.cmp)
    (map (completed_by g.M.Payload.bytes) c.push.new.self.items) ds)
    (sym ended)
    (subst
    (λ (cs : List (Completed g.row.P.Denot)). AllZip (SameCompletion g.P.Ord.cmp) cs
    (map ended_of before ++ ended_of c.one-item.result ∷ []))
    (sym answered)
    (zip-push (SameCompletion g.P.Ord.cmp) (map (completed_by g.M.Payload.bytes) c.loop-one.answers.items) (map ended_of before)
    (completed_by g.M.Payload.bytes c.in_ok-answer.field-0) (ended_of c.one-item.result) c.loop-one.invariant
    c.in_ok-answer.ensures.same))

pub returns-clause-same : goal.returns-clause-same
returns-clause-same g c =
    let whole : c.loop-one.one-index ≡ length c.args.ended.now = omega arith in
    let all : take c.loop-one.one-index c.args.ended.now ≡ c.args.ended.now =
    ap (λ n. take n c.args.ended.now) whole ∙ take-length c.args.ended.now in
    subst
    (λ (l : List (Ended g.row.P.Denot)). AllZip (SameCompletion g.P.Ord.cmp)
    (map (completed_by g.M.Payload.bytes) c.loop-one.answers.items) (map ended_of l))
    all c.loop-one.invariant
