use Rattle.std.proofs.Common.{rules, ◌≡◌, ◌∷◌, ◌++◌, [], sym, subst}
use Rattle.std.proofs.lemmas.List.{take_more}
use Rattle.std.proofs.lemmas.Slice.Zip.{all_zipped_more}
use Rattle.std.specs.List.{AllZip}
use Rattle.broadcast.specs.Links.{IsVoteOver}
use Rattle.broadcast.proofs.Links.{vote_over}
use Rattle.broadcast.proofs.workload.Workload.votes.Goals as goal

-- one vote more, over the next link
pub loop-link-preserved : goal.loop-link-preserved
loop-link-preserved c =
    let kept : c.push.new.self.items ≡ c.loop-link.votes.items ++ c.message.result ∷ [] = search rules in
    let more =
    take_more c.deref-link-items.result.now c.loop-link.link-index (record { origin = 0; recipient = 0; latency = 0 })
    c.loop-link-test.true in
    let vote =
    vote_over c.args.leader c.between-length.result _ c.message.result c.in_ok-bytes.bytes c.args.self.now.bytes
    c.message.ensures c.in_ok-bytes.ensures.ok c.args.self.now.long c.between-length.ensures.least
    c.between-length.ensures.most in
    subst (λ links. AllZip (IsVoteOver c.args.leader) links c.push.new.self.items) (sym more)
    (subst (AllZip (IsVoteOver c.args.leader) _) (sym kept)
    (all_zipped_more (IsVoteOver c.args.leader) _ _ _ _ c.loop-link.invariant vote))
