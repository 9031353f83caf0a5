-- What goes over links.
use Rattle.std.proofs.Common.{◌≡◌, ℕ, ◌≤◌, List, length, ◌-◌, sym, ap, ◌∙◌, subst, arith}
use Rattle.std.proofs.lemmas.List.{length-take-le}
use Rattle.std.specs.List.{slice_range}
use Rattle.link_events.specs.Steps.Outgoing.{outgoing}
use Rattle.link_events.specs.declared.outgoing.Outgoing.{Outgoing}
use Rattle.broadcast.specs.declared.link.Link.{Link}
use Rattle.broadcast.specs.Links.{message_over, IsVoteOver}

-- a message over a link has the first bytes of a block
pub vote_over : (channel n : ℕ) (link : Link) (vote : Outgoing ℕ (List ℕ)) (bytes block : List ℕ)
    → outgoing vote ≡ message_over link channel bytes → bytes ≡ slice_range block 0 n → length block ≡ 1000000
    → 100 ≤ n → n ≤ 299 → IsVoteOver channel link vote
vote_over channel n link vote bytes block is front long least most =
    let same : bytes ≡ vote.message = sym (ap (λ m. m.bytes) is) in
    let whole : n ≡ n - 0 = omega arith in
    let within : n - 0 ≤ length block = omega (arith, long, most) in
    let many : n ≡ length vote.message =
    whole ∙ sym (length-take-le (n - 0) block within) ∙ ap length (sym front ∙ same) in
    record {
      over = is ∙ ap (message_over link channel) same;
      least = subst (λ k. 100 ≤ k) many least;
      most = subst (λ k. k ≤ 299) many most;
    }
