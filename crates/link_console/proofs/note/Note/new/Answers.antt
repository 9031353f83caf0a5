use Rattle.std.proofs.Common.{◌≡◌, slice_index, replicate, arith}
use Rattle.std.proofs.lemmas.List.{get_or-replicate}
use Rattle.link_console.proofs.note.Note.new.Goals as goal

pub invariant_of-result-clause-printable : goal.invariant_of-result-clause-printable
invariant_of-result-clause-printable c =
    λ k below. let space : slice_index (replicate 400 32) k ≡ 32 = get_or-replicate 400 k 32 0 below in
    (omega (arith, space), omega (arith, space))
