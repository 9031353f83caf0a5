use Rattle.std.proofs.Common.{ap, ◌∙◌}
use Rattle.std.proofs.lemmas.Cmp.{tied_itself}
use Rattle.std.specs.Cmp.Lexicographic.{slice_cmp}
use Rattle.std.specs.Ordering.{nat_cmp}
use Rattle.std.specs.String.{string_cmp_total}
use Rattle.test_flights.proofs.clones.NamePeer.clone_peer.Goals as goal

-- the copy has the same text
pub returns : goal.returns
returns c =
    record {
      same = ap (λ bytes. slice_cmp nat_cmp bytes c.args.self.now.text.bytes.items) c.in-Ok.ensures.cases
          ∙ tied_itself string_cmp_total c.args.self.now.text;
    }
