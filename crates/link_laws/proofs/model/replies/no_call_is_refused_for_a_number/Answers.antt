use Rattle.link_laws.proofs.Rule.NoNumbers.{never_for_a_number}
use Rattle.link_laws.proofs.model.replies.no_call_is_refused_for_a_number.Goals as goal

pub returns : goal.returns
returns g c = never_for_a_number g.P.Ord.cmp
