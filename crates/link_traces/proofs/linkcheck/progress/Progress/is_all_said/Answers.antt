use Rattle.link_traces.proofs.Common.{rules}
use Rattle.link_traces.proofs.Tracing.{all_said, not_all_said}
use Rattle.link_traces.proofs.linkcheck.progress.Progress.is_all_said.Goals as goal

pub returns : goal.returns
returns c = search (rules, all_said, not_all_said)
