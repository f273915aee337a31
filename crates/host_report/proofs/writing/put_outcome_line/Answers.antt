use Rattle.host_report.proofs.LineLemmas.{puts_then}
use Rattle.host_report.proofs.writing.put_outcome_line.Goals as goal

pub returns : goal.returns
returns g c = puts_then c.put_outcome.ensures c.put.ensures
