use Rattle.host_report.proofs.LineLemmas.{puts_then, puts_none}
use Rattle.host_report.proofs.outcome.put_version_low.Goals as goal

pub returns : goal.returns
returns g c = puts_then c.put_simple_name.ensures (puts_then c.put_version.ensures puts_none)
