use Rattle.host_report.proofs.LineLemmas.{puts_then}
use Rattle.host_report.proofs.quote.put_quoted.Goals as goal

pub returns : goal.returns
returns g c = puts_then c.put.ensures (puts_then c.put_units.ensures c.put-2.ensures)
