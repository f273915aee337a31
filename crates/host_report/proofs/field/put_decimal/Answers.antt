use Rattle.host_report.proofs.LineLemmas.{puts_then}
use Rattle.host_report.proofs.field.put_decimal.Goals as goal

pub returns : goal.returns
returns g c = puts_then c.put.ensures c.put_number.ensures
