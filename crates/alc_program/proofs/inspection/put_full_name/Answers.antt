use Rattle.host_report.proofs.LineLemmas.{puts_then}
use Rattle.alc_program.proofs.inspection.put_full_name.Goals as goal

pub returns : goal.returns
returns g c = puts_then (puts_then c.put.ensures c.put_name_within.ensures.puts) c.put-2.ensures
