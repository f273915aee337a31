use Rattle.host_report.proofs.LineLemmas.{puts_then}
use Rattle.alc_program.proofs.inspection.put_module.Goals as goal

pub returns : goal.returns
returns g c = puts_then (puts_then c.put_assembly.ensures c.put_references.ensures) c.put_types.ensures
