use Rattle.host_report.proofs.LineLemmas.{puts_then}
use Rattle.alc_program.proofs.inspection.put_version.Goals as goal

pub returns : goal.returns
returns g c =
    let minor = puts_then (puts_then c.put_number.ensures c.put.ensures) c.put_number-2.ensures in
    let build = puts_then (puts_then minor c.put-2.ensures) c.put_number-3.ensures in
    puts_then (puts_then build c.put-3.ensures) c.put_number-4.ensures
