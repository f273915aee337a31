use Rattle.host_report.proofs.LineLemmas.{puts_then}
use Rattle.host_report.proofs.field.put_version.Goals as goal

pub returns : goal.returns
returns g c =
    let major = puts_then c.put_decimal.ensures c.put.ensures in
    let minor = puts_then (puts_then major c.put_number.ensures) c.put-2.ensures in
    let build = puts_then (puts_then minor c.put_number-2.ensures) c.put-3.ensures in
    puts_then build c.put_number-3.ensures
