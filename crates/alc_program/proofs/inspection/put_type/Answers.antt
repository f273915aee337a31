use Rattle.host_report.proofs.LineLemmas.{puts_then}
use Rattle.alc_program.proofs.inspection.put_type.Goals as goal

pub returns : goal.returns
returns g c =
    let row = puts_then (puts_then c.put.ensures c.put_number.ensures) c.put-2.ensures in
    let name = puts_then (puts_then row c.put_full_name.ensures) c.put-3.ensures in
    puts_then (puts_then name c.put_members.ensures) c.put_members-2.ensures
