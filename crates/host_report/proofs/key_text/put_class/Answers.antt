use Rattle.host_report.proofs.LineLemmas.{puts_as, puts_then}
use Rattle.host_report.proofs.key_text.put_class.Goals as goal

pub returns : goal.returns
returns g c =
    let assembly = puts_then (puts_then c.put.ensures c.put_number.ensures) c.put-2.ensures in
    puts_then (puts_then assembly c.put_number-2.ensures) (puts_as c.arguments_mark.ensures c.put-3.ensures)
