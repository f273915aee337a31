use Rattle.host_report.proofs.LineLemmas.{puts_then, puts_none}
use Rattle.host_report.proofs.writing.put_count_line.Goals as goal

pub returns : goal.returns
returns g c =
    let count = puts_then c.put-2.ensures (puts_then c.put_number.ensures puts_none) in
    puts_then (puts_then c.put.ensures count) c.put-3.ensures
