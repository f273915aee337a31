use Rattle.host_report.proofs.LineLemmas.{puts_then}
use Rattle.host_report.proofs.writing.put_report.Goals as goal

pub returns : goal.returns
returns g c =
    let threads = puts_then c.put.ensures c.put_threads.ensures in
    let journal = puts_then threads c.put_count_line.ensures in
    puts_then (puts_then journal c.put_entries.ensures) c.put-2.ensures
