use Rattle.host_report.proofs.LineLemmas.{puts_then}
use Rattle.host_report.proofs.writing.put_thread.Goals as goal

pub returns : goal.returns
returns g c = puts_then c.put_count_line.ensures c.put_commands.ensures
