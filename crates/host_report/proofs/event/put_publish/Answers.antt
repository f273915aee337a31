use Rattle.host_report.proofs.LineLemmas.{puts_then}
use Rattle.host_report.proofs.event.put_publish.Goals as goal

pub returns : goal.returns
returns g c = puts_then c.put_word.ensures (puts_then c.put_decimal.ensures (puts_then c.put_simple_name.ensures c.put_candidate.ensures))
