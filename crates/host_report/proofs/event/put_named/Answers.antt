use Rattle.host_report.proofs.LineLemmas.{puts_then, puts_none}
use Rattle.host_report.proofs.event.put_named.Goals as goal

pub returns : goal.returns
returns g c = puts_then c.put_word.ensures (puts_then c.put_name.ensures puts_none)
