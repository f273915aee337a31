use Rattle.host_report.proofs.LineLemmas.{puts_then, puts_none}
use Rattle.host_report.proofs.value.put_string_value.Goals as goal

pub returns : goal.returns
returns g c = puts_then c.put_word.ensures (puts_then c.put_string.ensures puts_none)
