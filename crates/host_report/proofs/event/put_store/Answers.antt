use Rattle.host_report.proofs.LineLemmas.{puts_then}
use Rattle.host_report.proofs.event.put_store.Goals as goal

pub returns : goal.returns
returns g c = puts_then c.put_word.ensures (puts_then c.put_key.ensures (puts_then c.put_decimal.ensures c.put_units_value.ensures))
