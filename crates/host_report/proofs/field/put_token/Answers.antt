use Rattle.host_report.proofs.LineLemmas.{puts_then}
use Rattle.host_report.proofs.field.put_token.Goals as goal

pub returns : goal.returns
returns g c =
    puts_then c.put.ensures (puts_then c.put_byte.ensures (puts_then c.put_byte-2.ensures (puts_then c.put_byte-3.ensures c.put_byte-4.ensures)))
