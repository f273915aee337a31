use Rattle.std.proofs.Common.{ap}
use Rattle.host_report.specs.Fields.{spaced}
use Rattle.host_report.proofs.LineLemmas.{puts_as, puts_then, puts_none}
use Rattle.host_report.proofs.event.put_load.Goals as goal

pub returns : goal.returns
returns g c =
    let kind = puts_as (ap spaced c.kind_word.ensures) c.put_word-2.ensures in
    puts_then c.put_word.ensures (puts_then c.put_key.ensures (puts_then c.put_decimal.ensures (puts_then kind puts_none)))
