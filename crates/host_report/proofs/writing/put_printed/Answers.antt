use Rattle.std.proofs.Common.{ap}
use Rattle.host_report.specs.Fields.{spaced}
use Rattle.host_report.specs.Quote.{quoted}
use Rattle.host_report.proofs.LineLemmas.{puts_as, puts_none, puts_then}
use Rattle.host_report.proofs.writing.put_printed.Goals as goal

pub returns : goal.returns
returns g c =
    let text = puts_as (ap (λ units. spaced (quoted units)) c.units.ensures.units) c.put_string.ensures in
    puts_then (puts_then c.put.ensures (puts_then text puts_none)) c.put-2.ensures
