use Rattle.std.proofs.Common.{ap}
use Rattle.host_report.specs.Fields.{spaced}
use Rattle.host_report.proofs.LineLemmas.{puts_as, puts_then, puts_none}
use Rattle.host_report.proofs.outcome.put_verify_fault.Goals as goal

pub returns : goal.returns
returns g c =
    let rule = puts_as (ap spaced c.rule_word.ensures) c.put_word.ensures in
    puts_then c.put_token.ensures (puts_then c.put_decimal.ensures (puts_then rule puts_none))
