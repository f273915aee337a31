use Rattle.std.proofs.Common.{ap, ◌∙◌}
use Rattle.host_report.specs.Fields.{spaced}
use Rattle.host_report.proofs.LineLemmas.{puts_as, puts_then, puts_none}
use Rattle.host_report.proofs.outcome.put_bad_image.Goals as goal

pub returns : goal.returns
returns g c =
    let name = puts_as (ap spaced (c.as_bytes.ensures.value ∙ c.name.ensures)) c.put_word.ensures in
    puts_then name (puts_then c.put_decimal.ensures puts_none)
