use Rattle.std.proofs.Common.{◌∙◌}
use Rattle.host_report.proofs.LineLemmas.{puts_as, puts_then}
use Rattle.host_report.proofs.KeyLemmas.{texts_are}
use Rattle.host_report.proofs.key_text.put_key.Goals as goal

pub returns : goal.returns
returns g c =
    let same = c.parts.ensures.parts ∙ c.key.ensures.key in
    puts_then c.put.ensures (puts_as (texts_are c.args.key.now _ c.key.ensures.proper.0 same) c.put_parts.ensures)
