use Rattle.std.proofs.Common.{ap, ◌∙◌}
use Rattle.alc_program.specs.Inspection.{version_text}
use Rattle.host_report.specs.Quote.{quoted}
use Rattle.host_report.proofs.LineLemmas.{puts_as, puts_then}
use Rattle.alc_program.proofs.inspection.put_assembly.Goals as goal

pub returns : goal.returns
returns g c =
    let units = c.units-2.ensures.units ∙ c.units.ensures ∙ c.name.ensures in
    let name = puts_then c.put.ensures (puts_as (ap quoted units) c.put_quoted.ensures) in
    let version = puts_as (ap version_text c.version.ensures) c.put_version.ensures in
    puts_then (puts_then (puts_then name c.put-2.ensures) version) c.put-3.ensures
