use Rattle.std.proofs.Common.{ap}
use Rattle.host_report.specs.Fields.{Field, field_text}
use Rattle.host_report.proofs.LineLemmas.{puts_as}
use Rattle.host_report.proofs.outcome.put_units.Goals as goal

pub returns : goal.returns
returns g c = puts_as (ap (λ units. field_text (Field.Quoted units)) c.units.ensures.units) c.put_string.ensures
