use Rattle.std.proofs.Common.{ap}
use Rattle.std.specs.List.{flat_map}
use Rattle.host_report.specs.Fields.{line_text}
use Rattle.host_report.specs.Report.{print_fields}
use Rattle.host_report.proofs.LineLemmas.{puts_as, puts_then}
use Rattle.host_report.proofs.writing.put_command.Goals as goal

pub returns : goal.returns
returns g c =
    let lines = puts_as (ap (flat_map (λ units. line_text (print_fields units))) c.items.ensures) c.put_lines.ensures in
    puts_then lines c.put_outcome_line.ensures
