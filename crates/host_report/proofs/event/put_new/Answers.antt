use Rattle.std.specs.Prelude.{codes}
use Rattle.host_report.specs.Fields.{fields_text, spaced}
use Rattle.host_report.specs.Table.{kind_fields}
use Rattle.host_report.proofs.LineLemmas.{puts_as, puts_then}
use Rattle.host_report.proofs.FieldLemmas.{two_then}
use Rattle.host_report.proofs.event.put_new.Goals as goal

pub returns : goal.returns
returns g c =
    puts_as (two_then (spaced (codes "new")) (spaced c.args.name.now) (fields_text (kind_fields c.args.kind)))
    (puts_then c.put_named.ensures c.put_kind.ensures)
