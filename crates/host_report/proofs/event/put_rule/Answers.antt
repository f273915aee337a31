use Rattle.std.proofs.Common.{sym}
use Rattle.host_report.proofs.LineLemmas.{puts_as, puts_then}
use Rattle.host_report.specs.Table.{place_fields}
use Rattle.host_report.proofs.FieldLemmas.{fields_text-append}
use Rattle.host_report.proofs.event.put_rule.Goals as goal

pub returns : goal.returns
returns g c = puts_as (sym (fields_text-append (place_fields c.args.place.now) _)) (puts_then c.put_place.ensures (puts_then c.put_simple_name.ensures c.put_answer.ensures))
