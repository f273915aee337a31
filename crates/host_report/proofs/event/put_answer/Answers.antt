use Rattle.std.proofs.Common.{ap, sym}
use Rattle.host_report.specs.Fields.{fields_text}
use Rattle.host_report.specs.Table.{answer_fields}
use Rattle.host_report.proofs.LineLemmas.{puts_as, puts_then, puts_none}
use Rattle.host_report.proofs.event.put_answer.Goals as goal

pub returns-in-Nothing : goal.returns-in-Nothing
returns-in-Nothing g c = puts_as (ap (λ told. fields_text (answer_fields told)) (sym c.in-Nothing.is)) (puts_then c.put_word.ensures puts_none)
