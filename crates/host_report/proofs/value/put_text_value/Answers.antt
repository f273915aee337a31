use Rattle.std.proofs.Common.{ap, sym}
use Rattle.std.specs.Prelude.{codes, [], ◌∷◌}
use Rattle.host_report.specs.Fields.{Field, fields_text}
use Rattle.host_report.specs.Table.{text_value}
use Rattle.host_report.proofs.LineLemmas.{puts_as, puts_then, puts_none}
use Rattle.host_report.proofs.value.put_text_value.Goals as goal

pub returns-in-S : goal.returns-in-S
returns-in-S g c =
    puts_as (ap (λ told. fields_text (text_value told)) (sym c.in-S.is))
    (puts_as (ap (λ units. fields_text (Field.Word (codes "s") ∷ Field.Quoted units ∷ [])) c.units.ensures) c.put_string_value.ensures)

pub returns-in-Null : goal.returns-in-Null
returns-in-Null g c =
    puts_as (ap (λ told. fields_text (text_value told)) (sym c.in-Null.is)) (puts_then c.put_word.ensures puts_none)

pub returns-in-Ref : goal.returns-in-Ref
returns-in-Ref g c =
    puts_as (ap (λ told. fields_text (text_value told)) (sym c.in-Ref.is)) (puts_then c.put_word-in-Ref.ensures puts_none)
