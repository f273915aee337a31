use Rattle.std.proofs.Common.{ap}
use Rattle.std.proofs.lemmas.Int.{to_z-of_z}
use Rattle.std.specs.Int.{w64}
use Rattle.std.specs.Prelude.{[], ◌∷◌}
use Rattle.host_report.specs.Fields.{Field, fields_text}
use Rattle.host_report.proofs.LineLemmas.{puts_as, puts_then, puts_none}
use Rattle.host_report.proofs.value.put_long_value.Goals as goal

pub returns : goal.returns
returns g c =
    puts_as (ap (λ number. fields_text (Field.Word c.args.word.now ∷ Field.Signed w64 number ∷ [])) (to_z-of_z w64 c.args.number c.ranges.number))
    (puts_then c.put_word.ensures (puts_then c.put_long.ensures puts_none))
