use Rattle.std.proofs.Common.{ap, sym}
use Rattle.host_report.specs.Fields.{fields_text}
use Rattle.host_report.specs.Table.{kind_fields}
use Rattle.host_report.proofs.LineLemmas.{puts_as, puts_then, puts_none}
use Rattle.host_report.proofs.event.put_kind.Goals as goal

pub returns-in-Collectible : goal.returns-in-Collectible
returns-in-Collectible g c = puts_as (ap (λ told. fields_text (kind_fields told)) (sym c.in-Collectible.is)) puts_none

pub returns-in-Fixed : goal.returns-in-Fixed
returns-in-Fixed g c = puts_as (ap (λ told. fields_text (kind_fields told)) (sym c.in-Fixed.is)) (puts_then c.put_word.ensures puts_none)
