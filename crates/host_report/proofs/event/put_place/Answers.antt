use Rattle.std.proofs.Common.{ap, sym}
use Rattle.host_report.specs.Fields.{fields_text}
use Rattle.host_report.specs.Table.{place_fields}
use Rattle.host_report.proofs.LineLemmas.{puts_as, puts_then, puts_none}
use Rattle.host_report.proofs.event.put_place.Goals as goal

pub returns-in-On : goal.returns-in-On
returns-in-On g c = puts_as (ap (λ told. fields_text (place_fields told)) (sym c.in-On.is)) c.put_named.ensures

pub returns-in-Resolving : goal.returns-in-Resolving
returns-in-Resolving g c = puts_as (ap (λ told. fields_text (place_fields told)) (sym c.in-Resolving.is)) c.put_named-in-Resolving.ensures

pub returns-in-Resolve : goal.returns-in-Resolve
returns-in-Resolve g c = puts_as (ap (λ told. fields_text (place_fields told)) (sym c.in-Resolve.is)) (puts_then c.put_word.ensures puts_none)
