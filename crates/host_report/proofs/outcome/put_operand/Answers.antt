use Rattle.std.proofs.Common.{ap, sym}
use Rattle.host_report.specs.Fields.{fields_text}
use Rattle.host_report.specs.OutcomeParts.{operand}
use Rattle.host_report.proofs.LineLemmas.{puts_as, puts_none, puts_then}
use Rattle.host_report.proofs.OutcomePartsLemmas.{operand_none}
use Rattle.host_report.proofs.outcome.put_operand.Goals as goal

pub returns-in-Assembly : goal.returns-in-Assembly
returns-in-Assembly g c = puts_as (ap (λ told. fields_text (operand told)) (sym c.in-Assembly.is)) (puts_then c.put_decimal.ensures puts_none)

pub returns-in-NotCollectible : goal.returns-in-NotCollectible
returns-in-NotCollectible g c = puts_as (ap (λ told. fields_text (operand told)) (sym c.in-NotCollectible.is)) (puts_then c.put_decimal-in-NotCollectible.ensures puts_none)

pub returns-in-NotFound : goal.returns-in-NotFound
returns-in-NotFound g c = puts_as (ap (λ told. fields_text (operand told)) (sym c.in-NotFound.is)) (puts_then c.put_simple_name.ensures puts_none)

pub returns-in-NameMismatch : goal.returns-in-NameMismatch
returns-in-NameMismatch g c = puts_as (ap (λ told. fields_text (operand told)) (sym c.in-NameMismatch.is)) (puts_then c.put_simple_name-in-NameMismatch.ensures puts_none)

pub returns-in-NoType : goal.returns-in-NoType
returns-in-NoType g c = puts_as (ap (λ told. fields_text (operand told)) (sym c.in-NoType.is)) (puts_then c.put_units.ensures puts_none)

pub returns-in-NoMethod : goal.returns-in-NoMethod
returns-in-NoMethod g c = puts_as (ap (λ told. fields_text (operand told)) (sym c.in-NoMethod.is)) (puts_then c.put_units-in-NoMethod.ensures puts_none)

pub returns-in-NoField : goal.returns-in-NoField
returns-in-NoField g c = puts_as (ap (λ told. fields_text (operand told)) (sym c.in-NoField.is)) (puts_then c.put_units-in-NoField.ensures puts_none)

pub returns-in-Ambiguous : goal.returns-in-Ambiguous
returns-in-Ambiguous g c = puts_as (ap (λ told. fields_text (operand told)) (sym c.in-Ambiguous.is)) (puts_then c.put_units-in-Ambiguous.ensures puts_none)

pub returns-in-Threw : goal.returns-in-Threw
returns-in-Threw g c = puts_as (ap (λ told. fields_text (operand told)) (sym c.in-Threw.is)) (puts_then c.put_units-in-Threw.ensures puts_none)

pub returns-in_default : goal.returns-in_default
returns-in_default g c = puts_as (operand_none c.args.outcome.now c.in_default.not-Assembly c.in_default.not-NotCollectible c.in_default.not-NotFound c.in_default.not-NameMismatch c.in_default.not-NoType c.in_default.not-NoMethod c.in_default.not-NoField c.in_default.not-Ambiguous c.in_default.not-Threw) puts_none
