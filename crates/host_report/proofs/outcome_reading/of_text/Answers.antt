use Rattle.std.proofs.Common.{◌∙◌, ap}
use Rattle.host_report.specs.OutcomeReading.{one_text}
use Rattle.host_report.proofs.GivesLemmas.{read_then}
use Rattle.host_report.proofs.OutcomeReadingLemmas.{text_other}
use Rattle.host_report.proofs.outcome_reading.of_text.Goals as goal

pub returns-in_ok-text-in-NoType : goal.returns-in_ok-text-in-NoType
returns-in_ok-text-in-NoType c =
    ap (λ name. one_text c.args.line.now name c.args.rest.now) c.in-NoType.is ∙ read_then _ c.in_ok-text-in-NoType.ensures

pub returns-in_ok-text-in-NoMethod : goal.returns-in_ok-text-in-NoMethod
returns-in_ok-text-in-NoMethod c =
    ap (λ name. one_text c.args.line.now name c.args.rest.now) c.in-NoMethod.is ∙ read_then _ c.in_ok-text-in-NoMethod.ensures

pub returns-in_ok-text-in-NoField : goal.returns-in_ok-text-in-NoField
returns-in_ok-text-in-NoField c =
    ap (λ name. one_text c.args.line.now name c.args.rest.now) c.in-NoField.is ∙ read_then _ c.in_ok-text-in-NoField.ensures

pub returns-in_ok-text-in-Ambiguous : goal.returns-in_ok-text-in-Ambiguous
returns-in_ok-text-in-Ambiguous c =
    ap (λ name. one_text c.args.line.now name c.args.rest.now) c.in-Ambiguous.is ∙ read_then _ c.in_ok-text-in-Ambiguous.ensures

pub returns-in_ok-text-in-Threw : goal.returns-in_ok-text-in-Threw
returns-in_ok-text-in-Threw c =
    ap (λ name. one_text c.args.line.now name c.args.rest.now) c.in-Threw.is ∙ read_then _ c.in_ok-text-in-Threw.ensures

pub returns-in_default : goal.returns-in_default
returns-in_default c =
    rw (text_other c.args.line.now c.args.name.now c.args.rest.now c.in_default.not-NoType c.in_default.not-NoMethod c.in_default.not-NoField c.in_default.not-Ambiguous c.in_default.not-Threw) c.plain.ensures
