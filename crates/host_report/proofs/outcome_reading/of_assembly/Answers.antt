use Rattle.std.proofs.Common.{◌∙◌, ap}
use Rattle.host_report.specs.OutcomeReading.{assembly_outcome}
use Rattle.host_report.proofs.GivesLemmas.{read_then}
use Rattle.host_report.proofs.OutcomeReadingLemmas.{assembly_other}
use Rattle.host_report.proofs.outcome_reading.of_assembly.Goals as goal

pub returns-in_ok-token-in-BadMember : goal.returns-in_ok-token-in-BadMember
returns-in_ok-token-in-BadMember c =
    ap (λ name. assembly_outcome c.args.line.now name c.args.rest.now) c.in-BadMember.is ∙ read_then _ c.in_ok-token-in-BadMember.ensures

pub returns-in_ok-number-in-Assembly : goal.returns-in_ok-number-in-Assembly
returns-in_ok-number-in-Assembly c =
    ap (λ name. assembly_outcome c.args.line.now name c.args.rest.now) c.in-Assembly.is ∙ read_then _ c.in_ok-number-in-Assembly.ensures.read

pub returns-in_ok-number-in-NotCollectible : goal.returns-in_ok-number-in-NotCollectible
returns-in_ok-number-in-NotCollectible c =
    ap (λ name. assembly_outcome c.args.line.now name c.args.rest.now) c.in-NotCollectible.is ∙ read_then _ c.in_ok-number-in-NotCollectible.ensures.read

pub returns-in_ok-simple_name-in-NotFound : goal.returns-in_ok-simple_name-in-NotFound
returns-in_ok-simple_name-in-NotFound c =
    ap (λ name. assembly_outcome c.args.line.now name c.args.rest.now) c.in-NotFound.is ∙ read_then _ c.in_ok-simple_name-in-NotFound.ensures

pub returns-in_ok-simple_name-in-NameMismatch : goal.returns-in_ok-simple_name-in-NameMismatch
returns-in_ok-simple_name-in-NameMismatch c =
    ap (λ name. assembly_outcome c.args.line.now name c.args.rest.now) c.in-NameMismatch.is ∙ read_then _ c.in_ok-simple_name-in-NameMismatch.ensures

pub returns-in_default : goal.returns-in_default
returns-in_default c =
    rw (assembly_other c.args.line.now c.args.name.now c.args.rest.now c.in_default.not-BadMember c.in_default.not-Assembly c.in_default.not-NotCollectible c.in_default.not-NotFound c.in_default.not-NameMismatch) c.of_text.ensures
