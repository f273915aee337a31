use Rattle.std.specs.Prelude.{codes}
use Rattle.host_report.proofs.OutcomeReadingLemmas.{outcome_at, outcome_other}
use Rattle.host_report.proofs.outcome_reading.outcome.Goals as goal

pub returns-in-Value : goal.returns-in-Value
returns-in-Value c =
    rw (outcome_at c.args.line.now c.in_ok-name.name.now c.in_ok-name.rest.now (codes "Value") c.in_ok-name.ensures c.in-Value.is) c.given.ensures

pub returns-in-VersionLow : goal.returns-in-VersionLow
returns-in-VersionLow c =
    rw (outcome_at c.args.line.now c.in_ok-name.name.now c.in_ok-name.rest.now (codes "VersionLow") c.in_ok-name.ensures c.in-VersionLow.is) c.version_low.ensures

pub returns-in-BadImage : goal.returns-in-BadImage
returns-in-BadImage c =
    rw (outcome_at c.args.line.now c.in_ok-name.name.now c.in_ok-name.rest.now (codes "BadImage") c.in_ok-name.ensures c.in-BadImage.is) c.bad_image.ensures

pub returns-in-Unsupported : goal.returns-in-Unsupported
returns-in-Unsupported c =
    rw (outcome_at c.args.line.now c.in_ok-name.name.now c.in_ok-name.rest.now (codes "Unsupported") c.in_ok-name.ensures c.in-Unsupported.is) c.unsupported.ensures

pub returns-in-VerifyFault : goal.returns-in-VerifyFault
returns-in-VerifyFault c =
    rw (outcome_at c.args.line.now c.in_ok-name.name.now c.in_ok-name.rest.now (codes "VerifyFault") c.in_ok-name.ensures c.in-VerifyFault.is) c.verify_fault.ensures

pub returns-in_default : goal.returns-in_default
returns-in_default c =
    rw (outcome_other c.args.line.now c.in_ok-name.name.now c.in_ok-name.rest.now c.in_ok-name.ensures
    c.in_default.not-Value c.in_default.not-VersionLow c.in_default.not-BadImage c.in_default.not-Unsupported c.in_default.not-VerifyFault) c.of_assembly.ensures
