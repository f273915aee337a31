use Rattle.std.proofs.Common.{ap, sym}
use Rattle.host_report.specs.Fields.{spaced}
use Rattle.host_report.specs.OutcomeParts.{outcome_rest}
use Rattle.host_report.proofs.LineLemmas.{puts_as, puts_none, puts_then}
use Rattle.host_report.proofs.OutcomePartsLemmas.{rest_operand}
use Rattle.host_report.proofs.outcome.put_rest.Goals as goal

pub returns-in-Replied : goal.returns-in-Replied
returns-in-Replied g c = puts_as (ap outcome_rest (sym c.in-Replied.is)) c.put_reply.ensures

pub returns-in-Value : goal.returns-in-Value
returns-in-Value g c = puts_as (ap outcome_rest (sym c.in-Value.is)) c.put_units_value.ensures

pub returns-in-VersionLow : goal.returns-in-VersionLow
returns-in-VersionLow g c = puts_as (ap outcome_rest (sym c.in-VersionLow.is)) c.put_version_low.ensures

pub returns-in-BadImage : goal.returns-in-BadImage
returns-in-BadImage g c = puts_as (ap outcome_rest (sym c.in-BadImage.is)) c.put_bad_image.ensures

pub returns-in-BadMember : goal.returns-in-BadMember
returns-in-BadMember g c = puts_as (ap outcome_rest (sym c.in-BadMember.is)) (puts_then c.put_token.ensures puts_none)

pub returns-in-Unsupported : goal.returns-in-Unsupported
returns-in-Unsupported g c = puts_as (ap outcome_rest (sym c.in-Unsupported.is)) (puts_then (puts_as (ap spaced c.text.ensures) c.put_word.ensures) puts_none)

pub returns-in-VerifyFault : goal.returns-in-VerifyFault
returns-in-VerifyFault g c = puts_as (ap outcome_rest (sym c.in-VerifyFault.is)) c.put_verify_fault.ensures

pub returns-in_default : goal.returns-in_default
returns-in_default g c =
    puts_as (rest_operand c.args.outcome.now c.in_default.not-Replied c.in_default.not-Value c.in_default.not-VersionLow c.in_default.not-BadImage c.in_default.not-BadMember c.in_default.not-Unsupported c.in_default.not-VerifyFault) c.put_operand.ensures
