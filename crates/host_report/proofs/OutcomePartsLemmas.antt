-- Lemmas on the word of an outcome and what stands behind it.
use Rattle.std.proofs.Common.{◌≡◌, ℕ, List, [], ◌++◌, refl}
use Rattle.std.specs.Prelude.{codes}
use Rattle.assembly_name.specs.declared.version.Version.{Version}
use Rattle.cli_words.specs.declared.check.FailedCheck.{FailedCheck}
use Rattle.signatures.specs.declared.feature.Feature.{Feature}
use Rattle.host_events.specs.declared.event.Datum.{Datum}
use Rattle.host_events.specs.declared.outcome.Outcome.{Outcome}
use Rattle.host_events.specs.declared.outcome.Outcome.TheVariants as outcomes
use Rattle.host_events.specs.declared.outcome.VerifyRule.{VerifyRule}
use Rattle.host_events.specs.declared.reply.Reply.{Reply}
use Rattle.host_report.specs.Fields.{fields_text, front_text}
use Rattle.host_report.specs.OutcomeParts.{operand, outcome_rest, outcome_word}
use Rattle.host_report.specs.Table.{outcome_fields}
use Rattle.host_report.proofs.ReplyPartsLemmas.{one_then}

pub outcome_parted : (outcome : Outcome) → outcome_word outcome ++ outcome_rest outcome ≡ front_text (outcome_fields outcome)
outcome_parted (outcomes.Replied reply) = refl
outcome_parted (outcomes.Value value) = refl
outcome_parted (outcomes.VersionLow name version) = refl
outcome_parted (outcomes.BadImage failed) = refl
outcome_parted (outcomes.BadMember token) = refl
outcome_parted (outcomes.Unsupported feature) = refl
outcome_parted (outcomes.VerifyFault token at rule) = refl
outcome_parted (outcomes.Assembly n) = one_then (codes "Assembly") n
outcome_parted (outcomes.NotCollectible n) = one_then (codes "NotCollectible") n
outcome_parted (outcomes.NotFound name) = refl
outcome_parted (outcomes.NameMismatch name) = refl
outcome_parted (outcomes.NoType name) = refl
outcome_parted (outcomes.NoMethod name) = refl
outcome_parted (outcomes.NoField name) = refl
outcome_parted (outcomes.Ambiguous name) = refl
outcome_parted (outcomes.Threw name) = refl
outcome_parted outcomes.Void = refl
outcome_parted outcomes.Budget = refl
outcome_parted outcomes.EventLimit = refl
outcome_parted outcomes.Depth = refl
outcome_parted outcomes.HeapFull = refl
outcome_parted outcomes.TypeDepth = refl
outcome_parted outcomes.StaticLong = refl

-- what stands behind the word of an outcome that has no more than a number or a text
pub rest_operand : (outcome : Outcome) →
    ((reply : Reply) → outcome ≡ outcomes.Replied reply → ⊥) →
    ((value : Datum (List ℕ)) → outcome ≡ outcomes.Value value → ⊥) →
    ((name : List ℕ) (version : Version) → outcome ≡ outcomes.VersionLow name version → ⊥) →
    ((failed : FailedCheck) → outcome ≡ outcomes.BadImage failed → ⊥) →
    ((token : ℕ) → outcome ≡ outcomes.BadMember token → ⊥) →
    ((feature : Feature) → outcome ≡ outcomes.Unsupported feature → ⊥) →
    ((token at : ℕ) (rule : VerifyRule) → outcome ≡ outcomes.VerifyFault token at rule → ⊥) →
    fields_text (operand outcome) ≡ outcome_rest outcome
rest_operand (outcomes.Replied reply) no_reply no_value no_low no_image no_member no_feature no_fault = absurd (no_reply reply refl)
rest_operand (outcomes.Value value) no_reply no_value no_low no_image no_member no_feature no_fault = absurd (no_value value refl)
rest_operand (outcomes.VersionLow name version) no_reply no_value no_low no_image no_member no_feature no_fault = absurd (no_low name version refl)
rest_operand (outcomes.BadImage failed) no_reply no_value no_low no_image no_member no_feature no_fault = absurd (no_image failed refl)
rest_operand (outcomes.BadMember token) no_reply no_value no_low no_image no_member no_feature no_fault = absurd (no_member token refl)
rest_operand (outcomes.Unsupported feature) no_reply no_value no_low no_image no_member no_feature no_fault = absurd (no_feature feature refl)
rest_operand (outcomes.VerifyFault token at rule) no_reply no_value no_low no_image no_member no_feature no_fault = absurd (no_fault token at rule refl)
rest_operand (outcomes.Assembly n) no_reply no_value no_low no_image no_member no_feature no_fault = refl
rest_operand (outcomes.NotCollectible n) no_reply no_value no_low no_image no_member no_feature no_fault = refl
rest_operand (outcomes.NotFound name) no_reply no_value no_low no_image no_member no_feature no_fault = refl
rest_operand (outcomes.NameMismatch name) no_reply no_value no_low no_image no_member no_feature no_fault = refl
rest_operand (outcomes.NoType name) no_reply no_value no_low no_image no_member no_feature no_fault = refl
rest_operand (outcomes.NoMethod name) no_reply no_value no_low no_image no_member no_feature no_fault = refl
rest_operand (outcomes.NoField name) no_reply no_value no_low no_image no_member no_feature no_fault = refl
rest_operand (outcomes.Ambiguous name) no_reply no_value no_low no_image no_member no_feature no_fault = refl
rest_operand (outcomes.Threw name) no_reply no_value no_low no_image no_member no_feature no_fault = refl
rest_operand outcomes.Void no_reply no_value no_low no_image no_member no_feature no_fault = refl
rest_operand outcomes.Budget no_reply no_value no_low no_image no_member no_feature no_fault = refl
rest_operand outcomes.EventLimit no_reply no_value no_low no_image no_member no_feature no_fault = refl
rest_operand outcomes.Depth no_reply no_value no_low no_image no_member no_feature no_fault = refl
rest_operand outcomes.HeapFull no_reply no_value no_low no_image no_member no_feature no_fault = refl
rest_operand outcomes.TypeDepth no_reply no_value no_low no_image no_member no_feature no_fault = refl
rest_operand outcomes.StaticLong no_reply no_value no_low no_image no_member no_feature no_fault = refl

-- an outcome that has no number and no text alone
pub operand_none : (outcome : Outcome) →
    ((n : ℕ) → outcome ≡ outcomes.Assembly n → ⊥) →
    ((n : ℕ) → outcome ≡ outcomes.NotCollectible n → ⊥) →
    ((name : List ℕ) → outcome ≡ outcomes.NotFound name → ⊥) →
    ((name : List ℕ) → outcome ≡ outcomes.NameMismatch name → ⊥) →
    ((name : List ℕ) → outcome ≡ outcomes.NoType name → ⊥) →
    ((name : List ℕ) → outcome ≡ outcomes.NoMethod name → ⊥) →
    ((name : List ℕ) → outcome ≡ outcomes.NoField name → ⊥) →
    ((name : List ℕ) → outcome ≡ outcomes.Ambiguous name → ⊥) →
    ((name : List ℕ) → outcome ≡ outcomes.Threw name → ⊥) →
    [] ≡ fields_text (operand outcome)
operand_none (outcomes.Replied reply) no_assembly no_notcollectible no_notfound no_namemismatch no_notype no_nomethod no_nofield no_ambiguous no_threw = refl
operand_none (outcomes.Value value) no_assembly no_notcollectible no_notfound no_namemismatch no_notype no_nomethod no_nofield no_ambiguous no_threw = refl
operand_none (outcomes.VersionLow name version) no_assembly no_notcollectible no_notfound no_namemismatch no_notype no_nomethod no_nofield no_ambiguous no_threw = refl
operand_none (outcomes.BadImage failed) no_assembly no_notcollectible no_notfound no_namemismatch no_notype no_nomethod no_nofield no_ambiguous no_threw = refl
operand_none (outcomes.BadMember token) no_assembly no_notcollectible no_notfound no_namemismatch no_notype no_nomethod no_nofield no_ambiguous no_threw = refl
operand_none (outcomes.Unsupported feature) no_assembly no_notcollectible no_notfound no_namemismatch no_notype no_nomethod no_nofield no_ambiguous no_threw = refl
operand_none (outcomes.VerifyFault token at rule) no_assembly no_notcollectible no_notfound no_namemismatch no_notype no_nomethod no_nofield no_ambiguous no_threw = refl
operand_none (outcomes.Assembly n) no_assembly no_notcollectible no_notfound no_namemismatch no_notype no_nomethod no_nofield no_ambiguous no_threw = absurd (no_assembly n refl)
operand_none (outcomes.NotCollectible n) no_assembly no_notcollectible no_notfound no_namemismatch no_notype no_nomethod no_nofield no_ambiguous no_threw = absurd (no_notcollectible n refl)
operand_none (outcomes.NotFound name) no_assembly no_notcollectible no_notfound no_namemismatch no_notype no_nomethod no_nofield no_ambiguous no_threw = absurd (no_notfound name refl)
operand_none (outcomes.NameMismatch name) no_assembly no_notcollectible no_notfound no_namemismatch no_notype no_nomethod no_nofield no_ambiguous no_threw = absurd (no_namemismatch name refl)
operand_none (outcomes.NoType name) no_assembly no_notcollectible no_notfound no_namemismatch no_notype no_nomethod no_nofield no_ambiguous no_threw = absurd (no_notype name refl)
operand_none (outcomes.NoMethod name) no_assembly no_notcollectible no_notfound no_namemismatch no_notype no_nomethod no_nofield no_ambiguous no_threw = absurd (no_nomethod name refl)
operand_none (outcomes.NoField name) no_assembly no_notcollectible no_notfound no_namemismatch no_notype no_nomethod no_nofield no_ambiguous no_threw = absurd (no_nofield name refl)
operand_none (outcomes.Ambiguous name) no_assembly no_notcollectible no_notfound no_namemismatch no_notype no_nomethod no_nofield no_ambiguous no_threw = absurd (no_ambiguous name refl)
operand_none (outcomes.Threw name) no_assembly no_notcollectible no_notfound no_namemismatch no_notype no_nomethod no_nofield no_ambiguous no_threw = absurd (no_threw name refl)
operand_none outcomes.Void no_assembly no_notcollectible no_notfound no_namemismatch no_notype no_nomethod no_nofield no_ambiguous no_threw = refl
operand_none outcomes.Budget no_assembly no_notcollectible no_notfound no_namemismatch no_notype no_nomethod no_nofield no_ambiguous no_threw = refl
operand_none outcomes.EventLimit no_assembly no_notcollectible no_notfound no_namemismatch no_notype no_nomethod no_nofield no_ambiguous no_threw = refl
operand_none outcomes.Depth no_assembly no_notcollectible no_notfound no_namemismatch no_notype no_nomethod no_nofield no_ambiguous no_threw = refl
operand_none outcomes.HeapFull no_assembly no_notcollectible no_notfound no_namemismatch no_notype no_nomethod no_nofield no_ambiguous no_threw = refl
operand_none outcomes.TypeDepth no_assembly no_notcollectible no_notfound no_namemismatch no_notype no_nomethod no_nofield no_ambiguous no_threw = refl
operand_none outcomes.StaticLong no_assembly no_notcollectible no_notfound no_namemismatch no_notype no_nomethod no_nofield no_ambiguous no_threw = refl
