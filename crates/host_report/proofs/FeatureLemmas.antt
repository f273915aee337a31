-- The feature that a name is of, however it is looked for.
use Rattle.std.proofs.Common.{◌≡◌, ℕ, List, Option, Some, None, refl, sym, ◌∙◌, ap}
use Rattle.std.specs.Prelude.{◌↔◌, option_map}
use Rattle.host_events.specs.declared.outcome.Outcome.TheVariants as outcomes
use Rattle.signatures.specs.declared.feature.Feature.{Feature}
use Rattle.signatures.specs.Features.{text as feature_text}
use Rattle.signatures.proofs.Names.{named-exactly}
use Rattle.host_report.specs.FieldReading.{word_read}
use Rattle.host_report.specs.OutcomeReading.{feature_named, unsupported_read}

one_option : (a b : Option Feature) → ((feature : Feature) → a ≡ Some feature → b ≡ Some feature) →
    ((feature : Feature) → b ≡ Some feature → a ≡ Some feature) → a ≡ b
one_option None None to from = refl
one_option None (Some feature) to from = from feature refl
one_option (Some feature) b to from = sym (to feature refl)

feature_same : (name : List ℕ) (there : Option Feature) →
    ((feature : Feature) → (there ≡ Some feature) ↔ (feature_text feature ≡ name)) → feature_named name ≡ there
feature_same name there exact =
    let same = named-exactly name (feature_named name) refl in
    one_option (feature_named name) there
    (λ feature is. (exact feature).1 ((same feature).0 is))
    (λ feature is. (same feature).1 ((exact feature).0 is))

-- the outcome of a feature, where a look-up by the first word gives this
pub unsupported_there : (rest name : List ℕ) (there : Option Feature) → name ≡ (word_read rest).0 →
    ((feature : Feature) → (there ≡ Some feature) ↔ (feature_text feature ≡ name)) →
    unsupported_read rest ≡ option_map outcomes.Unsupported there
unsupported_there rest name there front exact =
    ap (option_map outcomes.Unsupported) (ap feature_named (sym front) ∙ feature_same name there exact)
