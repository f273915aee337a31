-- Features and their names.
use Rattle.std.proofs.Common.{◌≡◌, ℕ, Bool, true, false, cond, List, [], ◌∷◌, Option, Some, refl, sym, ap, ◌∙◌, subst}
use Rattle.std.specs.List.{find}
use Rattle.std.specs.Str.{bytes_eq}
use Rattle.std.specs.Prelude.{◌↔◌}
use Rattle.std.proofs.lemmas.Option.{same_Some}
use Rattle.std.proofs.lemmas.Slice.Eq.{bytes_eq-Decides}
use Rattle.signatures.specs.Features.{features, text}
use Rattle.signatures.specs.declared.feature.Feature.{Feature}
use Rattle.signatures.specs.declared.feature.Feature.TheVariants.{Float, ValueType, Pointer, ArrayShape, GenericMethod, Varargs, Box, Delegate, Jump, Prefix, Handle, Size, Break, Filter, ExceptionClause, Native, MultiModule, TypeInitialiser, ObjectStatic, GenericEntry, NotBuilt}

-- what is found passes the test
pub find-passes : {A : Type 0} (p : A → Bool) (xs : List A) (x : A) → find p xs ≡ Some x → p x ≡ true
find-passes p [] x h = absurd cc
find-passes p (y ∷ xs) x h =
    elim (p y) as (λ b. p y ≡ b → cond b (Some y) (find p xs) ≡ Some x → p x ≡ true) [
      | true ↦ λ e k. ap p (sym (same_Some y x k)) ∙ e
      | false ↦ λ e k. find-passes p xs x k
    ] refl h

-- the feature of a name is the one that has it
pub named-text : (feature : Feature) → find (λ other. bytes_eq (text other) (text feature)) features ≡ Some feature
named-text Float = refl
named-text ValueType = refl
named-text Pointer = refl
named-text ArrayShape = refl
named-text GenericMethod = refl
named-text Varargs = refl
named-text Box = refl
named-text Delegate = refl
named-text Jump = refl
named-text Prefix = refl
named-text Handle = refl
named-text Size = refl
named-text Break = refl
named-text Filter = refl
named-text ExceptionClause = refl
named-text Native = refl
named-text MultiModule = refl
named-text TypeInitialiser = refl
named-text ObjectStatic = refl
named-text GenericEntry = refl
named-text NotBuilt = refl

-- what is found has the name, and what has the name is found
pub named-exactly : (bytes : List ℕ) (found : Option Feature) → found ≡ find (λ other. bytes_eq (text other) bytes) features → (feature : Feature) → (found ≡ Some feature) ↔ (text feature ≡ bytes)
named-exactly bytes found e feature =
    let P : List ℕ → Type 0 = λ bytes. find (λ other. bytes_eq (text other) bytes) features ≡ Some feature in (
      λ h. (bytes_eq-Decides (text feature) bytes).0 (find-passes (λ other. bytes_eq (text other) bytes) features feature (sym e ∙ h)),
      λ h. e ∙ subst P h (named-text feature),
    )
