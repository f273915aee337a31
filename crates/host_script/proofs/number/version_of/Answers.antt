use Rattle.std.proofs.Common.{◌≡◌, ◌==◌, ℕ, Bool, true, false, cond, List, [], ◌∷◌, None, refl, sym}
use Rattle.std.specs.List.{slice_split, onto_first}
use Rattle.host_script.specs.Number.{version_of, version_in}
use Rattle.host_script.proofs.number.version_of.Goals as goal

abbrev split : List ℕ → List (List ℕ)
split bs = slice_split (λ b. b == 46) bs

onto_some : (a b c d : List ℕ) (x : ℕ) (ps : List (List ℕ)) → version_in (a ∷ b ∷ c ∷ d ∷ onto_first x ps) ≡ None
onto_some a b c d x [] = refl
onto_some a b c d x (p ∷ ps) = refl

choice : (a b c d : List ℕ) (t : Bool) (x : ℕ) (ps : List (List ℕ)) →
    version_in (a ∷ b ∷ c ∷ d ∷ cond t ([] ∷ ps) (onto_first x ps)) ≡ None
choice a b c d true x ps = refl
choice a b c d false x ps = onto_some a b c d x ps

five : (a b c d bs : List ℕ) → version_in (a ∷ b ∷ c ∷ d ∷ split bs) ≡ None
five a b c d [] = refl
five a b c d (x ∷ bs) = choice a b c d (x == 46) x (split bs)

joined : (word a b c d r1 r2 r3 e : List ℕ) → split word ≡ a ∷ split r1 → split r1 ≡ b ∷ split r2 →
    split r2 ≡ c ∷ split r3 → split r3 ≡ d ∷ split e → None ≡ version_of word
joined word a b c d r1 r2 r3 e is is1 is2 is3 = sym (rw (is, is1, is2, is3) (five a b c d e))

pub returns-in-Some : goal.returns-in-Some
returns-in-Some c =
    joined c.args.word.now c.in_ok-major.major.now c.in_ok-minor.minor.now c.in_ok-build.build.now _
    c.in_ok-major.rest.now c.in_ok-minor.rest.now c.in_ok-build.revision.now c.in-Some.field-0.1.now
    c.in_ok-major.ensures c.in_ok-minor.ensures c.in_ok-build.ensures c.in-Some.ensures
