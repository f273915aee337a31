use Rattle.std.proofs.Common.{◌≡◌, ℕ, List, [], ◌∷◌, ◌++◌}
use Rattle.std.proofs.lemmas.Bool.{ne_eqb}
use Rattle.host_script.specs.Lines.{without_cr}
use Rattle.host_script.proofs.LineLemmas.{without_cr-13, without_cr-other}
use Rattle.host_script.proofs.line.without_cr.Goals as goal

dropped : (bs front : List ℕ) (x : ℕ) → bs ≡ front ++ x ∷ [] → x ≡ 13 → front ≡ without_cr bs
dropped bs front x is cr = let at_end = without_cr-13 front in cc

kept : (bs front : List ℕ) (x : ℕ) → bs ≡ front ++ x ∷ [] → (x ≡ 13 → ⊥) → bs ≡ without_cr bs
kept bs front x is no_cr = let at_end = without_cr-other front x (ne_eqb x 13 no_cr) in cc

pub returns-in-Some : goal.returns-in-Some
returns-in-Some c = dropped _ _ _ c.in-Some.ensures.cases.0 c.if-last-eq13.true

pub returns-in_default : goal.returns-in_default
returns-in_default c = kept _ _ _ c.in-Some.ensures.cases.0 c.if-last-eq13.false
