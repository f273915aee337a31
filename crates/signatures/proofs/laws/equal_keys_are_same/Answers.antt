use Rattle.std.proofs.Common.{refl}
use Rattle.std.proofs.lemmas.Slice.Eq.{slice_eq-Decides}
use Rattle.signatures.specs.SameKeys.{same_key}
use Rattle.signatures.proofs.Equal.{part-Decides}
use Rattle.signatures.proofs.laws.equal_keys_are_same.Goals as goal

pub returns : goal.returns
returns c a b = slice_eq-Decides part-Decides a b (same_key a b) refl
