use Rattle.std.proofs.Common.{◌≡◌, Some, sym, ◌∙◌}
use Rattle.assembly_image.proofs.laws.one_fault.Goals as goal

pub returns : goal.returns
returns c = λ bytes first second a b. (let same : Some first ≡ Some second = sym a ∙ b in cc)
