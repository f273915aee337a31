use Rattle.std.proofs.Common.{ℕ, ◌^◌, ◌<◌, List, slice_index, subst}
use Rattle.assembly_image.proofs.image.AssemblyImage.bytes.Goals as goal

pub returns-clause-range : goal.returns-clause-range
returns-clause-range c =
    subst (λ (bytes : List ℕ). (i : ℕ) → slice_index bytes i < 2 ^ 8) c.self.view_is c.self.invariant.parts.small
