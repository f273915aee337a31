use Rattle.std.proofs.Common.{List, ℕ, ap, ◌∙◌}
use Rattle.assembly_image.specs.Module.{count}
use Rattle.assembly_image.specs.Reading.{module_of}
use Rattle.assembly_image.proofs.ImageLemmas.{counted}
use Rattle.assembly_image.proofs.image.AssemblyImage.count.Goals as goal

pub returns : goal.returns
returns c =
    c.count.ensures ∙ counted _ _ _ _ c.self.invariant.parts c.args.table c.requires
    ∙ ap (λ (bytes : List ℕ). count (module_of bytes) c.args.table) c.self.view_is
