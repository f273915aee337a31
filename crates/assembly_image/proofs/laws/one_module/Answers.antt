use Rattle.std.proofs.Common.{sym, ◌∙◌}
use Rattle.assembly_image.proofs.laws.one_module.Goals as goal

pub returns : goal.returns
returns c = λ bytes m n first second. first.holds ∙ sym second.holds
