use Rattle.std.proofs.Common.{refl, ◌∙◌}
use Rattle.platform_lib.specs.declared.classes.TheConstants.{TYPES}
use Rattle.platform_lib.proofs.Tables.{parent-by}
use Rattle.platform_lib.proofs.classes.parent.Goals as goal

pub returns : goal.returns
returns c = c.parent_in.ensures ∙ parent-by TYPES c.args.row refl
