use Rattle.std.proofs.Common.{refl, ◌∙◌}
use Rattle.platform_lib.specs.declared.classes.TheConstants.{PRIMITIVES}
use Rattle.platform_lib.proofs.Tables.{prim-by}
use Rattle.platform_lib.proofs.classes.prim.Goals as goal

pub returns : goal.returns
returns c = c.prim_in.ensures ∙ prim-by c.args.full.now PRIMITIVES refl
