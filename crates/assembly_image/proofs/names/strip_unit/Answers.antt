use Rattle.std.proofs.Common.{[], ◌∷◌}
use Rattle.std.proofs.lemmas.Bool.Decides.{Decides-eqb}
use Rattle.std.proofs.lemmas.Slice.Eq.{strip_suffix_is}
use Rattle.assembly_image.proofs.names.strip_unit.Goals as goal

pub returns : goal.returns
returns c = strip_suffix_is Decides-eqb c.args.units.now (c.args.unit ∷ []) _ c.strip_suffix.ensures.cases
