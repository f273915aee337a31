use Rattle.std.proofs.Common.{◌∙◌, sym}
use Rattle.image_maker.proofs.TextUnits.{whole_end}
use Rattle.image_maker.proofs.units.is_whole.Goals as goal

pub returns : goal.returns
returns c =
    whole_end c.args.units.now c.loop-rest.rest.now
    (sym c.is_empty.ensures ∙ c.loop-rest-test.false) c.loop-rest.invariant
