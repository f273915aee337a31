use Rattle.std.proofs.Common.{refl, ap, ◌∙◌, arith}
use Rattle.image_maker.specs.File.{headers_len}
use Rattle.image_maker.proofs.RootPlacesSteps.{all_taken, len_fits, len_next, name_short}
use Rattle.image_maker.proofs.streams.headers_len_of.Goals as goal

pub loop-part-init : goal.loop-part-init
loop-part-init c = refl

pub header_len-len-requires : goal.header_len-len-requires
header_len-len-requires c = name_short c.args.parts.now c.loop-part.part-index _ c.loop-part-test.true c.requires

pub overflow_add-len : goal.overflow_add-len
overflow_add-len c =
    omega (
      arith,
      len_fits c.args.parts.now c.loop-part.part-index _ c.loop-part-test.true c.loop-part.len c.header_len-len.result
          c.loop-part.invariant c.header_len-len.ensures,
    )

pub loop-part-preserved : goal.loop-part-preserved
loop-part-preserved c =
    len_next c.args.parts.now c.loop-part.part-index _ c.loop-part-test.true c.loop-part.len c.header_len-len.result
    c.loop-part.invariant c.header_len-len.ensures

pub returns : goal.returns
returns c =
    c.loop-part.invariant
    ∙ ap headers_len (all_taken c.args.parts.now c.loop-part.part-index c.loop-part-test.false)
