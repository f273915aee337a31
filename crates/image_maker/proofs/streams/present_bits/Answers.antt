use Rattle.std.proofs.Common.{◌≡◌, slice_index, refl, ap, ◌∙◌, arith}
use Rattle.image_maker.proofs.TablePlacesSteps.{bits_below, bit_next}
use Rattle.image_maker.proofs.streams.present_bits.Goals as goal

pub loop-table-preserved : goal.loop-table-preserved
loop-table-preserved c =
    bit_next (λ t. slice_index c.args.counts.now t) c.loop-table.table c.loop-table.bits c.bit_of-bits.result _
    c.loop-table.invariant c.bit_of-bits.ensures refl

pub returns : goal.returns
returns c =
    let all : c.loop-table.table ≡ 45 = omega arith in
    c.loop-table.invariant ∙ ap (bits_below (λ t. slice_index c.args.counts.now t)) all
