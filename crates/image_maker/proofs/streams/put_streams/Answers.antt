use Rattle.std.proofs.Common.{◌++◌, sym, ap, ◌∙◌, append-nil}
use Rattle.image_maker.proofs.RootPlaces.{streams_bytes}
use Rattle.image_maker.proofs.RootPlacesSteps.{all_taken, part_bytes}
use Rattle.image_maker.proofs.streams.put_streams.Goals as goal

pub loop-part-init : goal.loop-part-init
loop-part-init c = sym (append-nil c.args.out.now.items)

pub loop-part-preserved : goal.loop-part-preserved
loop-part-preserved c =
    part_bytes c.args.parts.now c.loop-part.part-index _ c.loop-part-test.true
    c.args.out.now.items c.loop-part.out.items c.put_padded.new.out.items c.loop-part.invariant
    c.in_ok-put_padded.ensures

pub returns : goal.returns
returns c =
    c.loop-part.invariant
    ∙ ap (λ xs. c.args.out.now.items ++ streams_bytes xs)
    (all_taken c.args.parts.now c.loop-part.part-index c.loop-part-test.false)
