use Rattle.std.proofs.Common.{◌++◌, sym, ap, ◌∙◌, append-nil, add-zero}
use Rattle.image_maker.specs.File.{stream_headers}
use Rattle.image_maker.proofs.RootPlacesSteps.{all_taken, name_short, part_headers, place_short}
use Rattle.image_maker.proofs.streams.put_headers.Goals as goal

pub loop-part-init : goal.loop-part-init
loop-part-init c = (sym (add-zero c.args.first), sym (append-nil c.args.out.now.items))

pub put_header-requires-clause-name : goal.put_header-requires-clause-name
put_header-requires-clause-name c =
    name_short c.args.parts.now c.loop-part.part-index _ c.loop-part-test.true c.requires.names

pub put_header-requires-clause-place : goal.put_header-requires-clause-place
put_header-requires-clause-place c =
    place_short c.args.parts.now c.loop-part.part-index _ c.loop-part-test.true c.args.first c.loop-part.place
    c.requires.places c.loop-part.invariant.0

pub loop-part-preserved : goal.loop-part-preserved
loop-part-preserved c =
    part_headers c.args.parts.now c.loop-part.part-index _ c.loop-part-test.true
    c.args.first c.loop-part.place c.in_ok-place.place c.args.out.now.items c.loop-part.out.items
    c.put_header.new.out.items c.loop-part.invariant c.in_ok-place.ensures.next c.in_ok-place.ensures.header

pub returns : goal.returns
returns c =
    c.loop-part.invariant.1
    ∙ ap (λ xs. c.args.out.now.items ++ stream_headers c.args.first xs)
    (all_taken c.args.parts.now c.loop-part.part-index c.loop-part-test.false)
