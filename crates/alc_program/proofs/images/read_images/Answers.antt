use Rattle.std.proofs.Common.{◌≡◌, ◌∙◌, ◌+◌, ◌∷◌, [], ◌<◌, Some, ap, sym, subst, length, take, arith}
use Rattle.std.specs.Option.{option_copied}
use Rattle.std.proofs.lemmas.List.{length-map, map-append, take_all}
use Rattle.std.proofs.lemmas.Result.{IfOk-weaker}
use Rattle.bind_flow.specs.declared.images.ImageFile.{ImageFile}
use Rattle.bind_flow.specs.Readings.{meaning, readings}
use Rattle.host_script.specs.Images.{line_at}
use Rattle.alc_program.specs.Images.{AreRead}
use Rattle.alc_program.specs.Inspect.{ReadsAs}
use Rattle.alc_program.proofs.ReadingLemmas.{AllRead, all_are_read, all_counted, read_next}
use Rattle.alc_program.proofs.images.read_images.Goals as goal

pub loop-index-preserved : goal.loop-index-preserved
loop-index-preserved g c =
    let below = c.loop-index-test.true in
    let within : c.loop-index.index < length c.args.lines.now = omega (arith, c.count-index-end.ensures) in
    let here : Some c.in-Some.line.now ≡ line_at c.args.lines.now (c.loop-index.index + 1) = ap option_copied (sym c.in-Some.is) ∙ c.line.ensures in
    let reads = subst (λ h. ReadsAs h c.in-Some.line.now.path (meaning c.in_ok-image.image.reading)) c.loop-index.invariant.held c.in_ok-image.ensures.reading in
    let more = ap readings c.in_ok-push_image.ensures.items
    ∙ map-append (λ (file : ImageFile). meaning file.reading) c.loop-index.images.items (c.in_ok-image.image ∷ []) in
    record {
      read = subst (AllRead (g.F.Files.held c.args.files.now) (take (c.loop-index.index + 1) c.args.lines.now)) (sym more)
          (read_next (g.F.Files.held c.args.files.now) c.args.lines.now c.loop-index.index (readings c.loop-index.images.items)
          c.in-Some.line.now (meaning c.in_ok-image.image.reading) within c.loop-index.invariant.read here reads c.in_ok-image.ensures.version);
      held = c.in_ok-image.ensures.held ∙ c.loop-index.invariant.held;
      faults = omega (arith, c.in_ok-image.ensures.faults, c.loop-index.invariant.faults);
    }

pub of-requires : goal.of-requires
of-requires g c =
    let past = c.loop-index-test.false in
    let whole : take c.loop-index.index c.args.lines.now ≡ c.args.lines.now = take_all c.loop-index.index c.args.lines.now (omega (arith, c.count-index-end.ensures)) in
    let read = all_counted _ _ _ c.loop-index.invariant.read in
    record {
      few = omega (arith, read, ap length whole, length-map c.loop-index.images.items (λ (file : ImageFile). meaning file.reading), c.requires);
    }

pub returns-clause-images : goal.returns-clause-images
returns-clause-images g c =
    let past = c.loop-index-test.false in
    let held = g.F.Files.held c.args.files.now in
    let images = readings c.loop-index.images.items in
    let whole : take c.loop-index.index c.args.lines.now ≡ c.args.lines.now = take_all c.loop-index.index c.args.lines.now (omega (arith, c.count-index-end.ensures)) in
    let read = all_are_read held c.args.lines.now images (subst (λ ls. AllRead held ls images) whole c.loop-index.invariant.read) in
    IfOk-weaker c.share_images.result _ _ (λ _ same. subst (AreRead held c.args.lines.now) (sym (same ∙ c.of.ensures)) read) c.share_images.ensures.same
