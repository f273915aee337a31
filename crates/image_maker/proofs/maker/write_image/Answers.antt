use Rattle.std.proofs.Common.{◌≡◌, ℕ, List, IfOk, ap, ◌∙◌, arith, Result, Ok, Err}
use Rattle.metadata_tables.specs.declared.layout.Layout.{Layout}
use Rattle.image_maker.specs.Sound.{layout_at}
use Rattle.image_maker.specs.File.{padded}
use Rattle.image_maker.specs.Written.{rows_bytes}
use Rattle.image_maker.specs.Whole.{cells_in}
use Rattle.image_maker.proofs.LengthBounds.{bodies_small}
use Rattle.image_maker.proofs.SoundModule as facts
use Rattle.image_maker.proofs.SoundParts.{limit_parts}
use Rattle.image_maker.proofs.maker.write_image.Goals as goal

pub write_rows-written-requires-clause-params : goal.write_rows-written-requires-clause-params
write_rows-written-requires-clause-params c = facts.few_params c.args.source.now c.requires.sound c.requires.within

pub write_rows-written-requires-clause-fields : goal.write_rows-written-requires-clause-fields
write_rows-written-requires-clause-fields c =
    omega (arith, facts.few_fields c.args.source.now c.requires.sound c.requires.within)

pub write_rows-written-requires-clause-methods : goal.write_rows-written-requires-clause-methods
write_rows-written-requires-clause-methods c =
    omega (arith, facts.few_methods c.args.source.now c.requires.sound c.requires.within)

pub write_rows-written-requires-clause-bodies : goal.write_rows-written-requires-clause-bodies
write_rows-written-requires-clause-bodies c = bodies_small c.args.source.now c.requires.within

pub write_rows-written-requires-clause-given : goal.write_rows-written-requires-clause-given
write_rows-written-requires-clause-given c = (facts.parts c.args.source.now c.requires.sound c.requires.within).fitting

pub write_parts-requires-clause-ready : goal.write_parts-requires-clause-ready
unfolding cells_in
write_parts-requires-clause-ready c =
    let m = c.args.source.now in
    let written = c.write_rows-written.result in
    let layout : written.layout ≡ layout_at m 0 =
    c.write_rows-written.ensures.layout
    ∙ ap (λ (counts : List ℕ). let l : Layout = record { rows_at = 0; heap_sizes = 7; counts = counts } in l)
    (c.counts.ensures.all (limit_parts m c.requires.within).long) in
    let held = c.write_rows-written.ensures.holds c.if-written.false in
    record {
      layout = layout;
      rows = held.0.rows_written ∙ ap (λ (l : Layout). rows_bytes l (cells_in m)) layout;
      strings = c.in_ok-pad.ensures ∙ ap (padded 4) held.0.strings_written;
      blobs = c.in_ok-pad-2.ensures ∙ ap (padded 4) held.0.blobs_written;
      bodies = held.1;
    }

-- what is known beside what an answer tells
beside : {A E : Type 0} (result : Result A E) (Known : Type 0) (Told : A → Type 0) → Known → IfOk result Told
    → IfOk result (λ value. Known × Told value)
beside (Ok value) Known Told known told = (known, told)
beside (Err fault) Known Told known told = told

pub returns : goal.returns
unfolding cells_in
returns c =
    let held = c.write_rows-written.ensures.holds c.if-written.false in
    beside c.write_parts.result _ _ held.0.kept c.write_parts.ensures
