use Rattle.std.proofs.Common.{ap, refl}
use Rattle.image_maker.specs.declared.module.Cell.TheVariants.{Number}
use Rattle.image_maker.proofs.CellPlaces.{puts_next, same_heap}
use Rattle.image_maker.proofs.writer.Writer.number.Goals as goal

pub returns : goal.returns
returns c =
    let old = c.args.self.now in
    let word = c.word.ensures in
    puts_next old c.args.column (Number c.args.value) c.args.value _ _ _ _ _ _ c.requires
    (λ cells s b. refl) word.layout
    (λ e. let put = word.rows e in (
      put.0,
      put.1,
      same_heap _ _ _ (ap (λ v. v.items) word.strings) refl,
      same_heap _ _ _ (ap (λ v. v.items) word.blobs) refl,
      ap (λ v. v.items) word.bodies,
    ))
