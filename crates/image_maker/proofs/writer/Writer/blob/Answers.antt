use Rattle.std.proofs.Common.{ap, refl, sym, ◌∙◌, ◌++◌, length, append_assoc, arith, ◌≡◌}
use Rattle.std.proofs.lemmas.Bool.Decides.{nat_tests}
use Rattle.metadata_tables.specs.declared.schema.Column.TheVariants.{Blob}
use Rattle.image_maker.specs.Written.{compressed}
use Rattle.image_maker.specs.declared.module.Cell.TheVariants.{Bytes}
use Rattle.image_maker.proofs.CellPlaces.{blob_none, blob_some, puts_next, same_heap}
use Rattle.image_maker.proofs.writer.Writer.blob.Goals as goal

pub returns-then-is_empty : goal.returns-then-is_empty
returns-then-is_empty c =
    let old = c.args.self.now in
    let bytes = c.args.bytes.now in
    let word = c.word.ensures in
    let empty : length bytes ≡ 0 = grind (arith, nat_tests, c.is_empty.ensures, c.if-is_empty.true) in
    let none = blob_none old bytes empty in
    puts_next old Blob (Bytes bytes) 0 _ _ _ _ _ _ refl none.0 word.layout
    (λ e. let put = word.rows e in (
      put.0,
      put.1,
      same_heap _ _ _ (ap (λ v. v.items) word.strings) refl,
      same_heap _ _ _ (ap (λ v. v.items) word.blobs) none.1,
      ap (λ v. v.items) word.bodies,
    ))

pub returns : goal.returns
returns c =
    let old = c.args.self.now in
    let bytes = c.args.bytes.now in
    let word = c.word-2.ensures in
    let count = c.count.ensures in
    let place = c.len-place.ensures ∙ old.blobs.ok.0 in
    let some : ¬ (length bytes ≡ 0) = grind (arith, nat_tests, c.is_empty.ensures, c.if-is_empty.false) in
    let parts = blob_some old bytes _ some place in
    puts_next old Blob (Bytes bytes) _ _ _ _ _ _ _ refl parts.0 (count.layout ∙ word.layout)
    (λ e. let last = c.extend.ensures e in
    let first = count.blobs last.0 in
    let put = word.rows first.0 in (
      put.0,
      ap (λ v. v.items) count.rows ∙ put.1,
      same_heap _ _ _ (ap (λ v. v.items) (count.strings ∙ word.strings)) refl,
      last.1 ∙ ap (λ xs. xs ++ bytes) (first.1 ∙ ap (λ v. v.items ++ compressed (length bytes)) word.blobs)
          ∙ append_assoc old.blobs.items (compressed (length bytes)) bytes
          ∙ ap (λ xs. old.blobs.items ++ xs) (sym parts.1),
      ap (λ v. v.items) (count.bodies ∙ word.bodies),
    ))
