use Rattle.std.proofs.Common.{ap, refl, sym, ◌∙◌, ◌++◌, ◌∷◌, [], length, append_assoc, arith, ◌≡◌}
use Rattle.std.proofs.lemmas.Str.{is_utf8-from_IsUtf8}
use Rattle.std.proofs.lemmas.Bool.Decides.{nat_tests}
use Rattle.metadata_tables.specs.declared.schema.Column.TheVariants.{Strings}
use Rattle.image_maker.specs.declared.module.Cell.TheVariants.{Text}
use Rattle.image_maker.proofs.CellPlaces.{puts_next, same_heap, text_none, text_some}
use Rattle.image_maker.proofs.writer.Writer.text.Goals as goal

pub returns-then-is_empty : goal.returns-then-is_empty
returns-then-is_empty c =
    let old = c.args.self.now in
    let text = c.args.text.now in
    let word = c.word.ensures in
    let same = ap length c.as_bytes-bytes.ensures.value in
    let empty : length text ≡ 0 = grind (arith, nat_tests, c.is_empty.ensures, c.if-is_empty.true, same) in
    let none = text_none old text empty in
    puts_next old Strings (Text text) 0 _ _ _ _ _ _ (is_utf8-from_IsUtf8 text c.utf8.text) none.0 word.layout
    (λ e. let put = word.rows e in (
      put.0,
      put.1,
      same_heap _ _ _ (ap (λ v. v.items) word.strings) none.1,
      same_heap _ _ _ (ap (λ v. v.items) word.blobs) refl,
      ap (λ v. v.items) word.bodies,
    ))

pub returns : goal.returns
returns c =
    let old = c.args.self.now in
    let text = c.args.text.now in
    let word = c.word-2.ensures in
    let same = ap length c.as_bytes-bytes.ensures.value in
    let place = c.len-place.ensures ∙ old.strings.ok.0 in
    let some : ¬ (length text ≡ 0) = grind (arith, nat_tests, c.is_empty.ensures, c.if-is_empty.false, same) in
    let parts = text_some old text _ some place in
    puts_next old Strings (Text text) _ _ _ _ _ _ _ (is_utf8-from_IsUtf8 text c.utf8.text) parts.0 word.layout
    (λ e. let last = c.extend-2.ensures e in
    let first = c.extend.ensures last.0 in
    let put = word.rows first.0 in (
      put.0,
      put.1,
      last.1 ∙ ap (λ xs. xs ++ 0 ∷ []) (first.1 ∙ ap (λ v. v.items ++ c.as_bytes-bytes.result.now) word.strings
          ∙ ap (λ xs. old.strings.items ++ xs) c.as_bytes-bytes.ensures.value)
          ∙ append_assoc old.strings.items text (0 ∷ []) ∙ ap (λ xs. old.strings.items ++ xs) (sym parts.1),
      same_heap _ _ _ (ap (λ v. v.items) word.blobs) refl,
      ap (λ v. v.items) word.bodies,
    ))
