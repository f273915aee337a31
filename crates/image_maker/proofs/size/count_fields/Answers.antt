use Rattle.std.proofs.Common.{ℕ, List, ◌∷◌, ◌+◌, [], length, subst}
use Rattle.std.specs.List.{flat_map, sum_by}
use Rattle.image_maker.specs.declared.module.TypeRow.{TypeRow}
use Rattle.image_maker.specs.declared.module.FieldRow.{FieldRow}
use Rattle.image_maker.specs.Tally.{Adds}
use Rattle.image_maker.proofs.TallySums.{part_next}
use Rattle.image_maker.proofs.size.count_fields.Goals as goal

pub loop-item-preserved : goal.loop-item-preserved
loop-item-preserved c =
    let name : FieldRow → List ℕ = λ f. f.name in
    let bytes : FieldRow → ℕ = λ f. length f.sig + 4 in
    let part : TypeRow → List FieldRow = λ t. t.fields in
    part_next c.args.types.now c.loop-item.item-index c.item-item.result c.loop-item-test.true c.item-item.is
    c.args.tally.now c.loop-item.tally c.count_all.new.tally part name bytes c.loop-item.invariant
    (subst (λ fs. Adds (flat_map (λ f. name f ∷ []) fs) (sum_by bytes fs) c.loop-item.tally c.count_all.new.tally)
    c.items.ensures c.count_all.ensures)
