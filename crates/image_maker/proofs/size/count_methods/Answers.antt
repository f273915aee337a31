use Rattle.std.proofs.Common.{ℕ, List, ◌∷◌, [], subst}
use Rattle.std.specs.List.{flat_map, sum_by}
use Rattle.image_maker.specs.declared.module.TypeRow.{TypeRow}
use Rattle.image_maker.specs.declared.module.MethodRow.{MethodRow}
use Rattle.image_maker.specs.Tally.{Adds, method_bytes}
use Rattle.image_maker.proofs.TallySums.{part_next}
use Rattle.image_maker.proofs.size.count_methods.Goals as goal

pub loop-item-preserved : goal.loop-item-preserved
loop-item-preserved c =
    let name : MethodRow → List ℕ = λ f. f.name in
    let bytes : MethodRow → ℕ = method_bytes in
    let part : TypeRow → List MethodRow = λ t. t.methods in
    part_next c.args.types.now c.loop-item.item-index c.item-item.result c.loop-item-test.true c.item-item.is
    c.args.tally.now c.loop-item.tally c.count_all.new.tally part name bytes c.loop-item.invariant
    (subst (λ fs. Adds (flat_map (λ f. name f ∷ []) fs) (sum_by bytes fs) c.loop-item.tally c.count_all.new.tally)
    c.items.ensures c.count_all.ensures)
