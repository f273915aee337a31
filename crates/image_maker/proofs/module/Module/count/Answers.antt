use Rattle.std.proofs.Common.{◌≡◌, length, min, sym, ap, ◌∙◌, arith}
use Rattle.std.specs.List.{sum_by}
use Rattle.image_maker.specs.Sound.{count}
use Rattle.image_maker.specs.Tally.{most}
use Rattle.image_maker.proofs.RowCounts.{count_fields, count_methods}
use Rattle.image_maker.proofs.RowCounts.{count_types}
use Rattle.image_maker.proofs.module.Module.count.Goals as goal

pub returns-in-2 : goal.returns-in-2
returns-in-2 c =
    let m = c.args.self.now in
    let same : count m c.args.table ≡ length c.items-in-2.result.now = ap (count m) c.in-2.is ∙ count_types m
    ∙ sym (ap length c.items-in-2.ensures) in
    grind (arith, same, c.items-in-2.type_inv)

pub returns-in-4 : goal.returns-in-4
returns-in-4 c =
    let m = c.args.self.now in
    c.field_count.ensures ∙ ap (λ types. min (sum_by (λ t. length t.fields) types) most) c.items-in-4.ensures
    ∙ sym (ap (λ n. min n most) (ap (count m) c.in-4.is ∙ count_fields m))

pub returns-in-6 : goal.returns-in-6
returns-in-6 c =
    let m = c.args.self.now in
    c.method_count.ensures ∙ ap (λ types. min (sum_by (λ t. length t.methods) types) most) c.items-in-6.ensures
    ∙ sym (ap (λ n. min n most) (ap (count m) c.in-6.is ∙ count_methods m))
