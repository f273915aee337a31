use Rattle.std.proofs.Common.{◌≡◌, length, min, ap, sym, ◌∙◌, arith}
use Rattle.std.specs.List.{sum_by}
use Rattle.std.proofs.lemmas.List.Concat.{length-flat_map}
use Rattle.image_maker.specs.Rows.{all_fields, all_methods}
use Rattle.image_maker.specs.Tally.{most}
use Rattle.image_maker.proofs.module.Module.row_total.Goals as goal

pub returns : goal.returns
returns c =
    let m = c.args.self.now in
    let fields : c.field_count.result ≡ min (length (all_fields m)) most =
    c.field_count.ensures ∙ ap (λ ts. min (sum_by (λ t. length t.fields) ts) most) c.items-types.ensures
    ∙ sym (ap (λ n. min n most) (length-flat_map (λ t. t.fields) m.types)) in
    let methods : c.method_count.result ≡ min (length (all_methods m)) most =
    c.method_count.ensures ∙ ap (λ ts. min (sum_by (λ t. length t.methods) ts) most) c.items-types.ensures
    ∙ sym (ap (λ n. min n most) (length-flat_map (λ t. t.methods) m.types)) in
    omega arith
