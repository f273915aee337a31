use Rattle.std.proofs.Common.{Some, option_map, refl, sym, ap, ◌∙◌}
use Rattle.platform_lib.specs.Methods.{method_sig}
use Rattle.platform_lib.specs.Rows.{letters, shown}
use Rattle.platform_lib.specs.declared.table.TheConstants.{METHODS}
use Rattle.platform_lib.proofs.Tables.{method-by}
use Rattle.platform_lib.proofs.calls.method.Goals as goal

pub returns-in_default : goal.returns-in_default
returns-in_default c =
    ap (λ o. option_map (λ m. (m.type_row, m.name, method_sig m)) (option_map shown o))
    (sym c.in_default.is ∙ c.row_at.ensures)
    ∙ method-by METHODS c.args.number refl

pub returns : goal.returns
returns c =
    let row = c.in-Some.row in
    ap (λ name. Some (row.0, name, c.in_ok-sig.sig)) (c.in_ok-name.ensures ∙ c.letters.ensures)
    ∙ (ap (λ sig. Some (row.0, letters row.1, sig)) c.in_ok-sig.ensures
    ∙ (ap (λ o. option_map (λ m. (m.type_row, m.name, method_sig m)) (option_map shown o))
    (sym c.in-Some.is ∙ c.row_at.ensures)
    ∙ method-by METHODS c.args.number refl))
