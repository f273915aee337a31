use Rattle.std.proofs.Common.{sym, ap, ◌∙◌}
use Rattle.std.specs.Option.{unwrap_or}
use Rattle.std.proofs.lemmas.Option.{unwrap_or-slice_get}
use Rattle.assembly_image.specs.Cells.{value_in}
use Rattle.assembly_image.proofs.cells.value_in.Goals as goal

pub returns-in-Some : goal.returns-in-Some
returns-in-Some c =
    c.unwrap_or.ensures ∙ ap (λ o. unwrap_or o 0) c.column.ensures ∙ unwrap_or-slice_get _ c.args.k 0
    ∙ ap (λ row. value_in row c.args.k) (sym c.in-Some.is)
