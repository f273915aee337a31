use Rattle.std.proofs.Common.{sym, ap, ◌∙◌}
use Rattle.assembly_image.specs.Cells.{holds_text}
use Rattle.assembly_image.proofs.ModuleLemmas.{known}
use Rattle.assembly_image.proofs.ImageLemmas.{column_there, column_gone, is_strings, text_none, text_past, text_missing}
use Rattle.assembly_image.proofs.image.AssemblyImage.text.Goals as goal

pub returns-in_default : goal.returns-in_default
returns-in_default c =
    text_past c.args.self.now c.args.table c.args.n c.args.k
    (column_gone c.args.table c.args.k (sym c.column.ensures ∙ c.in_default.is))

pub returns-then-not-holds_text : goal.returns-then-not-holds_text
returns-then-not-holds_text c =
    let there = column_there c.args.table c.args.k c.in-Some.column (sym c.column.ensures ∙ c.in-Some.is) in
    text_none c.args.self.now c.args.table c.args.n c.args.k there.0
    (ap holds_text there.1 ∙ sym c.holds_text.ensures ∙ c.if-not-holds_text.true)

pub has_row-requires : goal.has_row-requires
has_row-requires c =
    known c.args.table c.args.k (column_there c.args.table c.args.k c.in-Some.column (sym c.column.ensures ∙ c.in-Some.is)).0

pub returns-then-not-has_row : goal.returns-then-not-has_row
returns-then-not-has_row c =
    let there = column_there c.args.table c.args.k c.in-Some.column (sym c.column.ensures ∙ c.in-Some.is) in
    text_missing c.args.self.now c.args.table c.args.n c.args.k there.0 (sym c.has_row.ensures ∙ c.if-not-has_row.true)

pub string-requires-clause-column : goal.string-requires-clause-column
string-requires-clause-column c =
    (column_there c.args.table c.args.k c.in-Some.column (sym c.column.ensures ∙ c.in-Some.is)).0

pub string-requires-clause-strings : goal.string-requires-clause-strings
string-requires-clause-strings c =
    let there = column_there c.args.table c.args.k c.in-Some.column (sym c.column.ensures ∙ c.in-Some.is) in
    is_strings _ (ap holds_text there.1 ∙ sym c.holds_text.ensures ∙ c.if-not-holds_text.false)
