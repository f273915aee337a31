use Rattle.std.proofs.Common.{sym, ap, ◌∙◌}
use Rattle.assembly_image.specs.Cells.{holds_number}
use Rattle.assembly_image.proofs.ImageLemmas.{column_there, column_gone, number_is, number_none, number_past}
use Rattle.assembly_image.proofs.image.AssemblyImage.number.Goals as goal

pub returns-in_default-clause-value : goal.returns-in_default-clause-value
returns-in_default-clause-value c =
    number_past c.args.self.now c.args.table c.args.n c.args.k
    (column_gone c.args.table c.args.k (sym c.column.ensures ∙ c.in_default.is))

pub returns-then-not-holds_number-clause-value : goal.returns-then-not-holds_number-clause-value
returns-then-not-holds_number-clause-value c =
    let there = column_there c.args.table c.args.k c.in-Some.column (sym c.column.ensures ∙ c.in-Some.is) in
    number_none c.args.self.now c.args.table c.args.n c.args.k there.0
    (ap holds_number there.1 ∙ sym c.holds_number.ensures ∙ c.if-not-holds_number.true)

pub index-requires : goal.index-requires
index-requires c =
    (column_there c.args.table c.args.k c.in-Some.column (sym c.column.ensures ∙ c.in-Some.is)).0

pub returns-clause-value : goal.returns-clause-value
returns-clause-value c =
    let there = column_there c.args.table c.args.k c.in-Some.column (sym c.column.ensures ∙ c.in-Some.is) in
    c.index.ensures.value ∙ number_is c.args.self.now c.args.table c.args.n c.args.k there.0
    (ap holds_number there.1 ∙ sym c.holds_number.ensures ∙ c.if-not-holds_number.false)
