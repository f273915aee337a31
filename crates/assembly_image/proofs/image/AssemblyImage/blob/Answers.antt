use Rattle.std.proofs.Common.{sym, ap, ◌∙◌}
use Rattle.assembly_image.specs.Cells.{holds_blob}
use Rattle.assembly_image.proofs.ModuleLemmas.{known}
use Rattle.assembly_image.proofs.ImageLemmas.{column_there, column_gone, is_blobs, blob_none, blob_past, blob_missing}
use Rattle.assembly_image.proofs.image.AssemblyImage.blob.Goals as goal

pub returns-in_default : goal.returns-in_default
returns-in_default c =
    blob_past c.args.self.now c.args.table c.args.n c.args.k
    (column_gone c.args.table c.args.k (sym c.column.ensures ∙ c.in_default.is))

pub returns-then-not-holds_blob : goal.returns-then-not-holds_blob
returns-then-not-holds_blob c =
    let there = column_there c.args.table c.args.k c.in-Some.column (sym c.column.ensures ∙ c.in-Some.is) in
    blob_none c.args.self.now c.args.table c.args.n c.args.k there.0
    (ap holds_blob there.1 ∙ sym c.holds_blob.ensures ∙ c.if-not-holds_blob.true)

pub has_row-requires : goal.has_row-requires
has_row-requires c =
    known c.args.table c.args.k (column_there c.args.table c.args.k c.in-Some.column (sym c.column.ensures ∙ c.in-Some.is)).0

pub returns-then-not-has_row : goal.returns-then-not-has_row
returns-then-not-has_row c =
    let there = column_there c.args.table c.args.k c.in-Some.column (sym c.column.ensures ∙ c.in-Some.is) in
    blob_missing c.args.self.now c.args.table c.args.n c.args.k there.0 (sym c.has_row.ensures ∙ c.if-not-has_row.true)

pub whole_blob-requires-clause-column : goal.whole_blob-requires-clause-column
whole_blob-requires-clause-column c =
    (column_there c.args.table c.args.k c.in-Some.column (sym c.column.ensures ∙ c.in-Some.is)).0

pub whole_blob-requires-clause-blobs : goal.whole_blob-requires-clause-blobs
whole_blob-requires-clause-blobs c =
    let there = column_there c.args.table c.args.k c.in-Some.column (sym c.column.ensures ∙ c.in-Some.is) in
    is_blobs _ (ap holds_blob there.1 ∙ sym c.holds_blob.ensures ∙ c.if-not-holds_blob.false)
