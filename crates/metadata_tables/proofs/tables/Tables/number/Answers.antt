use Rattle.std.proofs.Common.{◌≡◌, rules, Some, None, ◌∙◌}
use Rattle.metadata_tables.specs.Layout.{number_in_row}
use Rattle.metadata_tables.proofs.LayoutLemmas.{number_of_row}
use Rattle.metadata_tables.proofs.tables.Tables.number.Goals as goal

pub returns-then-k-columns-clause-row : goal.returns-then-k-columns-clause-row
returns-then-k-columns-clause-row c =
    let told : Some c.number.result
    ≡ number_in_row c.args.bytes.now c.args.self.now c.args.table c.args.n c.args.k =
    search rules in
    told ∙ number_of_row c.args.bytes.now c.args.self.now c.args.table c.args.n c.args.k

pub returns-else-k-columns-clause-row : goal.returns-else-k-columns-clause-row
returns-else-k-columns-clause-row c =
    let told : None ≡ number_in_row c.args.bytes.now c.args.self.now c.args.table c.args.n c.args.k =
    search rules in
    told ∙ number_of_row c.args.bytes.now c.args.self.now c.args.table c.args.n c.args.k
