use Rattle.std.proofs.Common.{◌≤◌, ◌^◌, ◌<◌, subst, arith}
use Rattle.metadata_tables.specs.declared.layout.Layout.{Layout}
use Rattle.metadata_tables.specs.Layout.{count_of, rows_end}
use Rattle.metadata_tables.proofs.LayoutLemmas.{row_lies}
use Rattle.metadata_tables.proofs.tables.Tables.row_at.Goals as goal

pub overflow_mul-result : goal.overflow_mul-result
overflow_mul-result c =
    let layout = c.args.self.now in
    let few = subst (λ (l : Layout). c.args.n ≤ count_of l c.args.table) c.self.view_is (omega arith) in
    let near = subst (λ (l : Layout). rows_end l < 2 ^ 32) c.self.view_is c.self.invariant.near in
    let lies = row_lies layout c.args.table c.args.n c.table-place.result.now
    (c.count.ensures.known (omega arith)) (omega arith) few c.table-place.ensures in
    omega arith

pub overflow_add-result : goal.overflow_add-result
overflow_add-result c =
    let layout = c.args.self.now in
    let few = subst (λ (l : Layout). c.args.n ≤ count_of l c.args.table) c.self.view_is (omega arith) in
    let near = subst (λ (l : Layout). rows_end l < 2 ^ 32) c.self.view_is c.self.invariant.near in
    let lies = row_lies layout c.args.table c.args.n c.table-place.result.now
    (c.count.ensures.known (omega arith)) (omega arith) few c.table-place.ensures in
    omega arith

pub returns-clause-room : goal.returns-clause-room
returns-clause-room c =
    let few = subst (λ (l : Layout). c.args.n ≤ count_of l c.args.table) c.self.view_is (omega arith) in
    row_lies c.args.self.now c.args.table c.args.n c.table-place.result.now
    (c.count.ensures.known (omega arith)) (omega arith) few c.table-place.ensures
