use Rattle.std.proofs.Common.{◌≡◌, ◌+◌, ◌==◌, drop, true, false, ap, subst, sym, arith}
use Rattle.std.proofs.lemmas.Bool.Decides.{nat_tests}
use Rattle.std.proofs.lemmas.List.{drop_all}
use Rattle.image_maker.specs.Rows.{given_rows}
use Rattle.image_maker.specs.Written.{Puts, row_cells, table_cells}
use Rattle.image_maker.proofs.RowPuts.{Left, left_all, left_none, given_next, other_next}
use Rattle.image_maker.proofs.rows.put_given.Goals as goal
use Rattle.image_maker.proofs.rows.put_given.Goals.{then-row-table, else-row-table}

pub loop-row-init : goal.loop-row-init
loop-row-init c = left_all _ c.args.writer.now

pub loop-row-preserved : goal.loop-row-preserved
loop-row-preserved c =
    let table = c.args.table in
    let given = c.args.given.now in
    let i = c.loop-row.row-index in
    let first = c.args.writer.now in
    let all = table_cells table (given_rows table given) in
    let more = table_cells table (given_rows table (drop (i + 1) given)) in
    let item = c.row-item.result in
    elim c.if-row-table.branch as (λ _. Left all more first c.if-row-table.writer) [
      | then-row-table w ↦
          let same : (item.0 == table) ≡ true = grind (arith, nat_tests) in
          let told : Puts (row_cells table item.1) c.loop-row.writer w.put_given_row.new.writer =
          subst (λ cells. Puts (row_cells table cells) c.loop-row.writer w.put_given_row.new.writer) w.items.ensures
          w.put_given_row.ensures in
          subst (Left all more first) (sym w.writer-is)
          (given_next table all given i item first c.loop-row.writer w.put_given_row.new.writer c.loop-row-test.true
          c.row-item.is
          same c.loop-row.invariant told)
      | else-row-table w ↦
          let other : (item.0 == table) ≡ false = grind (arith, nat_tests) in
          subst (Left all more first) (sym w.writer-is)
          (other_next table all given i item first c.loop-row.writer c.loop-row-test.true c.row-item.is other
          c.loop-row.invariant)
    ]

pub returns : goal.returns
returns c =
    left_none _ _ c.args.writer.now c.loop-row.writer
    (ap (λ given. table_cells c.args.table (given_rows c.args.table given))
    (drop_all c.loop-row.row-index c.args.given.now c.loop-row-test.false)) c.loop-row.invariant
