use Rattle.std.proofs.Common.{◌≡◌, ◌<◌, ◌+◌, ◌-◌, ℕ, sym, ap, subst, ◌∙◌, arith}
use Rattle.metadata_tables.specs.Layout.{row_of}
use Rattle.assembly_image.specs.Checks.{row_checks}
use Rattle.assembly_image.proofs.RowLemmas.{goes_on, stops}
use Rattle.assembly_image.proofs.checks.table_failed.Goals as goal

pub row_failed-requires-clause-before : goal.row_failed-requires-clause-before
row_failed-requires-clause-before c =
    let n = c.loop-n.n in
    let same : n ≡ n + 1 - 1 = omega arith in
    c.loop-n.invariant.reached ∙ ap (row_of c.args.bytes.now c.args.tables.now c.args.table) same

pub returns-in-Some : goal.returns-in-Some
returns-in-Some c =
    let checks = row_checks c.args.bytes.now c.args.root.now c.args.tables.now c.args.table in
    let n = c.loop-n.n in
    sym (stops checks 1 n (n + 1) _ c.in-Some.failed c.loop-n.invariant.pass
    (sym c.row_failed.ensures ∙ c.in-Some.is) (omega arith)
    (subst (λ (m : ℕ). n < m) c.count-n-end.ensures c.loop-n-test.true))

pub loop-n-preserved : goal.loop-n-preserved
loop-n-preserved c =
    let checks = row_checks c.args.bytes.now c.args.root.now c.args.tables.now c.args.table in
    let n = c.loop-n.n in
    record {
      pass = goes_on checks 1 n (n + 1) c.loop-n.invariant.pass
          (sym c.row_failed.ensures ∙ c.in_default.is) (omega arith);
      reached = c.row-row.ensures;
    }
