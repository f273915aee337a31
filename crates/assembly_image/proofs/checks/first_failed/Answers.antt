use Rattle.std.proofs.Common.{◌≡◌, Some, None, sym, ap, subst, ◌∙◌, refl, zero-add, arith}
use Rattle.std.specs.List.{flat_map, range_with_len}
use Rattle.cli_words.specs.Check.{first_fault}
use Rattle.cli_words.proofs.FirstFault.{first_fault-none, first_fault-some}
use Rattle.assembly_image.specs.Checks.{table_checks, all_rows_checks}
use Rattle.assembly_image.proofs.RowLemmas.{goes_on, stops}
use Rattle.assembly_image.proofs.checks.first_failed.Goals as goal

pub returns-in-Some : goal.returns-in-Some
returns-in-Some c =
    let checks = table_checks c.args.bytes.now c.args.root.now c.args.tables.now in
    let table = c.loop-table.table in
    sym (first_fault-some (all_rows_checks c.args.bytes.now c.args.root.now c.args.tables.now) _ c.in-Some.failed
    (stops checks 0 table table 45 c.in-Some.failed c.loop-table.invariant
    (sym c.table_failed.ensures ∙ c.in-Some.is) (sym (zero-add table)) c.loop-table-test.true))

pub loop-table-preserved : goal.loop-table-preserved
loop-table-preserved c =
    let checks = table_checks c.args.bytes.now c.args.root.now c.args.tables.now in
    let table = c.loop-table.table in
    goes_on checks 0 table table c.loop-table.invariant
    (sym c.table_failed.ensures ∙ c.in_default.is) (sym (zero-add table))

pub returns-then-has_assembly : goal.returns-then-has_assembly
returns-then-has_assembly c =
    let checks = table_checks c.args.bytes.now c.args.root.now c.args.tables.now in
    let end : c.loop-table.table ≡ 45 = omega arith in
    let all : first_fault (flat_map checks (range_with_len 0 45)) ≡ None =
    subst (λ m. first_fault (flat_map checks (range_with_len 0 m)) ≡ None) end c.loop-table.invariant in
    sym (first_fault-none (all_rows_checks c.args.bytes.now c.args.root.now c.args.tables.now) _ all
    ∙ (let has = sym c.has_assembly.ensures ∙ c.if-has_assembly.true in rw has refl))

pub returns : goal.returns
returns c =
    let checks = table_checks c.args.bytes.now c.args.root.now c.args.tables.now in
    let end : c.loop-table.table ≡ 45 = omega arith in
    let all : first_fault (flat_map checks (range_with_len 0 45)) ≡ None =
    subst (λ m. first_fault (flat_map checks (range_with_len 0 m)) ≡ None) end c.loop-table.invariant in
    ap Some c.of.ensures
    ∙ sym (first_fault-none (all_rows_checks c.args.bytes.now c.args.root.now c.args.tables.now) _ all
    ∙ (let has = sym c.has_assembly.ensures ∙ c.if-has_assembly.false in rw has refl))
