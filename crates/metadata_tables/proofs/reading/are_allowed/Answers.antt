use Rattle.std.proofs.Common.{sym, ◌∙◌, arith}
use Rattle.metadata_tables.proofs.ReadingLemmas.{refused, allowed_next, allowed_all}
use Rattle.metadata_tables.proofs.reading.are_allowed.Goals as goal

pub returns-then-not-is_allowed : goal.returns-then-not-is_allowed
returns-then-not-is_allowed c =
    sym (refused c.args.bytes.now c.args.stream c.loop-table.table (omega arith)
    (sym c.is_allowed.ensures ∙ c.if-not-is_allowed.true))

pub loop-table-preserved : goal.loop-table-preserved
loop-table-preserved c =
    allowed_next c.args.bytes.now c.args.stream c.loop-table.table c.loop-table.invariant
    (sym c.is_allowed.ensures ∙ c.if-not-is_allowed.false)

pub returns : goal.returns
returns c =
    sym (allowed_all c.args.bytes.now c.args.stream c.loop-table.table (omega arith)
    c.loop-table.invariant)
