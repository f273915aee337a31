use Rattle.std.proofs.Common.{arith}
use Rattle.metadata_tables.proofs.ReadingLemmas.{count_near}
use Rattle.metadata_tables.proofs.reading.is_allowed.Goals as goal

pub overflow_add-place : goal.overflow_add-place
overflow_add-place c =
    let near = count_near c.args.bytes.now c.args.stream.at c.args.table (omega arith) in
    omega arith
