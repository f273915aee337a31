use Rattle.std.proofs.Common.{Option, Err, sym, ap, ◌∙◌, arith}
use Rattle.cli_words.specs.Check.{answer}
use Rattle.cli_words.specs.declared.check.FailedCheck.{FailedCheck}
use Rattle.metadata_tables.specs.Reading.{layout_of}
use Rattle.metadata_tables.proofs.ReadingLemmas.{first_bounds, rows_behind}
use Rattle.metadata_tables.proofs.tables.read_tables.Goals as goal

pub returns-then-end-counts-clause-tables : goal.returns-then-end-counts-clause-tables
returns-then-end-counts-clause-tables c =
    let bytes = c.args.bytes.now in
    let behind = rows_behind bytes c.args.tables.at in
    let after = c.count_places-counts.ensures 64 (omega arith) in
    let bad = first_bounds bytes c.args.tables
    (sym c.are_allowed.ensures ∙ c.if-not-are_allowed.false) (omega arith) in
    ap Err c.of-then-end-counts.ensures
    ∙ sym (ap (λ (o : Option FailedCheck). answer o (layout_of bytes c.args.tables.at)) bad)
