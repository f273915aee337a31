use Rattle.std.proofs.Common.{sym, ◌∙◌, append-nil}
use Rattle.host_report.proofs.LineLemmas.{puts_none, puts_written}
use Rattle.host_report.proofs.line.flush.Goals as goal

pub returns-then-line-clause-puts : goal.returns-then-line-clause-puts
returns-then-line-clause-puts g c = puts_none

pub returns-clause-puts : goal.returns-clause-puts
returns-clause-puts g c =
    let wrote = c.write_whole.ensures in
    puts_written _ _ _ _ _ _ _ _ c.write_whole.result c.if-line.false c.is_err-line.ensures.value c.clear.ensures.items
    (c.deref.ensures.value ∙ sym (append-nil _)) wrote.written wrote.stopped wrote.failed wrote.faults

pub returns-clause-waiting : goal.returns-clause-waiting
returns-clause-waiting g c = λ _. c.clear.ensures.items
