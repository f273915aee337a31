use Rattle.std.proofs.Common.{◌∙◌}
use Rattle.std.specs.Prelude.{codes}
use Rattle.host_report.proofs.GivesLemmas.{read_then}
use Rattle.host_report.proofs.LineReadingLemmas.{worded_at, worded_other}
use Rattle.host_report.proofs.told.worded.Goals as goal

pub returns-in_ok-number-in-thread : goal.returns-in_ok-number-in-thread
returns-in_ok-number-in-thread c =
    worded_at c.args.line.now c.in_ok-name.name.now c.in_ok-name.rest.now (codes "thread") c.in_ok-name.ensures c.in-thread.is
    ∙ read_then _ c.in_ok-number-in-thread.ensures.read

pub returns-in_ok-text-in-print : goal.returns-in_ok-text-in-print
returns-in_ok-text-in-print c =
    worded_at c.args.line.now c.in_ok-name.name.now c.in_ok-name.rest.now (codes "print") c.in_ok-name.ensures c.in-print.is
    ∙ read_then _ c.in_ok-text-in-print.ensures

pub returns-in_ok-number-in-journal : goal.returns-in_ok-number-in-journal
returns-in_ok-number-in-journal c =
    worded_at c.args.line.now c.in_ok-name.name.now c.in_ok-name.rest.now (codes "journal") c.in_ok-name.ensures c.in-journal.is
    ∙ read_then _ c.in_ok-number-in-journal.ensures.read

pub returns-in-end : goal.returns-in-end
returns-in-end c =
    worded_at c.args.line.now c.in_ok-name.name.now c.in_ok-name.rest.now (codes "end") c.in_ok-name.ensures c.in-end.is

pub returns-in_default : goal.returns-in_default
returns-in_default c =
    rw (worded_other c.args.line.now c.in_ok-name.name.now c.in_ok-name.rest.now c.in_ok-name.ensures
    c.in_default.not-thread c.in_default.not-print c.in_default.not-journal c.in_default.not-end) c.ended.ensures
