use Rattle.host_report.specs.Report.{report_text}
use Rattle.alc_program.proofs.HeadlineLemmas.{reported}
use Rattle.alc_program.proofs.program.run_and_report.Goals as goal

pub returns-in-Ok-report-clause-answer : goal.returns-in-Ok-report-clause-answer
returns-in-Ok-report-clause-answer g c file files holds read = (
  report_text c.deref.result.now c.in-Ok.run'.journal,
  reported files.before file c.args.schedule.now c.args.loaded.script _ c.in-Ok.run'.journal _ _ c.deref.ensures.value holds read c.in-Ok.ensures,
  c.in-Ok-report.ensures.written,
)

pub returns-in-Ok-clause-answer : goal.returns-in-Ok-clause-answer
returns-in-Ok-clause-answer g c file files holds read = (
  report_text c.deref.result.now c.in-Ok.run'.journal,
  reported files.before file c.args.schedule.now c.args.loaded.script _ c.in-Ok.run'.journal _ _ c.deref.ensures.value holds read c.in-Ok.ensures,
  c.in-Err-report.ensures.stopped,
  c.in-Err-report.ensures.failed,
)
