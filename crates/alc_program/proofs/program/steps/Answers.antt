use Rattle.std.proofs.Common.{refl}
use Rattle.host_script.proofs.SmallLemmas.{accepted_is_small_each}
use Rattle.host_script.proofs.WordedLemmas.{accepted_is_worded_each}
use Rattle.alc_program.specs.Headline.{during}
use Rattle.alc_program.proofs.program.steps.Goals as goal

pub run_and_report-requires-clause-small : goal.run_and_report-requires-clause-small
run_and_report-requires-clause-small g c =
    let holds = c.in-Ok.ensures.script in accepted_is_small_each holds.bytes c.in-Ok.loaded.script holds.accepted

pub run_and_report-requires-clause-built : goal.run_and_report-requires-clause-built
run_and_report-requires-clause-built g c = let holds = c.in-Ok.ensures.script in holds.built

pub run_and_report-requires-clause-worded : goal.run_and_report-requires-clause-worded
run_and_report-requires-clause-worded g c =
    let holds = c.in-Ok.ensures.script in accepted_is_worded_each holds.bytes c.in-Ok.loaded.script holds.accepted

pub run_and_report-requires-clause-images : goal.run_and_report-requires-clause-images
run_and_report-requires-clause-images g c = let read = c.in-Ok.ensures.images in read.count

pub returns-in-Ok-clause-answer : goal.returns-in-Ok-clause-answer
returns-in-Ok-clause-answer g c =
    c.run_and_report.ensures.answer c.args.file.now (during g.F.Files.held g.F.Files.faults c.args.files.now c.load_all.new.files)
    c.in-Ok.ensures.script c.in-Ok.ensures.images

pub returns-in-Err-clause-answer : goal.returns-in-Err-clause-answer
returns-in-Err-clause-answer g c =
    c.in-Err.ensures.status c.args.schedule.now (during g.S.Sink.written g.S.Sink.faults c.args.out.now c.args.out.now) refl
