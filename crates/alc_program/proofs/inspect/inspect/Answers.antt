use Rattle.std.proofs.Common.{refl}
use Rattle.alc_program.specs.Headline.{during}
use Rattle.alc_program.proofs.HeadlineLemmas.{unread_inspect}
use Rattle.alc_program.proofs.inspect.inspect.Goals as goal

pub returns-in-Ok-read_file-clause-answer : goal.returns-in-Ok-read_file-clause-answer
returns-in-Ok-read_file-clause-answer g c =
    c.written.ensures.answer c.args.file.now (during g.F.Files.held g.F.Files.faults c.args.files.now c.read_file.new.files) c.in-Ok-read_file.ensures.reading

pub returns-clause-answer : goal.returns-clause-answer
returns-clause-answer g c =
    unread_inspect c.args.file.now (during g.F.Files.held g.F.Files.faults c.args.files.now c.read_file.new.files) (during g.S.Sink.written g.S.Sink.faults c.args.out.now c.args.out.now) _ c.in-Err.ensures.status refl
