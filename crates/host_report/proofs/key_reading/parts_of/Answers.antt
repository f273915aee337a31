use Rattle.std.proofs.Common.{arith}
use Rattle.host_report.specs.KeyReading.{drafted}
use Rattle.host_report.proofs.KeyReadingLemmas.{refused}
use Rattle.host_report.proofs.key_reading.parts_of.Goals as goal

pub returns-in-Err : goal.returns-in-Err
returns-in-Err c =
    let read = c.loop-at.invariant in
    refused c.args.text.now c.loop-at.at c.loop-at.end (drafted c.loop-at.draft) c.in-Err.unread
    (omega (arith, c.loop-at-test.true)) (omega (arith, read.word, read.within)) read.read c.in-Err.ensures.taken
