use Rattle.std.proofs.lemmas.Result.{IfOk-weaker}
use Rattle.alc_program.proofs.ReadingLemmas.{reads_bytes, reads_too_long}
use Rattle.alc_program.proofs.images.read_file.Goals as goal

pub returns-in-Bytes-clause-reading : goal.returns-in-Bytes-clause-reading
returns-in-Bytes-clause-reading g c =
    IfOk-weaker c.read_bytes.result _ _
    (λ _ same. reads_bytes _ _ c.in-Bytes.bytes.items _ c.in-Bytes.ensures.found same)
    c.read_bytes.ensures.reading

pub returns-in-TooLong-clause-reading : goal.returns-in-TooLong-clause-reading
returns-in-TooLong-clause-reading g c = reads_too_long _ _ c.in-TooLong.ensures.found
