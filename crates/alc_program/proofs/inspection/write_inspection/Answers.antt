use Rattle.std.proofs.Common.{refl, sym, ◌∙◌}
use Rattle.host_report.proofs.LineLemmas.{put_whole, whole_appended, some_stopped}
use Rattle.alc_program.proofs.inspection.write_inspection.Goals as goal

pub returns-then-has_failed : goal.returns-then-has_failed
returns-then-has_failed g c =
    let put = put_whole c.clear.ensures.failed c.clear.ensures.waiting c.put_inspection.ensures c.flush.ensures.puts refl in
    let stopped = some_stopped (sym c.has_failed.ensures ∙ c.if-has_failed.true) put in
    record { written = tt; stopped = stopped.0; failed = stopped.1; faults = put.counted }

pub returns-else-has_failed : goal.returns-else-has_failed
returns-else-has_failed g c =
    let put = put_whole c.clear.ensures.failed c.clear.ensures.waiting c.put_inspection.ensures c.flush.ensures.puts refl in
    let fine = sym c.has_failed.ensures ∙ c.if-has_failed.false in
    record { written = whole_appended fine c.flush.ensures.waiting put; stopped = tt; failed = tt; faults = put.counted }
