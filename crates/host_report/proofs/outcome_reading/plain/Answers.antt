use Rattle.std.proofs.Common.{ap}
use Rattle.host_report.specs.OutcomeReading.{or_else, plain_outcome, replied_read}
use Rattle.host_report.proofs.OutcomeReadingLemmas.{plain_other}
use Rattle.host_report.proofs.outcome_reading.plain.Goals as goal

pub returns-in-Void : goal.returns-in-Void
returns-in-Void c = ap (λ name. or_else (plain_outcome name) (replied_read c.args.line.now)) c.in-Void.is

pub returns-in-Budget : goal.returns-in-Budget
returns-in-Budget c = ap (λ name. or_else (plain_outcome name) (replied_read c.args.line.now)) c.in-Budget.is

pub returns-in-EventLimit : goal.returns-in-EventLimit
returns-in-EventLimit c = ap (λ name. or_else (plain_outcome name) (replied_read c.args.line.now)) c.in-EventLimit.is

pub returns-in-Depth : goal.returns-in-Depth
returns-in-Depth c = ap (λ name. or_else (plain_outcome name) (replied_read c.args.line.now)) c.in-Depth.is

pub returns-in-HeapFull : goal.returns-in-HeapFull
returns-in-HeapFull c = ap (λ name. or_else (plain_outcome name) (replied_read c.args.line.now)) c.in-HeapFull.is

pub returns-in-TypeDepth : goal.returns-in-TypeDepth
returns-in-TypeDepth c = ap (λ name. or_else (plain_outcome name) (replied_read c.args.line.now)) c.in-TypeDepth.is

pub returns-in-StaticLong : goal.returns-in-StaticLong
returns-in-StaticLong c = ap (λ name. or_else (plain_outcome name) (replied_read c.args.line.now)) c.in-StaticLong.is

pub returns-in_default : goal.returns-in_default
returns-in_default c = rw (plain_other c.args.line.now c.args.name.now (c.in_default.not-Void, (c.in_default.not-Budget, (c.in_default.not-EventLimit, (c.in_default.not-Depth, (c.in_default.not-HeapFull, (c.in_default.not-TypeDepth, (c.in_default.not-StaticLong, tt)))))))) c.replied.ensures
