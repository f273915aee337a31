use Rattle.std.proofs.Common.{arith, refl}
use Rattle.std.specs.Prelude.{decimal}
use Rattle.host_report.specs.Fields.{spaced}
use Rattle.host_report.proofs.LineLemmas.{puts_none}
use Rattle.host_report.proofs.ReportLemmas.{puts_each, puts_each_all}
use Rattle.host_report.proofs.field.put_numbers.Goals as goal

pub loop-number-init : goal.loop-number-init
loop-number-init g c = puts_none

pub loop-number-preserved : goal.loop-number-preserved
loop-number-preserved g c =
    puts_each (λ number. spaced (decimal number)) c.args.numbers.now c.loop-number.number-index _ 0 (omega arith) refl c.loop-number.invariant c.put_decimal.ensures

pub returns : goal.returns
returns g c = puts_each_all (λ number. spaced (decimal number)) c.args.numbers.now c.loop-number.number-index (omega arith) c.loop-number.invariant
