use Rattle.std.proofs.Common.{◌++◌, ap, sym}
use Rattle.host_report.proofs.LineLemmas.{puts_written}
use Rattle.host_report.proofs.line.send.Goals as goal

pub returns : goal.returns
returns g c =
    let empty = c.requires c.if-line.false in
    let wrote = c.write_whole.ensures in
    puts_written _ _ _ _ _ _ _ _ c.write_whole.result c.if-line.false c.is_err-line.ensures.value empty
    (ap (λ w. w ++ c.args.text.now) (sym empty)) wrote.written wrote.stopped wrote.failed wrote.faults
