use Rattle.host_report.proofs.LineLemmas.{puts_kept, puts_then}
use Rattle.host_report.proofs.line.put.Goals as goal

pub returns-then-text-room : goal.returns-then-text-room
returns-then-text-room g c = puts_kept c.keep.ensures.failed c.keep.ensures.waiting

pub returns-then-text-room-2 : goal.returns-then-text-room-2
returns-then-text-room-2 g c =
    puts_then c.flush.ensures.puts (puts_kept c.keep-then-text-room-2.ensures.failed c.keep-then-text-room-2.ensures.waiting)

pub returns : goal.returns
returns g c = puts_then c.flush.ensures.puts c.send.ensures
