use Rattle.host_report.proofs.LineLemmas.{puts_as, puts_then}
use Rattle.host_report.proofs.FieldLemmas.{entry_joined}
use Rattle.host_report.proofs.writing.put_entry.Goals as goal

pub returns : goal.returns
returns g c =
    let number = puts_then c.put_number.ensures c.put_decimal.ensures in
    let event = puts_then (puts_then number c.put_event.ensures) c.put.ensures in
    puts_as (entry_joined c.args.number c.args.entry.now) (puts_then (puts_then event c.put_reply.ensures) c.put-2.ensures)
