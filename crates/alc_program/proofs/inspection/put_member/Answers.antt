use Rattle.std.proofs.Common.{ap}
use Rattle.host_report.specs.Quote.{quoted}
use Rattle.host_report.proofs.LineLemmas.{puts_as, puts_then}
use Rattle.alc_program.proofs.inspection.put_member.Goals as goal

pub returns : goal.returns
returns g c =
    let word = puts_as c.member_word.ensures c.put.ensures in
    let name = puts_as (ap quoted c.member_name.ensures) c.put_quoted_text.ensures in
    puts_then (puts_then (puts_then (puts_then word c.put_number.ensures) c.put-2.ensures) name) c.put-3.ensures
