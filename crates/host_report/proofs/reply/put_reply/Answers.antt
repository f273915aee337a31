use Rattle.std.proofs.Common.{◌∙◌, ◌++◌, ap}
use Rattle.host_report.specs.ReplyParts.{reply_rest}
use Rattle.host_report.specs.Fields.{fields_text}
use Rattle.host_report.proofs.LineLemmas.{puts_as, puts_then}
use Rattle.host_report.proofs.ReplyPartsLemmas.{parted}
use Rattle.host_report.proofs.reply.put_reply.Goals as goal

pub returns : goal.returns
returns g c =
    puts_as (ap (λ text. text ++ fields_text (reply_rest c.args.reply.now)) c.word.ensures ∙ parted c.args.reply.now) (puts_then c.put.ensures c.put_rest.ensures)
