use Rattle.std.proofs.Common.{[], ◌∷◌, ◌∙◌, ap, sym}
use Rattle.host_report.specs.Fields.{Field, fields_text}
use Rattle.host_report.specs.ReplyParts.{one_number, reply_rest}
use Rattle.host_report.proofs.LineLemmas.{puts_as, puts_none, puts_then}
use Rattle.host_report.proofs.ReplyPartsLemmas.{rest_other}
use Rattle.host_report.proofs.reply.put_rest.Goals as goal

pub returns-in-Value : goal.returns-in-Value
returns-in-Value g c = puts_as (ap (λ told. fields_text (reply_rest told)) (sym c.in-Value.is)) c.put_text_value.ensures

pub returns-in-Freed : goal.returns-in-Freed
returns-in-Freed g c =
    puts_as (ap (λ numbers. fields_text (Field.Numbers numbers ∷ [])) c.numbers.ensures ∙ ap (λ told. fields_text (reply_rest told)) (sym c.in-Freed.is))
    (puts_then c.put_numbers.ensures puts_none)

pub returns-in-Entered : goal.returns-in-Entered
returns-in-Entered g c = puts_as (ap (λ told. fields_text (reply_rest told)) (sym c.in-Entered.is)) (puts_then c.put_numbers-in-Entered.ensures puts_none)

pub returns-in-EnteredAt : goal.returns-in-EnteredAt
returns-in-EnteredAt g c = puts_as (ap (λ told. fields_text (reply_rest told)) (sym c.in-EnteredAt.is)) (puts_then c.put_numbers-in-EnteredAt.ensures puts_none)

pub returns-in_default : goal.returns-in_default
returns-in_default g c =
    puts_as (ap (λ number. fields_text (one_number number)) c.number.ensures
    ∙ ap fields_text (rest_other c.args.reply.now c.in_default.not-Value c.in_default.not-Freed c.in_default.not-Entered c.in_default.not-EnteredAt)) c.put_one.ensures
