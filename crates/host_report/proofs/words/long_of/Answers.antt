use Rattle.std.specs.Int.{w64}
use Rattle.host_report.proofs.FieldReadingLemmas.{signed_some, signed_none, signed_unparsed}
use Rattle.host_report.proofs.words.long_of.Goals as goal

pub returns-in_default : goal.returns-in_default
returns-in_default c = signed_unparsed w64 c.args.digits.now c.in_default.ensures.cases.0

pub returns-in-Ok-parse : goal.returns-in-Ok-parse
returns-in-Ok-parse c =
    let cases = c.in-Ok.ensures.cases in
    signed_some w64 c.args.digits.now c.in-Ok.text.now c.in-Ok-parse.number cases.0 cases.1 c.in-Ok-parse.ensures.value.0

pub returns-in-Err : goal.returns-in-Err
returns-in-Err c =
    let cases = c.in-Ok.ensures.cases in
    signed_none w64 c.args.digits.now c.in-Ok.text.now cases.0 c.in-Err.ensures.value.0
