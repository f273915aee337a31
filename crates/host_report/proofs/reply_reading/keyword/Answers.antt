use Rattle.host_report.proofs.KeywordLemmas.{keyword_found, keyword_missed}
use Rattle.host_report.proofs.reply_reading.keyword.Goals as goal

pub returns-in-Ok : goal.returns-in-Ok
returns-in-Ok c =
    let cases = c.in-Ok.ensures.cases in
    keyword_found c.args.rest.now c.word.result.0.now c.in-Ok.name.now c.word.result.1.now c.word.ensures.front c.word.ensures.back cases.0 cases.1

pub returns-in-Err : goal.returns-in-Err
returns-in-Err c = keyword_missed c.args.rest.now c.word.result.0.now c.word.ensures.front c.in-Err.ensures.cases.0
