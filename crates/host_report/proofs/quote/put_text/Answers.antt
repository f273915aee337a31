use Rattle.std.proofs.Common.{subst, ap, ◌∙◌, List, ℕ}
use Rattle.std.specs.List.{flat_map}
use Rattle.host_report.specs.Line.{Puts}
use Rattle.host_report.specs.Quote.{byte_text}
use Rattle.host_report.proofs.PlainTexts.{text_by_bytes, apart_text}
use Rattle.host_report.proofs.quote.put_text.Goals as goal

pub returns-clause-puts : goal.returns-clause-puts
returns-clause-puts g c =
    let P : List ℕ → Type 0 = λ text. Puts g.S.Sink.written g.S.Sink.faults c.args.line.now c.args.out.now c.put_bytes.new.line c.put_bytes.new.out text in
    subst P (ap (flat_map byte_text) c.as_bytes.ensures.value ∙ text_by_bytes c.args.text.now c.utf8.text) c.put_bytes.ensures

pub returns-clause-apart : goal.returns-clause-apart
returns-clause-apart g c = apart_text c.args.text.now c.utf8.text
