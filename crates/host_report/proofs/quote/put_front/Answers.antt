use Rattle.std.proofs.Common.{subst, sym, List, ℕ}
use Rattle.host_report.specs.Line.{Puts}
use Rattle.host_report.proofs.PlainTexts.{front_plain}
use Rattle.host_report.proofs.quote.put_front.Goals as goal

pub returns-clause-puts : goal.returns-clause-puts
returns-clause-puts g c =
    let P : List ℕ → Type 0 = λ text. Puts g.S.Sink.written g.S.Sink.faults c.args.line.now c.args.out.now c.put.new.line c.put.new.out text in
    subst P (sym (front_plain c.args.bytes.now c.plain_len-plain.result c.plain_len-plain.ensures)) c.put.ensures
