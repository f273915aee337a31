use Rattle.std.proofs.Common.{◌∙◌, ap}
use Rattle.std.specs.Str.{bytes_eq}
use Rattle.host_report.proofs.ReadingLemmas.{front_of}
use Rattle.host_report.proofs.reading.is_line.Goals as goal

pub returns : goal.returns
returns c = λ front e.
    c.eq.ensures ∙ ap (λ t. bytes_eq t c.args.line.now) (front_of c.args.text.now front c.saturating_sub.result e c.saturating_sub.ensures)
