use Rattle.std.proofs.Common.{refl}
use Rattle.host_report.proofs.laws.reports_read_back.Goals as goal

pub returns : goal.returns
returns c = λ ends journal printable. (printable, refl)
