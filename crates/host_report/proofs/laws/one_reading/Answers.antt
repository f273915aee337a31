use Rattle.host_report.proofs.RefusalLemmas.{one_reading}
use Rattle.host_report.proofs.laws.one_reading.Goals as goal

pub returns : goal.returns
returns c = one_reading
