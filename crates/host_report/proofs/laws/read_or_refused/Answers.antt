use Rattle.host_report.proofs.DecidedTexts.{read_or_refused}
use Rattle.host_report.proofs.RefusalLemmas.{one_refusal, read_not_refused}
use Rattle.host_report.proofs.laws.read_or_refused.Goals as goal

pub returns : goal.returns
returns c = record { either = read_or_refused; apart = read_not_refused; once = one_refusal }
