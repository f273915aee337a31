use Rattle.host_script.proofs.ScriptLemmas.{one_of_both, never_both}
use Rattle.host_script.proofs.laws.refused_or_accepted.Goals as goal

pub returns : goal.returns
returns c bytes =
    (one_of_both bytes, λ accepted refused. never_both bytes accepted.0 refused.0 refused.1.0 accepted.1 refused.1.1)
