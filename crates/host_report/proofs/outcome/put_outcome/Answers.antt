use Rattle.std.proofs.Common.{◌∙◌, ◌++◌, ap}
use Rattle.host_report.specs.OutcomeParts.{outcome_rest}
use Rattle.host_report.proofs.LineLemmas.{puts_as, puts_then}
use Rattle.host_report.proofs.OutcomePartsLemmas.{outcome_parted}
use Rattle.host_report.proofs.outcome.put_outcome.Goals as goal

pub returns : goal.returns
returns g c =
    puts_as (ap (λ text. text ++ outcome_rest c.args.outcome.now) c.word.ensures ∙ outcome_parted c.args.outcome.now) (puts_then c.put.ensures c.put_rest.ensures)
