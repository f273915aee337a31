use Rattle.host_report.proofs.FeatureLemmas.{unsupported_there}
use Rattle.host_report.proofs.outcome_reading.unsupported.Goals as goal

pub returns-in-Some : goal.returns-in-Some
returns-in-Some c =
    unsupported_there c.args.rest.now c.word.result.0.now _ c.word.ensures.front c.in-Some.ensures.named

pub returns-in-None : goal.returns-in-None
returns-in-None c =
    unsupported_there c.args.rest.now c.word.result.0.now _ c.word.ensures.front c.in-None.ensures.named
