use Rattle.std.proofs.Common.{eqb, not, rules}
use Rattle.std.proofs.lemmas.Fn.{filter_same}
use Rattle.host_threads.proofs.seed.remove.Goals as goal

pub returns : goal.returns
returns c = filter_same _ (λ other. not (eqb other c.args.number)) _ (λ x b f called. search rules) _ _ c.retain.ensures.filtered
