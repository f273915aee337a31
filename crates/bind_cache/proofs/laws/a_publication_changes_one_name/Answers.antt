use Rattle.bind_cache.proofs.Bound.{changes_one_name}
use Rattle.bind_cache.proofs.laws.a_publication_changes_one_name.Goals as goal

pub returns : goal.returns
returns c = changes_one_name
