use Rattle.signatures.proofs.Names.{named-exactly}
use Rattle.signatures.proofs.feature.Feature.of_text.Goals as goal

pub returns : goal.returns
returns c = record { named = named-exactly c.args.bytes.now c.first_named.result c.first_named.ensures }
