use Rattle.host_script.proofs.SpellingLemmas.{text_spelled}
use Rattle.host_script.proofs.laws.texts_are_spelled.Goals as goal

pub returns : goal.returns
returns c word units = text_spelled word units
