use Rattle.host_script.proofs.FirstWordLemmas.{each_is_read}
use Rattle.host_script.proofs.laws.first_words_are_read.Goals as goal

pub returns : goal.returns
returns c first = each_is_read first
