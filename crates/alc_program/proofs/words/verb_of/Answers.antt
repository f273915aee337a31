use Rattle.alc_program.proofs.WordsLemmas.{unless_asked}
use Rattle.alc_program.proofs.words.verb_of.Goals as goal

pub returns-clause-none : goal.returns-clause-none
returns-clause-none c = unless_asked c.inspect_of.result _ c.in_default.ensures.none c.inspect_of.ensures.none
