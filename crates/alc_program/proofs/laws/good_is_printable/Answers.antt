use Rattle.alc_program.proofs.PrintableLemmas.{good_is_printable_each}
use Rattle.alc_program.proofs.laws.good_is_printable.Goals as goal

pub returns : goal.returns
returns c = good_is_printable_each
