use Rattle.il_verifier.proofs.Verdicts.{kept-sound}
use Rattle.il_verifier.proofs.laws.kept_typings_are_sound.Goals as goal

pub returns : goal.returns
returns c = λ family lawful top facts.
    kept-sound c.boundaries_are_one_list.ensures family
    (record { top = top; plain = c.no_array_is_above.ensures family lawful }) facts
