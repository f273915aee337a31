use Rattle.std.specs.Iterator.Adapters.{rev_source}
use Rattle.std.specs.Str.Iter.{chars_rest}
use Rattle.assembly_image.proofs.TextEnds.{Left}
use Rattle.assembly_image.proofs.names.strip_text.Given as goal

abbrev pub invariant-loop-character : goal.invariant-loop-character
invariant-loop-character l =
    Left l.units l.text l.rest (chars_rest (rev_source l.character-iterator))
