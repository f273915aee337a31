use Rattle.std.proofs.Common.{◌∙◌, sym}
use Rattle.std.proofs.lemmas.List.{take_rest}
use Rattle.image_maker.proofs.TextUnits.{zero_kept, zero_end, no_zero_char}
use Rattle.image_maker.proofs.units.has_no_zero.Goals as goal

pub loop-rest-preserved : goal.loop-rest-preserved
loop-rest-preserved c =
    zero_kept c.args.units.now c.loop-rest.rest.now _ c.first_character-character.result c.first_character-character.ensures
    (take_rest c.loop-rest.rest.now c.first_character-character.result.1)
    (no_zero_char c.first_character-character.result.0 (sym c.eq.ensures ∙ c.if-eq.false)) c.loop-rest.invariant

pub returns : goal.returns
returns c =
    zero_end c.args.units.now c.loop-rest.rest.now
    (sym c.is_empty.ensures ∙ c.loop-rest-test.false) c.loop-rest.invariant
