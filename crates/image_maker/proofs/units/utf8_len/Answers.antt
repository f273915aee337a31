use Rattle.std.proofs.Common.{◌∙◌, sym, arith}
use Rattle.std.proofs.lemmas.List.{take_rest}
use Rattle.image_maker.proofs.TextUnits.{len_kept, len_end}
use Rattle.image_maker.proofs.units.utf8_len.Goals as goal

pub loop-rest-preserved : goal.loop-rest-preserved
loop-rest-preserved c = (
  omega (arith, c.saturating_add-len.ensures),
  len_kept c.args.units.now c.loop-rest.rest.now _ c.first_character-character.result c.first_character-character.ensures
      (take_rest c.loop-rest.rest.now c.first_character-character.result.1)
      c.loop-rest.len _ _ c.saturating_add-len.ensures c.char_len.ensures c.loop-rest.invariant.1,
)

pub returns : goal.returns
returns c =
    len_end c.args.units.now c.loop-rest.rest.now (sym c.is_empty.ensures ∙ c.loop-rest-test.false) c.loop-rest.len
    c.loop-rest.invariant.0 c.loop-rest.invariant.1
