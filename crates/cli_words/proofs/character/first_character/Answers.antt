use Rattle.std.proofs.Common.{◌∙◌, sym, subst}
use Rattle.cli_words.specs.Character.{IsFirst}
use Rattle.cli_words.proofs.Characters.{first_pair, first_lone}
use Rattle.cli_words.proofs.character.first_character.Goals as goal

pub returns-then-begins_with_pair : goal.returns-then-begins_with_pair
returns-then-begins_with_pair c = first_pair c.args.units.now
    (sym c.begins_with_pair.ensures ∙ c.if-begins_with_pair.true)

pub returns : goal.returns
returns c =
    subst (λ o. IsFirst c.args.units.now (o, 1)) (sym c.lone.ensures)
    (first_lone c.args.units.now c.requires (sym c.begins_with_pair.ensures ∙ c.if-begins_with_pair.false))
