use Rattle.std.proofs.Common.{[], refl, sym, ◌∙◌}
use Rattle.cli_words.specs.Text.{units_of}
use Rattle.assembly_image.proofs.NameLemmas.{empty_test, same_end, other_end}
use Rattle.assembly_image.proofs.names.spells.Goals as goal

pub returns-in-Some : goal.returns-in-Some
returns-in-Some c =
    let text = units_of c.args.text.now in
    let rest = c.in-Some.rest.now in
    c.is_empty.ensures ∙ sym (empty_test rest)
    ∙ sym (same_end [] c.args.units.now text text refl rest c.in-Some.ensures)

pub returns-in-None : goal.returns-in-None
returns-in-None c =
    let text = units_of c.args.text.now in
    sym (other_end [] c.args.units.now text text refl c.in-None.ensures)
