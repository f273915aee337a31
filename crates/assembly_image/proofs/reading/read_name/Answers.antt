use Rattle.std.proofs.Common.{ap, ◌∙◌}
use Rattle.cli_words.specs.Text.{units_of}
use Rattle.assembly_image.proofs.VersionLemmas.{one_assembly, name_held}
use Rattle.assembly_image.proofs.reading.read_name.Goals as goal

pub assembly_name-requires-clause-one : goal.assembly_name-requires-clause-one
assembly_name-requires-clause-one c = one_assembly c.args.bytes.now c.args.parts.now.root c.args.parts.now.tables c.requires.content

pub returns-in-Ok : goal.returns-in-Ok
returns-in-Ok c =
    c.of.ensures ∙ c.in-Ok.ensures.text.0 ∙ ap units_of c.assembly_name.ensures
    ∙ name_held c.args.bytes.now _ _ _ c.requires
