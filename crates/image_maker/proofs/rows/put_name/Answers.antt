use Rattle.std.proofs.Common.{[], ◌∷◌, ap, subst, ◌∙◌}
use Rattle.cli_words.specs.Text.{bytes_of}
use Rattle.metadata_tables.specs.declared.schema.Column.TheVariants.{Strings}
use Rattle.image_maker.specs.declared.module.Cell.TheVariants.{Text}
use Rattle.image_maker.specs.Written.{Puts}
use Rattle.image_maker.proofs.rows.put_name.Goals as goal

pub returns-in-Ok : goal.returns-in-Ok
returns-in-Ok c =
    subst (λ v. Puts ((Strings, Text v) ∷ []) c.args.writer.now c.text.new.self)
    (c.as_str.ensures.value ∙ c.in-Ok.ensures ∙ ap bytes_of (c.units-2.ensures.units ∙ c.units.ensures)) c.text.ensures
