use Rattle.std.proofs.Common.{◌≡◌, [], ◌∷◌, true, ap, refl, subst, sym}
use Rattle.image_maker.specs.declared.module.Cell.TheVariants.{Number, Text, Bytes}
use Rattle.image_maker.specs.Held.{cell_of, fits_in}
use Rattle.image_maker.specs.Written.{Puts}
use Rattle.image_maker.proofs.RowPuts.{put_as_text, put_as_blob}
use Rattle.image_maker.proofs.rows.put_cell.Goals as goal

pub returns-in-Half : goal.returns-in-Half
returns-in-Half c =
    subst (λ held. Puts ((c.args.column, cell_of held) ∷ []) c.args.writer.now c.number.new.self) (sym c.in-Half.is)
    (subst (λ v. Puts ((c.args.column, Number v) ∷ []) c.args.writer.now c.number.new.self) c.from.ensures
    c.number.ensures)

pub returns-in-Number : goal.returns-in-Number
returns-in-Number c =
    subst (λ held. Puts ((c.args.column, cell_of held) ∷ []) c.args.writer.now c.number-in-Number.new.self)
    (sym c.in-Number.is) c.number-in-Number.ensures

pub returns-in-Text : goal.returns-in-Text
returns-in-Text c =
    put_as_text c.args.column c.in-Text.text.now _ c.args.cell _ c.args.writer.now c.text.new.self c.in-Text.is
    (subst (λ held. fits_in c.args.column held ≡ true) c.in-Text.is c.requires)
    (ap Text (sym c.as_str.ensures)) c.text.ensures

pub returns-in-Name : goal.returns-in-Name
returns-in-Name c =
    put_as_text c.args.column [] _ c.args.cell _ c.args.writer.now c.put_name.new.writer c.in-Name.is
    (subst (λ held. fits_in c.args.column held ≡ true) c.in-Name.is c.requires) refl c.put_name.ensures

pub returns-in-Bytes : goal.returns-in-Bytes
returns-in-Bytes c =
    put_as_blob c.args.column c.in-Bytes.bytes.now _ c.args.cell _ c.args.writer.now c.blob.new.self c.in-Bytes.is
    (subst (λ held. fits_in c.args.column held ≡ true) c.in-Bytes.is c.requires)
    (ap Bytes (sym c.items.ensures)) c.blob.ensures

pub returns-in-NoText : goal.returns-in-NoText
returns-in-NoText c =
    put_as_text c.args.column [] [] c.args.cell _ c.args.writer.now c.text-in-NoText.new.self c.in-NoText.is
    (subst (λ held. fits_in c.args.column held ≡ true) c.in-NoText.is c.requires) refl c.text-in-NoText.ensures

pub returns-in-NoBytes : goal.returns-in-NoBytes
returns-in-NoBytes c =
    put_as_blob c.args.column [] [] c.args.cell _ c.args.writer.now c.blob-in-NoBytes.new.self c.in-NoBytes.is
    (subst (λ held. fits_in c.args.column held ≡ true) c.in-NoBytes.is c.requires) refl c.blob-in-NoBytes.ensures
