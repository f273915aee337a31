-- What stands in a column, borrowed from a module, and the cell that it is (own).
use Rattle.std.specs.Prelude.{◌≡◌, Bool, true, false, ◌&&◌, List, [], ◌∷◌}
use Rattle.cli_words.specs.Text.{bytes_of}
use Rattle.metadata_tables.specs.declared.schema.Column.{Column}
use Rattle.metadata_tables.specs.declared.schema.Column.TheVariants as column
use Rattle.image_maker.specs.declared.module.Cell.{Cell}
use Rattle.image_maker.specs.declared.module.Cell.TheVariants as cell
use Rattle.image_maker.specs.declared.rows.Held.{Held}
use Rattle.image_maker.specs.declared.rows.Held.TheVariants.{Half, Number, Text, Name, Bytes, NoText, NoBytes}
use Rattle.image_maker.specs.Sound.{fits}

-- the cell that it is
abbrev pub cell_of : Held → Cell
cell_of (Half value) = cell.Number value
cell_of (Number value) = cell.Number value
cell_of (Text text) = cell.Text text.now
cell_of (Name name) = cell.Text (bytes_of name.now)
cell_of (Bytes bytes) = cell.Bytes bytes.now
cell_of NoText = cell.Text []
cell_of NoBytes = cell.Bytes []

-- a column of two bytes
abbrev pub is_half : Column → Bool
is_half column.U16 = true
is_half _ = false

-- it fits the column
abbrev pub fits_in : Column → Held → Bool
fits_in column (Half value) = is_half column
fits_in column (Number value) = fits column (cell.Number value)
fits_in column (Text text) = fits column (cell.Text text.now)
fits_in column (Name name) = fits column (cell.Text [])
fits_in column (Bytes bytes) = fits column (cell.Bytes bytes.now)
fits_in column NoText = fits column (cell.Text [])
fits_in column NoBytes = fits column (cell.Bytes [])

-- cells fit the columns, one each
abbrev pub are_fitting : List Column → List Held → Bool
are_fitting [] [] = true
are_fitting (column ∷ columns) (cell ∷ cells) = fits_in column cell && are_fitting columns cells
are_fitting columns cells = false

-- it fits wherever the cell does
abbrev pub IsFittingAs : Cell → Held → Type 0
IsFittingAs given held = (column : Column) → fits column given ≡ true → fits_in column held ≡ true
