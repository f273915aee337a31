-- How methods are written one after the other, each with the RVA of its body and the first row of its params
-- (ECMA-335 II.22.26).
use Rattle.std.specs.Prelude.{ℕ, ◌+◌, ◌≡◌, ◌≤◌, ◌<◌, ◌^◌, List, [], ◌∷◌, ◌++◌, length}
use Rattle.image_maker.specs.declared.module.Cell.{Cell}
use Rattle.image_maker.specs.declared.module.MethodRow.{MethodRow}
use Rattle.image_maker.specs.declared.writer.Writer.{Writer}
use Rattle.image_maker.specs.File.{bodies_bytes, rva_by}
use Rattle.image_maker.specs.Rows.{method_row}
use Rattle.image_maker.specs.Written.{Cells, Holds, table_cells}

-- the rows of methods that come after others, the first of which has its params from this row on
abbrev pub rows_behind : List MethodRow → ℕ → List MethodRow → List (List Cell)
rows_behind before param [] = []
rows_behind before param (m ∷ methods) =
    method_row m (rva_by before m.body) param ∷ rows_behind (before ++ m ∷ []) (param + m.params) methods

-- the params of each method begin at a row below 2^16
abbrev pub Starts : ℕ → List MethodRow → Type 0
Starts param [] = Unit {0}
Starts param (m ∷ methods) = (param ≤ 65535) × Starts (param + m.params) methods

-- the writer holds these methods after what it held, the first of which has its params from this row on
abbrev pub PutsMethods : ℕ → List MethodRow → Writer → Writer → Type 0
PutsMethods param methods old new =
    (new.layout ≡ old.layout)
    × ((cells : Cells) (before : List MethodRow) → length (bodies_bytes (before ++ methods)) < 2 ^ 31
    → Holds cells before old → Holds (cells ++ table_cells 0x06 (rows_behind before param methods))
    (before ++ methods) new)
