-- The bytes that are written of a module (own).
use Rattle.std.specs.Prelude.{ℕ, ◌≡◌, List, ◌++◌}
use Rattle.image_maker.specs.declared.module.Module.{Module}
use Rattle.image_maker.specs.declared.writer.Writer.{Writer}
use Rattle.image_maker.specs.Rows.{rows_of, all_methods}
use Rattle.image_maker.specs.Sound.{count, layout_at}
use Rattle.image_maker.specs.Written.{Cells, cells_below, rows_bytes, strings_of, blobs_of}
use Rattle.image_maker.specs.File.{Stream, known_parts, padded, tables_bytes, root_bytes, bodies_bytes, rva_of, file_bytes}

-- the RVA of each method's row
abbrev pub rva_in : Module → ℕ → ℕ
rva_in m = rva_of (all_methods m)

-- the cells of all its rows
unfoldable pub cells_in : Module → Cells
cells_in m = cells_below (rows_of m (rva_in m)) 45

abbrev pub tables_in : Module → List ℕ
tables_in m = tables_bytes (count m) (rows_bytes (layout_at m 0) (cells_in m))

-- its streams: those whose bytes the module does not give whole have a multiple of four bytes (ECMA-335 II.24.2.2)
abbrev pub streams_of : Module → List Stream
streams_of m =
    known_parts (padded 4 (tables_in m)) (padded 4 (strings_of (cells_in m))) m.user_strings m.guids
    (padded 4 (blobs_of (cells_in m)))
    ++ m.streams

abbrev pub bodies_in : Module → List ℕ
bodies_in m = bodies_bytes (all_methods m)

abbrev pub image_bytes : Module → List ℕ
image_bytes m = file_bytes (bodies_in m) (root_bytes (streams_of m))

-- what a writer holds of a module, when it is ready to be put together
pub record IsReady (m : Module) (writer : Writer) : Type 0 where
  pub layout : writer.layout ≡ layout_at m 0
  pub rows : writer.rows.items ≡ rows_bytes (layout_at m 0) (cells_in m)
  pub strings : writer.strings.items ≡ padded 4 (strings_of (cells_in m))
  pub blobs : writer.blobs.items ≡ padded 4 (blobs_of (cells_in m))
  pub bodies : writer.bodies.items ≡ bodies_in m
