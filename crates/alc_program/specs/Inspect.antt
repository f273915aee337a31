-- What a file reads as (own).
use Rattle.std.specs.Prelude.{ℕ, ◌≡◌, List, Option, IfSome}
use Rattle.plug_io.specs.Files.{held_at}
use Rattle.assembly_image.specs.Reading.{FileReading, file_reading}

-- The reading is that of a content, or of none, which is that of the file where the files tell it.
pub record ReadsAs (held : Option (List (List ℕ × List ℕ))) (file : List ℕ) (reading : FileReading) : Type 0 where
  pub content : Option (List ℕ)
  pub read : reading ≡ file_reading content
  pub found : IfSome held (λ entries. held_at entries file ≡ content)
