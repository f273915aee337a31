-- Words that say of which kind something is (own: the reader's view, which no promise cites).
use Rattle.std.specs.Prelude.{ℕ, List, [], ◌∷◌, Option, Some, None, if◌then◌else◌}
use Rattle.std.specs.Str.{bytes_eq, is_utf8}
use Rattle.host_report.specs.FieldReading.{word_read}

-- the word at the front, where it is UTF-8, and what stands behind the space that follows it
unfoldable pub keyword_read : List ℕ → Option (List ℕ × List ℕ)
keyword_read text = if is_utf8 (word_read text).0 then Some (word_read text) else None

-- what stands beside a word in a table
abbrev pub beside : {T : Type 0} → List ℕ → List (List ℕ × T) → Option T
beside word [] = None
beside word (row ∷ rows) = if bytes_eq word row.0 then Some row.1 else beside word rows
