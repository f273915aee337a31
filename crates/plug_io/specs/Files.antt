-- What a source of files holds (own).
use Rattle.std.specs.Prelude.{ℕ, List, Option, find, map, string_bytes}
use Rattle.std.specs.Option.{option_map}
use Rattle.std.specs.Str.{bytes_eq}
use Rattle.std.specs.declared.string.String.{String}
use Rattle.std.specs.declared.vec.Vec.{Vec}

-- the path of a file in memory, as bytes
abbrev pub path_of : {A B : Type 0} → String A × Vec ℕ B → List ℕ
path_of file = string_bytes file.0

-- its content
abbrev pub content_of : {A B : Type 0} → String A × Vec ℕ B → List ℕ
content_of file = file.1.items

abbrev pub entries_of : {A B : Type 0} → List (String A × Vec ℕ B) → List (List ℕ × List ℕ)
entries_of files = map (λ file. (path_of file, content_of file)) files

-- the content that is held at a path: that of its first entry
abbrev pub held_at : List (List ℕ × List ℕ) → List ℕ → Option (List ℕ)
held_at entries path = option_map (λ entry. entry.1) (find (λ entry. bytes_eq entry.0 path) entries)
