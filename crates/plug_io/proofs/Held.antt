-- What files in memory hold.
use Rattle.std.proofs.Common.{◌≡◌, ℕ, List, [], ◌∷◌, Option, Some, true, false}
use Rattle.std.proofs.Common.{find, cond, refl, ap, sym, ◌∙◌}
use Rattle.std.specs.Option.{option_map}
use Rattle.std.specs.Str.{bytes_eq}
use Rattle.std.specs.declared.string.String.{String}
use Rattle.std.specs.declared.vec.Vec.{Vec}
use Rattle.plug_io.specs.Files.{path_of, content_of, entries_of, held_at}

-- the first file of a path
abbrev pub first_file : {A B : Type 0} →
    List (String A × Vec ℕ B) → List ℕ → Option (String A × Vec ℕ B)
first_file files path = find (λ file. bytes_eq (path_of file) path) files

pub held_at-entries_of : {A B : Type 0} (files : List (String A × Vec ℕ B)) (path : List ℕ) →
    held_at (entries_of files) path ≡ option_map content_of (first_file files path)
held_at-entries_of [] path = refl
held_at-entries_of (file ∷ files) path =
    elim (bytes_eq (path_of file) path) as (λ b.
    option_map (λ entry. entry.1) (cond b (Some (path_of file, content_of file))
    (find (λ entry. bytes_eq entry.0 path) (entries_of files)))
    ≡ option_map content_of (cond b (Some file) (first_file files path)))
    [ true ↦ refl | false ↦ held_at-entries_of files path ]

-- what is held, by the file that was found
pub held_at-found : {A B : Type 0} (files : List (String A × Vec ℕ B)) (path : List ℕ)
    (found : Option (String A × Vec ℕ B)) →
    found ≡ first_file files path → held_at (entries_of files) path ≡ option_map content_of found
held_at-found files path found e =
    held_at-entries_of files path ∙ ap (option_map content_of) (sym e)
