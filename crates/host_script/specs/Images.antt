-- The images of a script by name and number (own).
use Rattle.std.specs.Prelude.{ℕ, ◌+◌, ◌-◌, Bool, List, map, position, slice_get, Option, None, nat_le, if◌then◌else◌}
use Rattle.std.specs.Option.{option_map}
use Rattle.std.specs.Str.{bytes_eq}
use Rattle.std.specs.List.{list_any}
use Rattle.host_script.specs.declared.images.ImageLine.{ImageLine}

abbrev pub names : List (List ℕ × ImageLine) → List (List ℕ)
names images = map (λ image. image.0) images

-- the number of a name, counted from 1
abbrev pub number : List (List ℕ) → List ℕ → Option ℕ
number names name = option_map (λ index. index + 1) (position (bytes_eq name) names)

-- the line of the image of a number
abbrev pub line_at : List (List ℕ × ImageLine) → ℕ → Option ImageLine
line_at images number = if nat_le 1 number then option_map (λ image. image.1) (slice_get images (number - 1)) else None

abbrev pub is_among : List ℕ → List (List ℕ) → Bool
is_among name names = list_any (λ n. bytes_eq n name) names
