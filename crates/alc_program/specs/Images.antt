-- The image files of a script: what they hold, and under which names every context finds them (own).
use Rattle.std.specs.Prelude.{ℕ, ◌≡◌, ◌-◌, ◌==◌, ◌||◌, Bool, if◌then◌else◌, List, [], ◌∷◌, Option, Some, length, codes, take, drop, slice_get}
use Rattle.std.specs.List.{filter_map, list_any}
use Rattle.std.specs.Option.{option_map}
use Rattle.cli_words.specs.Text.{are_alike, units_of}
use Rattle.assembly_image.specs.Module.{Module}
use Rattle.assembly_image.specs.Names.{assembly_version}
use Rattle.assembly_image.specs.Reading.{FileReading}
use Rattle.assembly_image.specs.Reading.FileReading.{Good}
use Rattle.bind_flow.specs.Images.{versions_of}
use Rattle.host_events.specs.Files.{Files}
use Rattle.host_script.specs.declared.images.ImageLine.{ImageLine}
use Rattle.host_script.specs.declared.script.AppLine.{AppLine}
use Rattle.host_script.specs.declared.script.Script.{Script}
use Rattle.host_script.specs.Images.{line_at}
use Rattle.host_script.specs.Worded.{IsWordedVersion}
use Rattle.alc_program.specs.Inspect.{ReadsAs}

-- the unit `/`
abbrev pub slash : ℕ
slash = 0x2F

-- what follows the last `/` of a path, or all of it
abbrev pub last_part : List ℕ → List ℕ
last_part [] = []
last_part (unit ∷ rest) =
    if list_any (λ other. other == slash) (unit ∷ rest) then last_part rest else unit ∷ rest

-- a test of whether the units end like these, without regard to ASCII case
abbrev pub ends_alike : List ℕ → List ℕ → Bool
ends_alike units ending = are_alike (drop (length units - length ending) units) ending

-- a file name without a last `.dll` or `.exe`
abbrev pub stem : List ℕ → List ℕ
stem units =
    if ends_alike units (codes ".dll") || ends_alike units (codes ".exe") then take (length units - 4) units else units

-- the file name of a path, by which every context finds the file
abbrev pub file_name : List ℕ → List ℕ
file_name path = stem (last_part (units_of path))

-- the file name of the image that an application is, with the number of the image
abbrev pub app_file : List (List ℕ × ImageLine) → AppLine → Option (List ℕ × ℕ)
app_file lines app = option_map (λ (line : ImageLine). (file_name line.path, app.image)) (line_at lines app.image)

-- what a run of the script reads of its image files, where they read so
abbrev pub files_of : Script → List FileReading → Files
files_of script images = record {
  app = filter_map (app_file script.images) script.app;
  versions = versions_of images;
}

-- the version of an image is of four numbers of 16 bits
abbrev pub HasWordedVersion : FileReading → Type 0
HasWordedVersion (Good m) = IsWordedVersion (assembly_version m)
HasWordedVersion _ = Unit {0}

-- Each image is what its file reads as, from image 1 on; the versions of those that are images are of 16 bits.
pub record AreRead (held : Option (List (List ℕ × List ℕ))) (lines : List (List ℕ × ImageLine)) (images : List FileReading) : Type 0 where
  pub count : length images ≡ length lines
  pub each : (i : ℕ) (line : List ℕ × ImageLine) (reading : FileReading) →
      slice_get lines i ≡ Some line → slice_get images i ≡ Some reading → ReadsAs held line.1.path reading
  pub versions : (i : ℕ) (m : Module) → slice_get images i ≡ Some (Good m) → IsWordedVersion (assembly_version m)
