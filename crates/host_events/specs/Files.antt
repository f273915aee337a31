-- What a run reads of its image files, which never changes (own). Names are compared without regard to
-- ASCII case.
use Rattle.std.specs.Prelude.{ℕ, ◌≤◌, ◌<◌, ◌^◌, Bool, List, [], length, Option, None, zero, suc}
use Rattle.std.specs.List.{find, slice_get, AllByRecursion}
use Rattle.std.specs.Option.{option_map, option_and_then}
use Rattle.cli_words.specs.Text.{are_alike}
use Rattle.assembly_name.specs.declared.version.Version.{Version}

pub record Files : Type 0 where
  -- the file names of the images that every context may find by themselves, each with the number of its
  -- image, in their order
  pub app : List (List ℕ × ℕ)
  -- the version of each image, from image 1 on; none where the file is no image
  pub versions : List (Option Version)

-- no images
abbrev pub no_files : Files
no_files = record { app = []; versions = [] }

-- there is an image of this number: they are counted from 1
pub record IsImage (versions : List (Option Version)) (image : ℕ) : Type 0 where
  pub counted : 1 ≤ image
  pub within : image ≤ length versions

-- Images are counted by numbers of 32 bits, and each file is that of an image.
pub record IsNumbered (app : List (List ℕ × ℕ)) (versions : List (Option Version)) : Type 0 where
  pub few : length versions < 2 ^ 32
  pub each : AllByRecursion (λ file. IsImage versions file.1) app

-- a test of whether a file has this name
abbrev pub is_of_name : List ℕ → List ℕ × ℕ → Bool
is_of_name name file = are_alike file.0 name

-- the image of the first file of a name
abbrev pub first_image : Files → List ℕ → Option ℕ
first_image files name = option_map (λ file. file.1) (find (is_of_name name) files.app)

-- the version of an image; none where its file is no image, and for a number of no image
abbrev pub version_at : List (Option Version) → ℕ → Option Version
version_at versions zero = None
version_at versions (suc image) = option_and_then (λ version. version) (slice_get versions image)

abbrev pub version_of : Files → ℕ → Option Version
version_of files image = version_at files.versions image
