-- What a bind reads of the images of a run and of its assemblies (own). Images are counted from 1.
use Rattle.std.specs.Prelude.{ℕ, List, map, Option, Some, None, zero, suc}
use Rattle.std.specs.List.{slice_get}
use Rattle.std.specs.Option.{option_and_then}
use Rattle.assembly_name.specs.declared.version.Version.{Version}
use Rattle.assembly_image.specs.Names.{assembly_version}
use Rattle.assembly_image.specs.Reading.{FileReading}
use Rattle.assembly_image.specs.Reading.FileReading.{Absent, TooLong, Refused, Good}
use Rattle.host_events.specs.Bindings.{platform_version}
use Rattle.host_events.specs.declared.order.CodeOf.{CodeOf}

-- how the file of an image reads; none for a number of no image
abbrev pub reading_at : List FileReading → ℕ → Option FileReading
reading_at images zero = None
reading_at images (suc image) = slice_get images image

-- the version of an image that reads so; none where it is no image
abbrev pub version_read : FileReading → Option Version
version_read Absent = None
version_read TooLong = None
version_read (Refused failed) = None
version_read (Good m) = Some (assembly_version m)

-- the version of each image, from image 1 on
abbrev pub versions_of : List FileReading → List (Option Version)
versions_of images = map version_read images

-- What the assemblies and the images of a run are: where the code of each assembly comes from, and how the
-- file of each image reads.
pub record World : Type 0 where
  pub assemblies : ℕ → Option CodeOf
  pub images : List FileReading

-- the version of an assembly, which is that of its image
abbrev pub assembly_version_in : World → ℕ → Option Version
assembly_version_in world zero = Some platform_version
assembly_version_in world (suc a) =
    option_and_then (λ code. option_and_then version_read (reading_at world.images code.image)) (world.assemblies (suc a))
