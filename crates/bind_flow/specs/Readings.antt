-- What the readings that a run keeps of its image files stand for (own).
use Rattle.std.specs.Prelude.{List, map}
use Rattle.std.specs.Arc.{arc_value}
use Rattle.assembly_image.specs.Reading.{FileReading, module_of}
use Rattle.assembly_image.specs.Reading.FileReading.{Absent, TooLong, Refused, Good}
use Rattle.bind_flow.specs.declared.images.ImageFile.{ImageFile}
use Rattle.bind_flow.specs.declared.images.ImageReading.{ImageReading}
use Rattle.bind_flow.specs.declared.images.ImageReading.TheVariants as kept

-- what a reading that is kept stands for: an image is its module
abbrev pub meaning : ImageReading → FileReading
meaning kept.Absent = Absent
meaning kept.TooLong = TooLong
meaning (kept.Bad failed) = Refused failed
meaning (kept.Good image) = Good (module_of (arc_value image))

-- how each file reads
abbrev pub readings : List ImageFile → List FileReading
readings files = map (λ file. meaning file.reading) files
