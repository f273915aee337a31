use Rattle.std.proofs.Math.Facts.{Fits-of_lt}
use Rattle.assembly_image.proofs.image.AssemblyImage.word.Goals as goal

pub overflow_cast-result : goal.overflow_cast-result
overflow_cast-result c = Fits-of_lt (c.number.ensures.range c.requires)
