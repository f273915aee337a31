use Rattle.std.proofs.Common.{refl}
use Rattle.image_maker.proofs.file.headers.Goals as goal

-- src/file.rt:31:1
pub returns : goal.returns
returns c = rw (c.round_up-size.ensures, c.round_up-second.ensures) refl
