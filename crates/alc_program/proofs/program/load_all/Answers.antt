use Rattle.std.proofs.Common.{List, Option, ℕ, subst}
use Rattle.std.specs.Arc.{arc_value}
use Rattle.host_script.proofs.SmallLemmas.{accepted_is_small_each}
use Rattle.alc_program.specs.Images.{AreRead}
use Rattle.alc_program.proofs.program.load_all.Goals as goal

pub read_images-requires : goal.read_images-requires
read_images-requires g c =
    let holds = c.in_ok-script.ensures.script in
    let small = accepted_is_small_each holds.bytes c.in_ok-script.script holds.accepted in small.images

pub returns-clause-images : goal.returns-clause-images
returns-clause-images g c =
    subst (λ (h : Option (List (List ℕ × List ℕ))). AreRead h c.in_ok-script.script.images (arc_value c.in_ok-images.images))
    c.in_ok-script.ensures.held c.in_ok-images.ensures.images
