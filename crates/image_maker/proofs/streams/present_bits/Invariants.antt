use Rattle.std.proofs.Common.{◌≡◌, slice_index}
use Rattle.image_maker.proofs.TablePlacesSteps.{bits_below}
use Rattle.image_maker.proofs.streams.present_bits.Given as goal

abbrev pub invariant-loop-table : goal.invariant-loop-table
invariant-loop-table l = l.bits ≡ bits_below (λ t. slice_index l.counts t) l.table
