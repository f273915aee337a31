use Rattle.std.proofs.Common.{◌≡◌, ◌++◌, slice_index}
use Rattle.image_maker.proofs.TablePlacesSteps.{counts_below}
use Rattle.image_maker.proofs.streams.put_counts.Given as goal

abbrev pub invariant-loop-table : goal.invariant-loop-table
invariant-loop-table l = l.out.items ≡ l.fn.out.items ++ counts_below (λ t. slice_index l.counts t) l.table
