use Rattle.std.proofs.Common.{◌+◌, ◌-◌, ◌<◌, ◌≤◌}
use Rattle.metadata_tables.specs.Tables as tables
use Rattle.assembly_image.specs.Module.{count, number}
use Rattle.assembly_image.specs.Members.{list_of_kind}
use Rattle.assembly_image.specs.Reading.{module_of}
use Rattle.assembly_image.proofs.image.AssemblyImage.type_of.Given as goal

abbrev pub invariant-loop-low : goal.invariant-loop-low
invariant-loop-low l =
    let m = module_of l.self in
    let k = list_of_kind l.kind in
    record {
      within : l.low ≤ l.high;
      most : l.high ≤ count m tables.type_def;
      before : 0 < l.low → number m tables.type_def l.low k ≤ l.n;
      past : l.high < count m tables.type_def → l.n < number m tables.type_def (l.high + 1) k;
    }

abbrev pub decreases-loop-low : goal.decreases-loop-low
decreases-loop-low l = l.high - l.low
