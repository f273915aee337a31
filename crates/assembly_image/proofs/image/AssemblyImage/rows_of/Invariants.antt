use Rattle.std.proofs.Common.{◌+◌, ◌-◌, ◌==◌, if◌then◌else◌}
use Rattle.assembly_image.specs.Index.{table_by, value_by, value_in_row}
use Rattle.assembly_image.specs.Module.{count}
use Rattle.assembly_image.specs.Reading.{module_of}
use Rattle.assembly_image.proofs.IndexLemmas.{IsWalked}
use Rattle.assembly_image.proofs.image.AssemblyImage.rows_of.Given as goal

abbrev pub invariant-loop-n : goal.invariant-loop-n
invariant-loop-n l =
    let m = module_of l.self in
    IsWalked (value_in_row m l.fn.by) (value_by l.fn.by l.row) (count m (table_by l.fn.by)) l.rows.items l.n

abbrev pub decreases-loop-n : goal.decreases-loop-n
decreases-loop-n l = if l.n == 0 then 0 else count (module_of l.self) (table_by l.fn.by) + 1 - l.n
