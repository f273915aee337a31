use Rattle.std.proofs.Common.{◌≡◌, ◌≤◌, take}
use Rattle.bind_flow.specs.Readings.{readings}
use Rattle.alc_program.proofs.ReadingLemmas.{AllRead}
use Rattle.alc_program.proofs.images.read_images.Given as goal

-- the files of the first lines read so
abbrev pub invariant-loop-index : goal.invariant-loop-index
invariant-loop-index g l = record {
  read : AllRead (g.F.Files.held l.fn.files) (take l.index l.lines) (readings l.images.items);
  held : g.F.Files.held l.files ≡ g.F.Files.held l.fn.files;
  faults : g.F.Files.faults l.fn.files ≤ g.F.Files.faults l.files;
}
