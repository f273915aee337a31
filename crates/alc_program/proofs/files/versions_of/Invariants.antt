use Rattle.std.proofs.Common.{◌≡◌, take}
use Rattle.bind_flow.specs.Images.{versions_of}
use Rattle.alc_program.proofs.files.versions_of.Given as goal

abbrev pub invariant-loop-index : goal.invariant-loop-index
invariant-loop-index l = l.versions.items ≡ versions_of (take l.index l.images)
