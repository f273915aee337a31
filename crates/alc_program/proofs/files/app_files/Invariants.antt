use Rattle.std.proofs.Common.{◌≡◌, take}
use Rattle.std.specs.List.{filter_map}
use Rattle.alc_program.specs.Images.{app_file}
use Rattle.alc_program.proofs.files.app_files.Given as goal

abbrev pub invariant-loop-line : goal.invariant-loop-line
invariant-loop-line l = l.files.items ≡ filter_map (app_file l.lines) (take l.line-index l.app)
