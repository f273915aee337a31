use Rattle.std.proofs.Common.{arith}
use Rattle.assembly_image.specs.Reading.{module_of}
use Rattle.alc_program.specs.Inspection.{type_text}
use Rattle.alc_program.proofs.InspectionLemmas.{puts_row}
use Rattle.alc_program.proofs.inspection.put_types.Goals as goal

pub loop-before-preserved : goal.loop-before-preserved
loop-before-preserved g c =
    puts_row (type_text (module_of c.args.image.now)) 1 c.loop-before.before _ _ (omega arith) (omega arith) c.loop-before.invariant c.put_type.ensures
