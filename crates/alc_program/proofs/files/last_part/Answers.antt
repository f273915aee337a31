use Rattle.alc_program.proofs.FilesLemmas.{last_part-all}
use Rattle.alc_program.proofs.files.last_part.Goals as goal

pub loop-rest-init : goal.loop-rest-init
loop-rest-init c = last_part-all c.args.units.now
