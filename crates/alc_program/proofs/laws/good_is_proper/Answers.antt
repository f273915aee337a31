use Rattle.command_flow.proofs.Fits.{due_events_fit_each}
use Rattle.alc_program.proofs.OneRun.{good_is_proper_each}
use Rattle.alc_program.proofs.laws.good_is_proper.Goals as goal

pub returns : goal.returns
returns c = good_is_proper_each due_events_fit_each
