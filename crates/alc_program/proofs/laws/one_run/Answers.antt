use Rattle.command_flow.proofs.Fits.{due_events_fit_each}
use Rattle.alc_program.proofs.OneRun.{one_run_each}
use Rattle.alc_program.proofs.laws.one_run.Goals as goal

pub returns : goal.returns
returns c = one_run_each due_events_fit_each
