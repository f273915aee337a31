use Rattle.command_flow.proofs.Fits.{due_events_fit_each}
use Rattle.command_flow.proofs.laws.due_events_fit.Goals as goal

pub returns : goal.returns
returns c = due_events_fit_each
