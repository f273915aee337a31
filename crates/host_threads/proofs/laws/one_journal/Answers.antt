use Rattle.host_threads.proofs.OneJournal.{has_one_journal}
use Rattle.host_threads.proofs.laws.one_journal.Goals as goal

pub returns : goal.returns
returns c = has_one_journal
