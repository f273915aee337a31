use Rattle.std.proofs.Common.{ap}
use Rattle.load_context.specs.Contexts.{Contexts}
use Rattle.host_core.proofs.Taken.{with_freed-other}
use Rattle.host_core.proofs.tables.Tables.follow_collect.Goals as goal

pub returns-in_default : goal.returns-in_default
returns-in_default g c =
    ap (λ (t : Contexts). record c.args.self.now { contexts = t }) (with_freed-other c.args.self.now.contexts c.args.reply.now c.in_default.not-Freed)
