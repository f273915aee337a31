use Rattle.std.proofs.Common.{arith}
use Rattle.host_report.specs.Report.{command_text}
use Rattle.host_report.proofs.LineLemmas.{puts_none}
use Rattle.host_report.proofs.ReportLemmas.{puts_each, puts_each_all}
use Rattle.host_report.proofs.writing.put_commands.Goals as goal

pub loop-command-init : goal.loop-command-init
loop-command-init g c = puts_none

pub loop-command-preserved : goal.loop-command-preserved
loop-command-preserved g c =
    puts_each command_text c.args.commands.now c.loop-command.command-index _ _ (omega arith) c.command-item.is c.loop-command.invariant c.put_command.ensures

pub returns : goal.returns
returns g c = puts_each_all command_text c.args.commands.now c.loop-command.command-index (omega arith) c.loop-command.invariant
