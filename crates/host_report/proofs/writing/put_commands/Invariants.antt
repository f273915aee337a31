use Rattle.std.proofs.Common.{take}
use Rattle.std.specs.List.{flat_map}
use Rattle.host_report.specs.Line.{Puts}
use Rattle.host_report.specs.Report.{command_text}
use Rattle.host_report.proofs.writing.put_commands.Given as goal

abbrev pub invariant-loop-command : goal.invariant-loop-command
invariant-loop-command g l =
    Puts g.S.Sink.written g.S.Sink.faults l.initial.line l.initial.out l.line l.out (flat_map command_text (take l.command-index l.commands))
