use Rattle.std.proofs.Common.{◌≡◌, map}
use Rattle.std.specs.Arc.{arc_value}
use Rattle.command_flow.specs.Flow.{fresh}
use Rattle.alc_program.specs.Good.{plan_of}
use Rattle.alc_program.proofs.run.flows_for.Given as goal

abbrev pub invariant-loop-lines : goal.invariant-loop-lines
invariant-loop-lines l = l.flows.items ≡ map (λ lines. fresh (plan_of (arc_value l.images) lines)) l.yielded
