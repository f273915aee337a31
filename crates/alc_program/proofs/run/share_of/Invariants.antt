use Rattle.std.proofs.Common.{◌≡◌, take}
use Rattle.host_core.specs.Allowed.{makes_context_by, makes_handle_by, sets_rule_by}
use Rattle.alc_program.specs.Shares.{count_for}
use Rattle.alc_program.proofs.RunLemmas.{events_for}
use Rattle.alc_program.proofs.run.share_of.Given as goal

abbrev pub invariant-loop-line : goal.invariant-loop-line
invariant-loop-line l = record {
  events : l.events ≡ events_for (take l.line-index l.commands);
  contexts : l.contexts ≡ count_for makes_context_by (take l.line-index l.commands);
  handles : l.handles ≡ count_for makes_handle_by (take l.line-index l.commands);
  rules : l.rules ≡ count_for sets_rule_by (take l.line-index l.commands);
}
