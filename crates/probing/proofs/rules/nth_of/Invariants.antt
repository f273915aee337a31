use Rattle.std.proofs.Common.{◌≡◌, drop}
use Rattle.probing.specs.Rules.{answer_at}
use Rattle.probing.proofs.rules.nth_of.Given as goal

-- the one sought is the one so far behind among the rules that are left
abbrev pub invariant-loop-rule : goal.invariant-loop-rule
invariant-loop-rule l = answer_at l.place l.name l.left (drop l.rule-index l.rules) ≡ answer_at l.place l.name l.fn.n l.rules
