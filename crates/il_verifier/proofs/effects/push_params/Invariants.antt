use Rattle.std.proofs.Common.{◌≡◌, ◌++◌, map, take}
use Rattle.il_verifier.specs.Lines.{into_key}
use Rattle.il_verifier.proofs.effects.push_params.Given as goal

abbrev pub invariant-loop-param : goal.invariant-loop-param
invariant-loop-param l = l.wants.items ≡ l.fn.wants.items ++ map into_key (take l.param-index l.params)
