use Rattle.host_script.proofs.ScriptLemmas.{told, told_at, only_script, only_refusal}
use Rattle.host_script.proofs.script.read_script.Goals as goal

pub returns : goal.returns
returns c = record {
  accepted = told c.args.bytes.now c.read.result c.read.ensures;
  at = told_at c.args.bytes.now c.read.result c.read.ensures;
  exact = only_script c.args.bytes.now c.read.result c.read.ensures;
  refused = only_refusal c.args.bytes.now c.read.result c.read.ensures;
}
