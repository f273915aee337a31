use Rattle.std.proofs.Common.{sym}
use Rattle.signatures.proofs.Splits.{element-whole}
use Rattle.signatures.proofs.made_of.element.Goals as goal

pub key_of-requires : goal.key_of-requires
key_of-requires c = element-whole c.args.parts.now c.in-Some.element.now (sym c.in-Some.ensures) c.requires
