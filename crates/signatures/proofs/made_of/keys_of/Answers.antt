use Rattle.std.proofs.Common.{sym, subst}
use Rattle.std.proofs.lemmas.List.{take_rest}
use Rattle.signatures.specs.declared.key.KeyPart.TheVariants.{Prim}
use Rattle.signatures.specs.declared.sig.Primitive.TheVariants.{Bool}
use Rattle.signatures.specs.Keys.{key_arity, IsProper}
use Rattle.signatures.proofs.Splits.{tail-whole, tail-proper}
use Rattle.signatures.proofs.made_of.keys_of.Goals as goal

pub keys-requires-clause-whole : goal.keys-requires-clause-whole
keys-requires-clause-whole c =
    rw (take_rest c.args.parts.now 1, c.arity.ensures) (tail-whole key_arity c.args.parts.now (Prim Bool) c.in-len1-up.len_at_least c.requires.0)

pub keys-requires-clause-proper : goal.keys-requires-clause-proper
keys-requires-clause-proper c = rw (take_rest c.args.parts.now 1) (tail-proper c.args.parts.now c.requires.1)
