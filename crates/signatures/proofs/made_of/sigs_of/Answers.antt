use Rattle.std.proofs.lemmas.List.{take_rest}
use Rattle.signatures.specs.declared.sig.SigPart.TheVariants.{Prim}
use Rattle.signatures.specs.declared.sig.Primitive.TheVariants.{Bool}
use Rattle.signatures.specs.Types.{arity}
use Rattle.signatures.proofs.Splits.{tail-whole}
use Rattle.signatures.proofs.made_of.sigs_of.Goals as goal

pub sigs-requires : goal.sigs-requires
sigs-requires c =
    rw (take_rest c.args.parts.now 1, c.arity.ensures) (tail-whole arity c.args.parts.now (Prim Bool) c.in-len1-up.len_at_least c.requires)
