use Rattle.std.proofs.Common.{subst}
use Rattle.il_reader.specs.declared.fault.IlFault.{IlFault}
use Rattle.il_reader.specs.Offsets.{HasFault}
use Rattle.il_verifier.proofs.begins.places_of.Goals as goal

pub unreachable-requires : goal.unreachable-requires
unreachable-requires c =
    c.not_broken.ensures c.args.code.now c.requires.whole.0 c.in-Err-Bad.field-0-0 c.requires.whole.1
    (subst (λ (fault : IlFault). HasFault c.args.code.now fault) c.in-Err-Bad.field-0-is c.in-Err-Bad.ensures.fault)
