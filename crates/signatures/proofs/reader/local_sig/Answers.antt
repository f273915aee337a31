use Rattle.std.proofs.Common.{rules, arith}
use Rattle.signatures.specs.Signatures.{GivesReading, locals_of}
use Rattle.signatures.proofs.Readers.{locals-reader, tells}
use Rattle.signatures.proofs.reader.local_sig.Goals as goal

pub returns : goal.returns
returns c =
    let bytes = c.args.bytes.now in
    let read : GivesReading (λ sigs. sigs.items) c.map_err.result (locals_of bytes c.args.blob) = search rules in
    let told = tells locals-reader (λ sigs. sigs.items) bytes c.args.blob c.map_err.result (λ k. omega (arith, c.type_inv.bytes k)) read in
    record { read = read; spelled = told.spelled; only = told.only; place = told.place }
