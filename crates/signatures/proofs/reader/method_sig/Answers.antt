use Rattle.std.proofs.Common.{rules, arith}
use Rattle.signatures.specs.Signatures.{GivesReading, method_of}
use Rattle.signatures.proofs.Readers.{method-reader, tells}
use Rattle.signatures.proofs.reader.method_sig.Goals as goal

pub returns : goal.returns
returns c =
    let bytes = c.args.bytes.now in
    let read : GivesReading (λ sig. sig) c.map_err.result (method_of bytes c.args.blob) = search rules in
    let told = tells method-reader (λ sig. sig) bytes c.args.blob c.map_err.result (λ k. omega (arith, c.type_inv.bytes k)) read in
    record { read = read; spelled = told.spelled; only = told.only; place = told.place }
