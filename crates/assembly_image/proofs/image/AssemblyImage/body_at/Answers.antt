use Rattle.std.proofs.Common.{◌≡◌, ◌==◌, true, false, refl, ℕ, List, ap, ◌∙◌, arith}
use Rattle.std.proofs.lemmas.Bool.Decides.{nat_tests}
use Rattle.pe_image.specs.declared.pe.Pe.{Pe}
use Rattle.pe_image.specs.Section.{span_of}
use Rattle.metadata_tables.specs.Tables as tables
use Rattle.assembly_image.specs.Members.{place_of_byte}
use Rattle.assembly_image.specs.Module.{number}
use Rattle.assembly_image.specs.Reading.{module_of}
use Rattle.assembly_image.proofs.image.AssemblyImage.body_at.Goals as goal

pub returns-then-rva-eq0 : goal.returns-then-rva-eq0
returns-then-rva-eq0 c =
    let read = c.number-rva.ensures.value in
    let none : (number (module_of c.args.self.now) tables.method_def c.args.n tables.method_def_rva == 0) ≡ true =
    grind (arith, nat_tests) in
    rw none refl

pub returns : goal.returns
returns c =
    let held = c.args.self.now in
    let read = c.number-rva.ensures.value in
    let rva = c.number-rva.result in
    let pe = c.pe.result.now in
    let some : (number (module_of held) tables.method_def c.args.n tables.method_def_rva == 0) ≡ false =
    grind (arith, nat_tests) in
    rw some
    (c.at.ensures.span
    ∙ ap (λ (bytes : List ℕ). span_of bytes pe.sections_at pe.sections rva 1) c.bytes.ensures.bytes
    ∙ ap (λ (p : Pe). span_of held p.sections_at p.sections rva 1) c.pe.ensures
    ∙ ap (place_of_byte held) read)
