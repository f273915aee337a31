use Rattle.std.proofs.Common.{rules, subst}
use Rattle.std.proofs.lemmas.Int.{to_z-of_z}
use Rattle.std.specs.Prelude.{ℤ, SomeIff, FitsSigned}
use Rattle.std.specs.Int.{w64}
use Rattle.cli_words.specs.Convert.{Holds, widened}
use Rattle.cli_words.proofs.Conversions.{source_bits}
use Rattle.cli_words.proofs.word64.Word64.converted_ovf.Goals as goal

pub returns : goal.returns
returns c =
    let fits : FitsSigned w64 c.args.self.0 = search rules in
    subst (SomeIff c.convert_ovf.result (Holds c.args.to (widened w64 c.args.from_unsigned c.args.self.0)))
    (source_bits c.args.self.0 c.args.from_unsigned fits)
    (subst (λ (z : ℤ). SomeIff c.convert_ovf.result (Holds c.args.to (widened w64 c.args.from_unsigned z)) z)
    (to_z-of_z w64 c.args.self.0 fits) c.convert_ovf.ensures)
