use Rattle.std.proofs.Common.{ap, sym, ◌∙◌, arith, rules}
use Rattle.std.proofs.lemmas.Int.{ints, to_z-of_z}
use Rattle.std.specs.Int.{w8, w16, w32, w64, int_wrap}
use Rattle.std.specs.Prelude.{FitsSigned}
use Rattle.cli_words.specs.Convert.{low_bits}
use Rattle.cli_words.proofs.Conversions.{signed_kept, native_kept}
use Rattle.cli_words.proofs.conversion.convert.Goals as goal

pub returns-in-I1 : goal.returns-in-I1
returns-in-I1 c =
    let f : FitsSigned w8 c.cast_signed.result = search rules in
    omega (arith, ints)
    ∙ (c.cast_signed.ensures ∙ signed_kept w8 c.args.value c.low_1.result tt c.ranges.value c.low_1.ensures)
    ∙ ap (λ k. int_wrap w64 (low_bits k c.args.value)) (sym c.in-I1.is)

pub returns-in-I2 : goal.returns-in-I2
returns-in-I2 c =
    let f : FitsSigned w16 c.cast_signed-in-I2.result = search rules in
    omega (arith, ints)
    ∙ (c.cast_signed-in-I2.ensures ∙ signed_kept w16 c.args.value c.low_2.result tt c.ranges.value c.low_2.ensures)
    ∙ ap (λ k. int_wrap w64 (low_bits k c.args.value)) (sym c.in-I2.is)

pub returns-in-I4 : goal.returns-in-I4
returns-in-I4 c =
    let f : FitsSigned w32 c.cast_signed-in-I4.result = search rules in
    omega (arith, ints)
    ∙ (c.cast_signed-in-I4.ensures ∙ signed_kept w32 c.args.value c.low_4.result tt c.ranges.value c.low_4.ensures)
    ∙ ap (λ k. int_wrap w64 (low_bits k c.args.value)) (sym c.in-I4.is)

pub returns-in-I8 : goal.returns-in-I8
returns-in-I8 c = to_z-of_z w64 _ c.ranges.value ∙ native_kept c.args.to c.args.value c.ranges.value c.in-I8.is
