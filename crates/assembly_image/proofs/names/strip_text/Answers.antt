use Rattle.std.proofs.Common.{rules}
use Rattle.std.proofs.lemmas.Bool.Decides.{Decides-eqb}
use Rattle.std.proofs.lemmas.Slice.Eq.{strip_suffix_is}
use Rattle.std.specs.Char.{IsScalar}
use Rattle.assembly_image.proofs.TextEnds.{left_first, left_next, left_other, left_none}
use Rattle.assembly_image.proofs.names.strip_text.Goals as goal

pub loop-character-init : goal.loop-character-init
loop-character-init c = left_first c.args.units.now c.args.text.now _ c.utf8.text cc

pub returns-in_err-rest : goal.returns-in_err-rest
returns-in_err-rest c =
    let scalar : IsScalar c.in-Some.character = search rules in
    let rest = c.loop-character.rest.now in
    let unit = c.encode_utf16.result.now in
    let cases = strip_suffix_is Decides-eqb rest unit c.strip_suffix.result c.strip_suffix.ensures.cases in
    let other = rw c.in_err-rest.was at cases in
    let none = c.from_residual.ensures in
    rw none
    (left_other _ _ _ _ c.loop-character.invariant _ _ scalar c.in-Some.ensures.steps
    unit c.encode_utf16.ensures.value other)

pub loop-character-preserved : goal.loop-character-preserved
loop-character-preserved c =
    let scalar : IsScalar c.in-Some.character = search rules in
    let rest = c.loop-character.rest.now in
    let unit = c.encode_utf16.result.now in
    let cases = strip_suffix_is Decides-eqb rest unit c.strip_suffix.result c.strip_suffix.ensures.cases in
    let ends = rw c.in_ok-rest.was at cases in
    left_next _ _ _ _ c.loop-character.invariant _ _ scalar c.in-Some.ensures.steps
    _ unit c.encode_utf16.ensures.value ends

pub returns : goal.returns
returns c = left_none _ _ _ _ c.loop-character.invariant c.in-None.ensures.steps.0
