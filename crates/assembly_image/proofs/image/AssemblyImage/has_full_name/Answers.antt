use Rattle.std.proofs.Common.{◌≡◌, ◌-◌, sym, ap, ◌∙◌, arith}
use Rattle.std.specs.Str.{bytes_eq}
use Rattle.assembly_image.specs.Names.{full_name_within}
use Rattle.assembly_image.specs.Reading.{module_of}
use Rattle.assembly_image.proofs.NameLemmas.{outermost, enclosed_other, enclosed_slashed, enclosed_unslashed}
use Rattle.assembly_image.proofs.image.AssemblyImage.has_full_name.Goals as goal

pub returns-in_default : goal.returns-in_default
returns-in_default c =
    let m = module_of c.args.self.now in
    let row = c.loop-named.row in
    let alone = outermost m row (16 - c.loop-named._named) (sym c.encloser.ensures ∙ c.in_default.is) in
    c.has_qualified_name.ensures ∙ ap (λ us. bytes_eq us c.loop-named.units.now) (sym alone)
    ∙ sym c.loop-named.invariant

pub returns-in_default-strip_text : goal.returns-in_default-strip_text
returns-in_default-strip_text c =
    sym (c.loop-named.invariant
    ∙ enclosed_other (module_of c.args.self.now) c.loop-named.row c.loop-named._named _ (omega arith)
    (sym c.encloser.ensures ∙ c.in-Some.is) c.loop-named.units.now _ c.text.ensures
    c.in_default-strip_text.ensures)

pub returns-in_default-strip_unit : goal.returns-in_default-strip_unit
returns-in_default-strip_unit c =
    sym (c.loop-named.invariant
    ∙ enclosed_unslashed (module_of c.args.self.now) c.loop-named.row c.loop-named._named _ (omega arith)
    (sym c.encloser.ensures ∙ c.in-Some.is) c.loop-named.units.now _ c.text.ensures
    _ c.in-Some-strip_text.ensures c.in_default-strip_unit.ensures)

pub loop-named-preserved : goal.loop-named-preserved
loop-named-preserved c =
    c.loop-named.invariant
    ∙ enclosed_slashed (module_of c.args.self.now) c.loop-named.row c.loop-named._named _ (omega arith)
    (sym c.encloser.ensures ∙ c.in-Some.is) c.loop-named.units.now _ c.text.ensures
    _ c.in-Some-strip_text.ensures _ c.in-Some-strip_unit.ensures

pub returns : goal.returns
returns c =
    let m = module_of c.args.self.now in
    let none : 0 ≡ 16 - c.loop-named._named = omega arith in
    c.has_qualified_name-2.ensures
    ∙ ap (λ n. bytes_eq (full_name_within m n c.loop-named.row) c.loop-named.units.now) none
    ∙ sym c.loop-named.invariant
