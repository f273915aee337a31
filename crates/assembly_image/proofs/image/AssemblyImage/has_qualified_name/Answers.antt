use Rattle.std.proofs.Common.{◌≡◌, ℕ, List, length, sym, ap, subst, ◌∙◌, arith}
use Rattle.std.proofs.lemmas.Bool.Decides.{nat_tests}
use Rattle.std.specs.Str.{bytes_eq}
use Rattle.assembly_image.specs.Names.{type_name, type_namespace}
use Rattle.assembly_image.specs.Reading.{module_of}
use Rattle.assembly_image.proofs.TextEnds.{empty_units, not_empty}
use Rattle.assembly_image.proofs.NameLemmas.{empty_test, qualified_alone, qualified_dotted, qualified_undotted, qualified_other}
use Rattle.assembly_image.proofs.image.AssemblyImage.has_qualified_name.Goals as goal

pub returns-in_default : goal.returns-in_default
returns-in_default c =
    let m = module_of c.args.self.now in
    sym (qualified_other (type_namespace m c.args.row) (type_name m c.args.row) c.args.units.now
    _ c.text.ensures c.in_default.ensures)

pub returns-then-is_empty : goal.returns-then-is_empty
returns-then-is_empty c =
    let m = module_of c.args.self.now in
    let text = c.text-namespace.result.now in
    let empty : length text ≡ 0 = grind (arith, nat_tests) in
    let none : length (type_namespace m c.args.row) ≡ 0 =
    subst (λ (us : List ℕ). length us ≡ 0) c.text-namespace.ensures
    ((empty_units text c.text-namespace.utf8).0 empty) in
    c.is_empty-then-is_empty.ensures ∙ sym (empty_test c.in-Some.before.now)
    ∙ sym (qualified_alone (type_namespace m c.args.row) (type_name m c.args.row) c.args.units.now
    _ c.text.ensures _ c.in-Some.ensures none)

pub returns-in-Some-strip_unit : goal.returns-in-Some-strip_unit
returns-in-Some-strip_unit c =
    let m = module_of c.args.self.now in
    let text = c.text-namespace.result.now in
    let full : ¬ (length text ≡ 0) = grind (arith, nat_tests) in
    let some = not_empty text _ c.text-namespace.utf8 c.text-namespace.ensures full in
    c.spells.ensures
    ∙ ap (λ us. bytes_eq us c.in-Some-strip_unit.rest.now) c.text-namespace.ensures
    ∙ sym (qualified_dotted (type_namespace m c.args.row) (type_name m c.args.row) c.args.units.now
    _ c.text.ensures _ c.in-Some.ensures _ some c.in-Some-strip_unit.ensures)

pub returns-in-None : goal.returns-in-None
returns-in-None c =
    let m = module_of c.args.self.now in
    let text = c.text-namespace.result.now in
    let full : ¬ (length text ≡ 0) = grind (arith, nat_tests) in
    let some = not_empty text _ c.text-namespace.utf8 c.text-namespace.ensures full in
    sym (qualified_undotted (type_namespace m c.args.row) (type_name m c.args.row) c.args.units.now
    _ c.text.ensures _ c.in-Some.ensures some c.in-None.ensures)
