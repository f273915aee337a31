use Rattle.std.proofs.Common.{◌≡◌, ◌<◌, ap, sym, subst, refl, length, rules}
use Rattle.assembly_image.specs.Names.{type_name, type_namespace}
use Rattle.assembly_image.specs.Reading.{module_of}
use Rattle.host_report.specs.Quote.{units_text, IsApart}
use Rattle.alc_program.proofs.InspectionLemmas.{apart_whole, dot_text, not_empty, puts_joined, within_namespace, without_namespace}
use Rattle.host_report.proofs.LineLemmas.{puts_as}
use Rattle.alc_program.proofs.inspection.put_qualified.Goals as goal

pub returns-then-is_empty-clause-puts : goal.returns-then-is_empty-clause-puts
returns-then-is_empty-clause-puts g c =
    let m = module_of c.args.image.now in
    let none : length c.text-namespace.result.now ≡ 0 = search rules in
    let alone = without_namespace c.text-namespace.result.now (type_namespace m c.args.row) (type_name m c.args.row) none (sym c.text-namespace.ensures) in
    puts_as (ap units_text (sym alone)) (puts_as (ap units_text c.text-name.ensures) c.put_text.ensures.puts)

pub returns-then-is_empty-clause-apart : goal.returns-then-is_empty-clause-apart
returns-then-is_empty-clause-apart g c =
    let m = module_of c.args.image.now in
    let none : length c.text-namespace.result.now ≡ 0 = search rules in
    let alone = without_namespace c.text-namespace.result.now (type_namespace m c.args.row) (type_name m c.args.row) none (sym c.text-namespace.ensures) in
    subst IsApart (sym alone) (subst IsApart c.text-name.ensures c.put_text.ensures.apart)

pub returns-else-is_empty-clause-puts : goal.returns-else-is_empty-clause-puts
returns-else-is_empty-clause-puts g c =
    let m = module_of c.args.image.now in
    let some : 0 < length c.text-namespace.result.now = not_empty (length c.text-namespace.result.now) c.is_empty.result c.is_empty.ensures c.if-is_empty.false in
    let within = within_namespace c.text-namespace.result.now (type_namespace m c.args.row) (type_name m c.args.row) c.text-namespace.utf8 some (sym c.text-namespace.ensures) in
    puts_joined (type_namespace m c.args.row) (type_name m c.args.row) _ 46 refl dot_text within
    (subst IsApart c.text-namespace.ensures c.put_text-else-is_empty.ensures.apart)
    (puts_as (ap units_text c.text-namespace.ensures) c.put_text-else-is_empty.ensures.puts) c.put.ensures
    (puts_as (ap units_text c.text-name.ensures) c.put_text-else-is_empty-2.ensures.puts)

pub returns-else-is_empty-clause-apart : goal.returns-else-is_empty-clause-apart
returns-else-is_empty-clause-apart g c =
    let m = module_of c.args.image.now in
    let some : 0 < length c.text-namespace.result.now = not_empty (length c.text-namespace.result.now) c.is_empty.result c.is_empty.ensures c.if-is_empty.false in
    let within = within_namespace c.text-namespace.result.now (type_namespace m c.args.row) (type_name m c.args.row) c.text-namespace.utf8 some (sym c.text-namespace.ensures) in
    apart_whole (type_namespace m c.args.row) (type_name m c.args.row) _ 46 refl within
    (subst IsApart c.text-namespace.ensures c.put_text-else-is_empty.ensures.apart)
    (subst IsApart c.text-name.ensures c.put_text-else-is_empty-2.ensures.apart)
