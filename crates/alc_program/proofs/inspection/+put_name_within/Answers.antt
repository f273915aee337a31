use Rattle.std.proofs.Common.{◌≡◌, ◌-◌, ◌∙◌, ap, sym, subst, refl, arith, rules, None}
use Rattle.assembly_image.specs.Names.{encloser, full_name_within, qualified, type_name, type_namespace}
use Rattle.assembly_image.specs.Reading.{module_of}
use Rattle.host_report.specs.Quote.{units_text, IsApart}
use Rattle.alc_program.proofs.InspectionLemmas.{apart_whole, named_alone, named_first, named_inside, puts_joined, slash_text}
use Rattle.host_report.proofs.LineLemmas.{puts_as}
use Rattle.alc_program.proofs.inspection.+put_name_within.Goals as goal
use Rattle.alc_program.proofs.inspection.+put_name_within.Goals.{in_default-via-in-Some+else-most-gt0, in_default-via-in_default}

pub returns-in-Some-clause-puts : goal.returns-in-Some-clause-puts
returns-in-Some-clause-puts g t c =
    let m = module_of c.args.image.now in
    let inside = named_inside m c.args.most c.args.row c.in-Some.outer (omega arith) (sym c.encloser.ensures ∙ c.in-Some.is) in
    puts_joined (full_name_within m (c.args.most - 1) c.in-Some.outer) (type_name m c.args.row) _ 47 refl slash_text inside
    c.put_name_within.ensures.apart c.put_name_within.ensures.puts c.put.ensures
    (puts_as (ap units_text c.text.ensures) c.put_text.ensures.puts)

pub returns-in-Some-clause-apart : goal.returns-in-Some-clause-apart
returns-in-Some-clause-apart g t c =
    let m = module_of c.args.image.now in
    let inside = named_inside m c.args.most c.args.row c.in-Some.outer (omega arith) (sym c.encloser.ensures ∙ c.in-Some.is) in
    apart_whole (full_name_within m (c.args.most - 1) c.in-Some.outer) (type_name m c.args.row) _ 47 refl inside
    c.put_name_within.ensures.apart (subst IsApart c.text.ensures c.put_text.ensures.apart)

pub returns-in_default-clause-puts : goal.returns-in_default-clause-puts
returns-in_default-clause-puts g t c =
    let m = module_of c.args.image.now in
    let alone : full_name_within m c.args.most c.args.row ≡ qualified (type_namespace m c.args.row) (type_name m c.args.row) =
    elim c.in_default.branch [
      | in_default-via-in-Some+else-most-gt0 w ↦ named_first m c.args.most c.args.row (omega arith)
      | in_default-via-in_default w ↦ (let none : encloser m c.args.row ≡ None = search rules in named_alone m c.args.most c.args.row none)
    ] in
    puts_as (ap units_text (sym alone)) c.put_qualified.ensures.puts

pub returns-in_default-clause-apart : goal.returns-in_default-clause-apart
returns-in_default-clause-apart g t c =
    let m = module_of c.args.image.now in
    let alone : full_name_within m c.args.most c.args.row ≡ qualified (type_namespace m c.args.row) (type_name m c.args.row) =
    elim c.in_default.branch [
      | in_default-via-in-Some+else-most-gt0 w ↦ named_first m c.args.most c.args.row (omega arith)
      | in_default-via-in_default w ↦ (let none : encloser m c.args.row ≡ None = search rules in named_alone m c.args.most c.args.row none)
    ] in
    subst IsApart (sym alone) c.put_qualified.ensures.apart
