use Rattle.std.proofs.Common.{◌≡◌, ◌+◌, true, false, sym, ap, ◌∙◌, arith}
use Rattle.std.specs.Str.{bytes_eq}
use Rattle.assembly_image.specs.Module.{count}
use Rattle.assembly_image.specs.Names.{full_name}
use Rattle.assembly_image.specs.Reading.{module_of}
use Rattle.assembly_image.proofs.FindLemmas.{is_type_sought, none_more, find_none, find_first}
use Rattle.assembly_image.proofs.image.AssemblyImage.find_type.Goals as goal

pub returns-then-has_full_name : goal.returns-then-has_full_name
returns-then-has_full_name c =
    let m = module_of c.args.self.now in
    let row = c.loop-n.n + 1 in
    let sought = is_type_sought m c.args.full.now in
    let here : sought row ≡ true =
    ap (bytes_eq (full_name m row)) (sym c.units.ensures.units) ∙ sym c.has_full_name.ensures
    ∙ c.if-has_full_name.true in
    let within = c.types-n-end.ensures in
    sym (find_first sought 1 (count m 0x02) row (omega arith) (omega arith) here c.loop-n.invariant)

pub loop-n-preserved : goal.loop-n-preserved
loop-n-preserved c =
    let m = module_of c.args.self.now in
    let row = c.loop-n.n + 1 in
    let sought = is_type_sought m c.args.full.now in
    let here : sought row ≡ false =
    ap (bytes_eq (full_name m row)) (sym c.units.ensures.units) ∙ sym c.has_full_name.ensures
    ∙ c.if-has_full_name.false in
    none_more sought 1 row c.loop-n.invariant here

pub returns : goal.returns
returns c =
    let m = module_of c.args.self.now in
    let last = c.types-n-end.ensures in
    sym (find_none (is_type_sought m c.args.full.now) 1 (count m 0x02)
    (λ k low high. c.loop-n.invariant k low (omega arith)))
