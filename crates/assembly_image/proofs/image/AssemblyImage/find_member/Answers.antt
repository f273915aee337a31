use Rattle.std.proofs.Common.{◌≡◌, ℕ, List, true, sym, ap, ◌∙◌, arith}
use Rattle.std.specs.Str.{bytes_eq}
use Rattle.std.specs.declared.ops.Range.{Range}
use Rattle.assembly_image.specs.Members.{member_name, member_range, name_of_kind}
use Rattle.assembly_image.specs.Module.{text}
use Rattle.assembly_image.specs.Reading.{module_of}
use Rattle.assembly_image.proofs.MemberLemmas.{rows_are, member_first, member_none}
use Rattle.assembly_image.proofs.image.AssemblyImage.find_member.Goals as goal

pub returns-then-spells : goal.returns-then-spells
returns-then-spells c =
    let m = module_of c.args.self.now in
    let n = c.loop-n.n in
    let range = member_range m c.args.kind c.args.row in
    let first : c.members-rows.result.start ≡ range.start = ap (λ (r : Range ℕ). r.start) c.members-rows.ensures.value in
    let end : c.members-rows.result.end ≡ range.end = ap (λ (r : Range ℕ). r.end) c.members-rows.ensures.value in
    let named : bytes_eq (member_name m c.args.kind n) c.args.name.now ≡ true =
    ap (λ (table : ℕ). bytes_eq (text m table n (name_of_kind c.args.kind)) c.args.name.now) (sym c.table.ensures)
    ∙ ap (λ (k : ℕ). bytes_eq (text m c.table.result n k) c.args.name.now) (sym c.name.ensures)
    ∙ ap (λ (us : List ℕ). bytes_eq us c.args.name.now) (sym c.text.ensures)
    ∙ sym c.spells.ensures ∙ c.if-spells.true in
    sym (member_first m c.args.kind c.args.row c.args.from c.args.name.now range.start range.end
    (rows_are m c.args.kind c.args.row) n (omega arith) (omega arith) (omega arith) named c.loop-n.invariant)

pub returns : goal.returns
returns c =
    let m = module_of c.args.self.now in
    let range = member_range m c.args.kind c.args.row in
    let end : c.members-rows.result.end ≡ range.end = ap (λ (r : Range ℕ). r.end) c.members-rows.ensures.value in
    sym (member_none m c.args.kind c.args.row c.args.from c.args.name.now range.start range.end
    (rows_are m c.args.kind c.args.row) c.loop-n.n (omega arith) c.loop-n.invariant)
