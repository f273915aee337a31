use Rattle.std.proofs.Common.{◌≡◌, ◌-◌, ap, sym, ◌∙◌, arith}
use Rattle.std.specs.List.{flat_map, range_with_len}
use Rattle.assembly_image.specs.Reading.{module_of}
use Rattle.alc_program.specs.Inspection.{member_text}
use Rattle.alc_program.proofs.InspectionLemmas.{listed_members, puts_row}
use Rattle.host_report.proofs.LineLemmas.{puts_as}
use Rattle.alc_program.proofs.inspection.put_members.Goals as goal

pub loop-n-preserved : goal.loop-n-preserved
loop-n-preserved g c = record {
  put = puts_row (member_text (module_of c.args.image.now) c.args.member) c.members-rows.result.start (c.loop-n.n - c.members-rows.result.start) _ _
      (omega arith) (omega arith) c.loop-n.invariant.put c.put_member.ensures;
  within = omega arith;
}

pub returns : goal.returns
returns g c =
    let count : c.loop-n.n - c.members-rows.result.start ≡ c.members-rows.result.end - c.members-rows.result.start = omega (arith, c.loop-n.invariant.within) in
    let text = member_text (module_of c.args.image.now) c.args.member in
    let rows = listed_members (module_of c.args.image.now) c.args.member c.args.row c.members-rows.result c.members-rows.ensures.value in
    puts_as (ap (λ n. flat_map text (range_with_len c.members-rows.result.start n)) count ∙ ap (flat_map text) (sym rows)) c.loop-n.invariant.put
