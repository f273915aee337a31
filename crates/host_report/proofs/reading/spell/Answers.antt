use Rattle.std.proofs.Common.{false, true, refl, sym, ◌∙◌}
use Rattle.host_report.specs.Fields.{front_text, line_text}
use Rattle.host_report.specs.Told.{told_fields}
use Rattle.host_report.proofs.LineLemmas.{put_whole, whole_appended}
use Rattle.host_report.proofs.ReadingLemmas.{compared, put_alone}
use Rattle.host_report.proofs.reading.spell.Goals as goal

pub returns-then-not-is_line : goal.returns-then-not-is_line
returns-then-not-is_line c =
    let fields = told_fields c.args.told.now in
    let put = put_whole c.clear.ensures.failed c.clear.ensures.waiting c.put_told.ensures c.flush.ensures.puts refl in
    let fine = sym c.has_failed.ensures ∙ c.if-has_failed.false in
    let whole = whole_appended fine c.flush.ensures.waiting put in
    let text = c.as_slice.ensures.value ∙ put_alone _ _ (line_text fields) c.clear-2.ensures.items whole in
    compared c.args.told.now c.args.line.now false (sym (c.is_line.ensures (front_text fields) text) ∙ c.if-not-is_line.true)

pub returns : goal.returns
returns c =
    let fields = told_fields c.args.told.now in
    let put = put_whole c.clear.ensures.failed c.clear.ensures.waiting c.put_told.ensures c.flush.ensures.puts refl in
    let fine = sym c.has_failed.ensures ∙ c.if-has_failed.false in
    let whole = whole_appended fine c.flush.ensures.waiting put in
    let text = c.as_slice.ensures.value ∙ put_alone _ _ (line_text fields) c.clear-2.ensures.items whole in
    compared c.args.told.now c.args.line.now true (sym (c.is_line.ensures (front_text fields) text) ∙ c.if-not-is_line.false)
