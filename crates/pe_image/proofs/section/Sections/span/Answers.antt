use Rattle.std.proofs.Common.{◌∙◌, sym}
use Rattle.pe_image.specs.Section.{holds, headers}
use Rattle.pe_image.proofs.Finds.{find-passes}
use Rattle.pe_image.proofs.section.Sections.span.Goals as goal

pub span_from-requires : goal.span_from-requires
span_from-requires c =
    find-passes (holds c.args.bytes.now c.args.rva c.args.len) (headers c.args.self.now.at c.args.self.now.count) c.in_ok-header.header
    (sym c.in_ok-header.was ∙ c.first_holder.ensures)
