use Rattle.std.proofs.Common.{sym, subst}
use Rattle.pe_image.specs.Section.{IsFirstSpan}
use Rattle.pe_image.proofs.Finds.{span_of-first}
use Rattle.pe_image.proofs.pe.Pe.at.Goals as goal

pub returns-clause-first : goal.returns-clause-first
returns-clause-first c =
    subst (IsFirstSpan c.args.bytes.now c.args.self.now.sections_at c.args.self.now.sections c.args.rva c.args.len)
    (sym c.span.ensures.span) (span_of-first c.args.bytes.now _ _ _ _)
