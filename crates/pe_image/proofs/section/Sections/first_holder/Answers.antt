use Rattle.std.proofs.Common.{◌+◌, ◌*◌, sym, arith}
use Rattle.std.proofs.lemmas.Bool.Decides.{nat_tests}
use Rattle.pe_image.specs.Section.{holds}
use Rattle.pe_image.proofs.Finds.{find-nowhere}
use Rattle.pe_image.proofs.section.Sections.first_holder.Goals as goal

pub returns-then-bytes-first : goal.returns-then-bytes-first
returns-then-bytes-first c =
    sym (find-nowhere (holds c.args.bytes.now c.args.rva c.args.len) (λ n. c.args.self.now.at + 40 * n) 0 c.args.self.now.count
    (λ k. grind (arith, nat_tests)))
