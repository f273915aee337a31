use Rattle.std.proofs.Common.{◌≡◌, List, ℕ, Option, Vec, Global, map, length, subst}
use Rattle.std.specs.List.{range_with_len}
use Rattle.std.proofs.lemmas.Result.{IfOk-weaker}
use Rattle.il_reader.specs.Offsets.{AreBoundaries}
use Rattle.il_verifier.specs.declared.line.Line.{Line}
use Rattle.il_verifier.specs.Lines.{line_from, AreLines}
use Rattle.il_verifier.specs.Search.{LeadsInside}
use Rattle.il_verifier.proofs.Insides.{lines-inside}
use Rattle.il_verifier.proofs.line.lines.Goals as goal

pub returns : goal.returns
returns c =
    let facts = c.args.facts.now in
    let begins : List ℕ = c.in_ok-begins.begins in
    let bounds : AreBoundaries facts.code begins =
    subst (λ (code : List ℕ). AreBoundaries code begins) c.items.ensures c.in_ok-begins.ensures in
    record {
      lines = IfOk-weaker c.lines_from.result
          (λ (lines : Vec (Option Line) Global). lines.items ≡ map (line_from facts begins) (range_with_len 0 (length facts.code)))
          (λ (lines : Vec (Option Line) Global). AreLines facts lines.items)
          (λ lines is. (begins, bounds, is)) c.lines_from.ensures;
      inside = IfOk-weaker c.lines_from.result
          (λ (lines : Vec (Option Line) Global). lines.items ≡ map (line_from facts begins) (range_with_len 0 (length facts.code)))
          (λ (lines : Vec (Option Line) Global). LeadsInside lines.items)
          (λ lines is. lines-inside facts begins lines.items (c.boundaries_lie_in_the_code.ensures facts.code begins bounds) is)
          c.lines_from.ensures;
    }
