use Rattle.std.proofs.Common.{◌≡◌, ℕ, ◌++◌, ◌∷◌, [], Option, length, map, sym, ap, ◌∙◌, arith}
use Rattle.std.specs.List.{range_with_len}
use Rattle.std.proofs.lemmas.List.FromFn.{map-range_with_len_more}
use Rattle.il_verifier.specs.declared.line.Line.{Line}
use Rattle.il_verifier.specs.Lines.{line_from}
use Rattle.il_verifier.proofs.line.lines_from.Goals as goal

pub loop-at-preserved : goal.loop-at-preserved
loop-at-preserved c =
    let f : ℕ → Option Line = line_from c.args.facts.now c.args.begins.now in
    c.in_ok-push.ensures.items
    ∙ (ap (λ (line : Option Line). c.loop-at.lines.items ++ line ∷ []) c.in_ok-line_from.ensures
    ∙ (ap (λ lines. lines ++ f c.loop-at.at ∷ []) c.loop-at.invariant
    ∙ sym (map-range_with_len_more f 0 c.loop-at.at c.loop-at.at (omega arith))))

pub returns : goal.returns
returns c =
    let f : ℕ → Option Line = line_from c.args.facts.now c.args.begins.now in
    let len : length c.items-at-end.result.now ≡ length c.args.facts.now.code =
    ap length c.items-at-end.ensures in
    let all : c.loop-at.at ≡ length c.args.facts.now.code = omega (arith, len) in
    c.loop-at.invariant ∙ ap (λ (n : ℕ). map f (range_with_len 0 n)) all
