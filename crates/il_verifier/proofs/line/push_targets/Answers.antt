use Rattle.std.proofs.Common.{◌≡◌, ℕ, ℤ, ◌+◌, ◌*◌, ◌/◌, ◌++◌, Option, [], ◌∷◌, map, pos, ◌+ℤ◌, ap, ◌∙◌, arith}
use Rattle.std.specs.Int.{w32, cast_signed}
use Rattle.std.specs.List.{range_with_len}
use Rattle.cli_words.specs.Number.{number_at}
use Rattle.il_verifier.specs.Lines.{begun}
use Rattle.il_verifier.proofs.Targets.{targets-more}
use Rattle.il_verifier.proofs.line.push_targets.Goals as goal

pub loop-n-preserved : goal.loop-n-preserved
loop-n-preserved c =
    let g : ℤ → Option ℕ = λ distance. begun c.args.begins.now (pos c.args.end +ℤ distance) in
    let f : ℕ → ℤ = λ n. cast_signed w32 (number_at w32 c.args.code.now (c.args.span.at + 4 * n)) in
    c.in_ok-push.ensures.items
    ∙ (ap (λ (b : Option ℕ). c.loop-n.goes.items ++ b ∷ []) c.target.ensures
    ∙ targets-more g f c.args.goes.now.items c.loop-n.goes.items c.loop-n.n c.loop-n.invariant)

pub returns : goal.returns
returns c =
    let g : ℤ → Option ℕ = λ distance. begun c.args.begins.now (pos c.args.end +ℤ distance) in
    let f : ℕ → ℤ = λ n. cast_signed w32 (number_at w32 c.args.code.now (c.args.span.at + 4 * n)) in
    let all : c.loop-n.n ≡ c.args.span.len / 4 = omega arith in
    c.loop-n.invariant
    ∙ ap (λ (n : ℕ). c.args.goes.now.items ++ map g (map f (range_with_len 0 n))) all
