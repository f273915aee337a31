use Rattle.std.proofs.Common.{◌≡◌, ◌<◌, ◌+◌, length, take, drop, ◌∷◌, arith, sym, ◌-◌, ℕ, List, [], ◌∙◌}
use Rattle.std.proofs.lemmas.List.{take_rest}
use Rattle.host_script.specs.Lines.{lines, without_cr}
use Rattle.host_script.proofs.ByteLemmas.{place_within}
use Rattle.host_script.proofs.LineLemmas.{line_at, last_line, line_len, is_end}
use Rattle.host_script.proofs.line.first_line.Goals as goal

whole : (bs : List ℕ) (end : ℕ) → end ≡ line_len bs → end ≡ length bs → 0 < length bs → lines bs ≡ bs ∷ []
whole bs end is all some = last_line bs (sym is ∙ all) some

cut : (bs line : List ℕ) (end : ℕ) → end ≡ line_len bs → (end ≡ length bs → ⊥) → line ≡ without_cr (take end bs) →
    lines bs ≡ line ∷ lines (take (length bs - (end + 1)) (drop (end + 1) bs))
cut bs line end is short said =
    let within = place_within is_end bs in
    let less : line_len bs < length bs = omega arith in
    let found = line_at bs less in
    rw (said, is, take_rest bs (line_len bs + 1)) found

pub returns-then-end-bytes-clause-line : goal.returns-then-end-bytes-clause-line
returns-then-end-bytes-clause-line c =
    whole c.args.bytes.now c.first_at-end.result c.first_at-end.ensures.place c.if-end-bytes.true c.requires

pub returns-clause-line : goal.returns-clause-line
returns-clause-line c =
    cut c.args.bytes.now c.without_cr.result.now c.first_at-end.result c.first_at-end.ensures.place c.if-end-bytes.false
    c.without_cr.ensures
