use Rattle.std.proofs.Common.{◌≡◌, ◌++◌, ℕ, ◌<◌, Bool, List, [], sym, ◌∙◌, ap, append-nil, arith, reverse}
use Rattle.std.specs.Prelude.{◌==◌, if◌then◌else◌}
use Rattle.std.proofs.lemmas.Bool.{ne_eqb}
use Rattle.signatures.specs.declared.key.KeyPart.{KeyPart}
use Rattle.signatures.specs.Keys.{key_arity}
use Rattle.host_report.specs.KeySteps.{ending, endings, opening}
use Rattle.host_report.proofs.LineLemmas.{puts_as, puts_then}
use Rattle.host_report.proofs.key_text.put_part.Goals as goal

-- a part that is made of some ends no type, and one of nothing does
goes_on : (before : List KeyPart) (part : KeyPart) (n : ℕ) → n ≡ key_arity part → 0 < n → [] ≡ ending before part
goes_on before part n is some =
    sym (ap (λ (test : Bool). if test then endings 1 before else []) (ne_eqb n 0 (λ e. omega arith)))
    ∙ ap (λ (k : ℕ). if k == 0 then endings 1 before else []) is

ends : (before : List KeyPart) (part : KeyPart) (n : ℕ) → n ≡ key_arity part → n ≡ 0 → endings 1 before ≡ ending before part
ends before part n is none = ap (λ (k : ℕ). if k == 0 then endings 1 before else []) (sym none ∙ is)

pub returns-then-arity-gt0 : goal.returns-then-arity-gt0
returns-then-arity-gt0 g c =
    let none = goes_on (reverse c.args.before.now) c.args.part _ c.arity.ensures (omega arith) in
    puts_as (sym (append-nil (opening c.args.part)) ∙ ap (λ text. opening c.args.part ++ text) none) c.put_opening.ensures

pub returns : goal.returns
returns g c =
    puts_then c.put_opening.ensures (puts_as (ends (reverse c.args.before.now) c.args.part _ c.arity.ensures (omega arith)) c.put_endings.ensures)
