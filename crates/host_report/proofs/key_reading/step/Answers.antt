use Rattle.std.proofs.Common.{◌≡◌, ℕ, ◌+◌, ◌-◌, Bool, true, List, ◌∷◌, Some, take, drop, get_or, sym, ◌∙◌, ap, arith}
use Rattle.std.specs.Prelude.{if◌then◌else◌}
use Rattle.host_report.specs.KeyReading.{KeyDraft, drafted, is_mark, marked, stepped, wordless}
use Rattle.host_report.proofs.KeyReadingLemmas.{word_goes_on}
use Rattle.host_report.proofs.key_reading.step.Goals as goal

-- a mark was taken, and no word stands before it
mark_taken : (byte : ℕ) (word : List ℕ) (draft new : KeyDraft) (at : ℕ) (text : List ℕ) →
    is_mark byte ≡ true → marked byte word draft ≡ Some new → stepped byte word draft ≡ Some (take (at - at) text, new)
mark_taken byte word draft new at text is taken =
    let none : 0 ≡ at - at = omega arith in
    ap (λ (test : Bool). if test then wordless (marked byte word draft) else Some (byte ∷ word, draft)) is
    ∙ ap wordless taken
    ∙ ap (λ (n : ℕ). Some (take n text, new)) none

pub returns-then-not-is_mark-clause-taken : goal.returns-then-not-is_mark-clause-taken
returns-then-not-is_mark-clause-taken c =
    word_goes_on c.args.text.now c.args.at c.args.end (drafted c.args.draft.now) c.requires.before c.requires.within
    (sym c.is_mark.ensures ∙ c.if-not-is_mark.true)

pub returns-clause-taken : goal.returns-clause-taken
returns-clause-taken c =
    mark_taken (get_or c.args.text.now c.args.at 0) (take (c.args.end - (c.args.at + 1)) (drop (c.args.at + 1) c.args.text.now))
    (drafted c.args.draft.now) _ c.args.at (drop c.args.at c.args.text.now)
    (sym c.is_mark.ensures ∙ c.if-not-is_mark.false) c.in_ok-take_mark.ensures
