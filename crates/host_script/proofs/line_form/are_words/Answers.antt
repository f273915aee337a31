use Rattle.std.proofs.Common.{◌≡◌, ℕ, ◌+◌, ◌<◌, true, List, [], length, drop, refl, sym, ap, ◌∙◌}
use Rattle.std.specs.List.{list_all}
use Rattle.std.proofs.lemmas.List.{drop_more, length-map}
use Rattle.host_script.specs.LineForm.{is_word}
use Rattle.host_script.specs.Words.{texts, word}
use Rattle.host_script.proofs.line_form.are_words.Goals as goal

next_word : (ws : List (List ℕ)) (at : ℕ) → at < length ws → list_all is_word ws ≡ list_all is_word (drop at ws) →
    is_word (word ws at) ≡ true → list_all is_word ws ≡ list_all is_word (drop (at + 1) ws)
next_word ws at lt is one = is ∙ rw (drop_more ws at [] lt, one) refl

pub loop-at-preserved : goal.loop-at-preserved
loop-at-preserved c =
    let within : c.loop-at.at < length (texts c.args.words.now) =
    rw (length-map c.args.words.now (λ w. w.now)) c.loop-at-test.true in
    next_word (texts c.args.words.now) c.loop-at.at within c.loop-at.invariant
    (ap is_word (sym c.word.ensures) ∙ sym c.in_ok-is_word.ensures ∙ c.if-not-branch.false)
