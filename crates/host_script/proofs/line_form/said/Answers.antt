use Rattle.std.proofs.Common.{◌≡◌, ℕ, true, false, List, length, Some, None, Ok, Err, refl, sym, ap, ◌∙◌}
use Rattle.std.proofs.lemmas.List.{length-map}
use Rattle.host_script.specs.Form.{form_of}
use Rattle.host_script.specs.LineForm.{Before, before_of, said, said_in, row, is_due, has_room}
use Rattle.host_script.specs.Outcome.{GivesFault}
use Rattle.host_script.specs.Words.{texts}
use Rattle.host_script.specs.declared.cause.LineCause.TheVariants.{Place, Arity, TooMany}
use Rattle.host_script.specs.declared.cause.LineFault.{LineFault}
use Rattle.host_script.specs.declared.cause.LineFault.TheVariants.{Cause, OutOfMemory}
use Rattle.host_script.specs.declared.first_word.FirstWord.{FirstWord}
use Rattle.host_script.specs.declared.form.Form.{Form}
use Rattle.host_script.specs.declared.line_form.LineForm.{LineForm}
use Rattle.host_script.proofs.line_form.said.Goals as goal

module _ (above : Before) (first : FirstWord) (ws : List (List ℕ)) where
  not_due : is_due above first ≡ false → said above first ws ≡ Err Place
  not_due e = rw e refl

  module _ (due : is_due above first ≡ true) where
    no_form : form_of first ws ≡ None → said above first ws ≡ Err Arity
    no_form e = rw (due, e) refl

    module _ (form : Form) (is : form_of first ws ≡ Some form) where
      formed : said above first ws ≡ said_in above form ws
      formed = rw (due, is) refl

      refused : (fault : LineFault) → GivesFault fault (row above form ws) → GivesFault fault (said above first ws)
      refused (Cause cause) e = formed ∙ rw e refl
      refused OutOfMemory e = tt

      module _ (line : LineForm) (reads : row above form ws ≡ Ok line) where
        full : has_room above form (length ws) ≡ false → said above first ws ≡ Err TooMany
        full e = formed ∙ rw (reads, e) refl

        read : has_room above form (length ws) ≡ true → said above first ws ≡ Ok line
        read e = formed ∙ rw (reads, e) refl

pub returns-then-not-is_due : goal.returns-then-not-is_due
returns-then-not-is_due c =
    not_due (before_of c.args.above.now) c.args.first (texts c.args.words.now) (sym c.if-not-is_due.ensures)

pub returns-in_default : goal.returns-in_default
returns-in_default c =
    no_form (before_of c.args.above.now) c.args.first (texts c.args.words.now) (sym c.if-not-is_due.ensures)
    (sym c.in_default.ensures)

pub returns-then-not-has_room : goal.returns-then-not-has_room
returns-then-not-has_room c =
    let count = ap (has_room (before_of c.args.above.now) c.in-Some.form) (length-map c.args.words.now (λ w. w.now)) in
    full (before_of c.args.above.now) c.args.first (texts c.args.words.now) (sym c.if-not-is_due.ensures) c.in-Some.form
    (sym c.in-Some.ensures) c.in_ok-line.line c.in_ok-line.ensures (count ∙ sym c.if-not-has_room.ensures)

pub returns : goal.returns
returns c =
    let count = ap (has_room (before_of c.args.above.now) c.in-Some.form) (length-map c.args.words.now (λ w. w.now)) in
    read (before_of c.args.above.now) c.args.first (texts c.args.words.now) (sym c.if-not-is_due.ensures) c.in-Some.form
    (sym c.in-Some.ensures) c.in_ok-line.line c.in_ok-line.ensures (count ∙ sym c.if-not-has_room.ensures)
