use Rattle.std.proofs.Common.{◌≡◌, ℕ, true, false, List, Some, None, Ok, Err, refl, sym, ap, ◌∙◌}
use Rattle.std.specs.Str.{is_utf8}
use Rattle.host_script.specs.LineForm.{Before, before_of, line_reading, spoken}
use Rattle.host_script.specs.Lines.{is_passed_over}
use Rattle.host_script.specs.Outcome.{GivesFault}
use Rattle.host_script.specs.Words.{words, texts}
use Rattle.host_script.specs.declared.cause.LineCause.{LineCause}
use Rattle.host_script.specs.declared.cause.LineCause.TheVariants.{NotUtf8}
use Rattle.host_script.specs.declared.cause.LineFault.{LineFault}
use Rattle.host_script.specs.declared.cause.LineFault.TheVariants.{Cause, OutOfMemory}
use Rattle.host_script.specs.declared.line_form.LineForm.{LineForm}
use Rattle.host_script.proofs.line_form.line_form.Goals as goal

module _ (above : Before) (line : List ℕ) where
  passed : is_passed_over line ≡ true → line_reading above line ≡ Ok None
  unfolding line_reading
  passed e = rw e refl

  no_text : is_passed_over line ≡ false → is_utf8 line ≡ false → line_reading above line ≡ Err NotUtf8
  unfolding line_reading
  no_text e not = rw (e, not) refl

  module _ (e : is_passed_over line ≡ false) (utf8 : is_utf8 line ≡ true) (ws : List (List ℕ)) (split : ws ≡ words line) where
    read : (form : LineForm) → spoken above ws ≡ Ok form → line_reading above line ≡ Ok (Some form)
    unfolding line_reading
    read form is = let said : spoken above (words line) ≡ Ok form = ap (spoken above) (sym split) ∙ is in rw (e, utf8, said) refl

    refused : (cause : LineCause) → spoken above ws ≡ Err cause → line_reading above line ≡ Err cause
    unfolding line_reading
    refused cause is = let said : spoken above (words line) ≡ Err cause = ap (spoken above) (sym split) ∙ is in rw (e, utf8, said) refl

    not_read : (fault : LineFault) → GivesFault fault (spoken above ws) → GivesFault fault (line_reading above line)
    not_read (Cause cause) is = refused cause is
    not_read OutOfMemory is = tt

pub returns-then-is_passed_over : goal.returns-then-is_passed_over
returns-then-is_passed_over c = passed (before_of c.args.above.now) c.args.line.now (sym c.if-is_passed_over.ensures)

pub returns-then-not-is_utf8 : goal.returns-then-not-is_utf8
returns-then-not-is_utf8 c =
    no_text (before_of c.args.above.now) c.args.line.now (sym c.if-is_passed_over.ensures) (sym c.if-not-is_utf8.ensures)

pub returns-in-Ok-spoken : goal.returns-in-Ok-spoken
returns-in-Ok-spoken c =
    read (before_of c.args.above.now) c.args.line.now (sym c.if-is_passed_over.ensures) (sym c.if-not-is_utf8.ensures)
    (texts c.deref.result.now) (ap texts c.deref.ensures.value ∙ c.in-Ok.ensures) c.in-Ok-spoken.form c.in-Ok-spoken.ensures

pub returns : goal.returns
returns c =
    not_read (before_of c.args.above.now) c.args.line.now (sym c.if-is_passed_over.ensures) (sym c.if-not-is_utf8.ensures)
    (texts c.deref.result.now) (ap texts c.deref.ensures.value ∙ c.in-Ok.ensures) c.in-Err.fault c.in-Err.ensures
