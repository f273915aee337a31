use Rattle.std.proofs.Common.{[], ◌∷◌, ◌++◌, Ok, ap, subst, sym, ◌∙◌}
use Rattle.host_script.specs.LineForm.{first_of, line_reading}
use Rattle.host_script.specs.Words.{words}
use Rattle.host_script.specs.State.{Kept, kept_of, before_in, with_form, IsStateOf}
use Rattle.host_script.proofs.StateLemmas.{taken, taken_none}
use Rattle.host_script.proofs.SaidLemmas.{says, can_take}
use Rattle.host_script.proofs.reading.Reading.take_line.Goals as goal

pub take_form-requires : goal.take_form-requires
take_form-requires c =
    can_take (kept_of c.args.self.now) (first_of c.args.line.now) (words c.args.line.now) c.in-Some.form
    (says (before_in (kept_of c.args.self.now)) c.args.line.now c.in-Some.form
    (c.in_ok-line_form.ensures ∙ ap Ok c.in-Some.is))

pub returns-in-None : goal.returns-in-None
returns-in-None c lines state number =
    taken_none lines c.args.line.now (kept_of c.args.self.now) state
    (ap (λ b. line_reading b c.args.line.now) (sym state.above) ∙ c.in_ok-line_form.ensures ∙ ap Ok c.in-None.is)

pub returns-in-Ok : goal.returns-in-Ok
returns-in-Ok c lines state number =
    let read = ap (λ b. line_reading b c.args.line.now) (sym state.above) ∙ c.in_ok-line_form.ensures ∙ ap Ok c.in-Some.is in
    let kept = c.in-Ok.ensures ∙ ap (λ n. with_form (kept_of c.args.self.now) n c.in-Some.form) number in
    let P : Kept → Type 0 = λ k. IsStateOf k (lines ++ c.args.line.now ∷ []) in
    subst P (sym kept) (taken lines c.args.line.now (kept_of c.args.self.now) state c.in-Some.form read)
