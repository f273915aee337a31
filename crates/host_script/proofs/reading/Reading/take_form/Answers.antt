use Rattle.std.proofs.Common.{◌≡◌, subst, sym}
use Rattle.std.specs.Prelude.{OnOk}
use Rattle.host_script.specs.State.{kept_of, with_form}
use Rattle.host_script.specs.declared.line_form.LineForm.{LineForm}
use Rattle.host_script.proofs.reading.Reading.take_form.Goals as goal

pub returns-in-Thread : goal.returns-in-Thread
returns-in-Thread c =
    let P : LineForm → Type 0 = λ form.
    OnOk c.take_thread.result (kept_of c.take_thread.new.self ≡ with_form (kept_of c.args.self.now) c.args.number form) in
    subst P (sym c.in-Thread.is) (c.take_thread.ensures c.args.number)
