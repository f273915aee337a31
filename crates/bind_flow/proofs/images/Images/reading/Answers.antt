use Rattle.std.proofs.Common.{◌≡◌, ◌∙◌, ap, sym, subst, ℕ, List, length, get_or, Some, suc, refl, arith}
use Rattle.std.specs.List.{slice_get}
use Rattle.std.proofs.lemmas.Option.{slice_get_read}
use Rattle.assembly_image.specs.Reading.{FileReading}
use Rattle.bind_flow.specs.Images.{reading_at}
use Rattle.bind_flow.specs.Readings.{meaning}
use Rattle.bind_flow.proofs.FlowLemmas.{reading_of_file}
use Rattle.bind_flow.proofs.images.Images.reading.Goals as goal

pub returns : goal.returns
returns c =
    let h = c.in_ok-file.ensures.lookup in
    let files = c.self.inside.files.items in
    let k : ℕ = c.in_ok-checked_sub.field-0 in
    let image : c.args.image ≡ suc k = omega (arith, c.checked_sub.ensures, c.in_ok-checked_sub.ensures) in
    let at : slice_get files k ≡ Some c.in_ok-file.file.now =
    slice_get_read files (length files) k c.in_ok-file.file.now refl (omega (arith, h.3.0, ap length c.deref.ensures.value))
    (h.1 ∙ ap (λ xs. get_or xs k c.in_ok-file.file.now) c.deref.ensures.value) in
    subst (λ (readings : List FileReading). Some (meaning c.in_ok-file.file.now.reading) ≡ reading_at readings c.args.image) c.self.view_is
    (sym (reading_of_file files c.args.image k c.in_ok-file.file.now image at))
