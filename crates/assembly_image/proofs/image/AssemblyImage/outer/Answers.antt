use Rattle.std.proofs.Common.{◌≡◌, ◌+◌, ◌-◌, ◌<◌, List, ℕ, length, get_or, subst, sym, ap, ◌∙◌, arith}
use Rattle.std.specs.Option.{unwrap_or}
use Rattle.std.proofs.lemmas.Option.{slice_get_within, get_or_from_slice_get}
use Rattle.assembly_image.specs.Names.{encloser}
use Rattle.assembly_image.specs.Reading.{module_of}
use Rattle.assembly_image.specs.Image.{AreEnclosers}
use Rattle.assembly_image.proofs.image.AssemblyImage.outer.Goals as goal

pub bounds-as_slice-row : goal.bounds-as_slice-row
bounds-as_slice-row c =
    let known = subst (λ (bytes : List ℕ). AreEnclosers bytes c.self.inside.enclosers.items) c.self.view_is c.self.invariant.rest.enclosed in
    let told = known (c.args.row - 1) (omega (arith, c.requires.first, c.requires.last)) in
    subst (λ (rows : List ℕ). c.args.row - 1 < length rows) (sym c.as_slice.ensures.value) (slice_get_within _ (c.args.row - 1) _ told)

pub returns : goal.returns
returns c =
    let known = subst (λ (bytes : List ℕ). AreEnclosers bytes c.self.inside.enclosers.items) c.self.view_is c.self.invariant.rest.enclosed in
    let same : c.args.row - 1 + 1 ≡ c.args.row = omega (arith, c.requires.first) in
    let told = known (c.args.row - 1) (omega (arith, c.requires.first, c.requires.last)) in
    ap (λ (rows : List ℕ). get_or rows (c.args.row - 1) 0) c.as_slice.ensures.value ∙ get_or_from_slice_get _ (c.args.row - 1) _ 0 told
    ∙ ap (λ (row : ℕ). unwrap_or (encloser (module_of c.args.self.now) row) 0) same
