use Rattle.std.proofs.Common.{◌≡◌, ◌≤◌, ◌/◌, ◌%◌, ◌^◌, ℕ, false, refl, sym, subst, ◌∙◌}
use Rattle.assembly_image.specs.Module.{has_row}
use Rattle.assembly_image.specs.Reading.{module_of}
use Rattle.assembly_image.proofs.ImageLemmas.{no_rows}
use Rattle.assembly_image.proofs.image.AssemblyImage.token.Goals as goal
use Rattle.assembly_image.proofs.image.AssemblyImage.token.Goals.{then-from-ge-TABLE_COUNT-via-then-from-ge-TABLE_COUNT, then-from-ge-TABLE_COUNT-via-else-from-ge-TABLE_COUNT+then-not-has_row}

pub returns-then-from-ge-TABLE_COUNT : goal.returns-then-from-ge-TABLE_COUNT
returns-then-from-ge-TABLE_COUNT c =
    let token = c.args.token in
    let gone : has_row (module_of c.args.self.now) (token / 2 ^ 24) (token % 2 ^ 24) ≡ false =
    elim c.then-from-ge-TABLE_COUNT.branch [
      | then-from-ge-TABLE_COUNT-via-then-from-ge-TABLE_COUNT w ↦
          no_rows c.args.self.now (token / 2 ^ 24) (token % 2 ^ 24) 0
          (subst (λ (t : ℕ). 45 ≤ t) c.from.ensures w.if-from-ge-TABLE_COUNT.true)
      | then-from-ge-TABLE_COUNT-via-else-from-ge-TABLE_COUNT+then-not-has_row w ↦
          sym w.has_row.ensures ∙ w.if-not-has_row.true
    ] in
    rw gone refl
