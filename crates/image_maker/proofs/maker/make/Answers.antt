use Rattle.std.proofs.Common.{List, ℕ, ◌∙◌, subst, sym}
use Rattle.image_maker.specs.Made.{IsMade}
use Rattle.image_maker.proofs.MadeModule.{is_made}
use Rattle.image_maker.proofs.maker.make.Goals as goal

pub returns-in-Ok-clause-made : goal.returns-in-Ok-clause-made
returns-in-Ok-clause-made c =
    let m = c.args.source.now in
    let limit = sym c.limit.ensures ∙ c.in_default.is in
    subst (λ (bytes : List ℕ). IsMade m bytes) (sym c.in-Ok.ensures.1) (is_made m c.requires limit c.in-Ok.ensures.0)
