use Rattle.std.proofs.Common.{◌≡◌, ℕ, ◌+◌, List, map, Option, Some, None, Vec, Global, ap, ◌∙◌}
use Rattle.std.specs.Option.{option_map}
use Rattle.std.specs.List.{position}
use Rattle.std.specs.Str.{bytes_eq}
use Rattle.host_script.specs.Images.{names, number}
use Rattle.host_script.specs.declared.images.ImageLine.{ImageLine}
use Rattle.host_script.proofs.ImageLemmas.{seen, same_place}
use Rattle.host_script.proofs.images.ImageLines.number.Goals as goal

numbered : (name : List ℕ) (entries : List (Vec ℕ Global × ImageLine)) (images : List (List ℕ × ImageLine))
    (index : Option ℕ) → seen entries ≡ images →
    index ≡ position (λ k. bytes_eq name k.items) (map (λ e. e.0) entries) →
    option_map (λ i. i + 1) index ≡ number (names images) name
numbered name entries images index is found =
    ap (option_map (λ i. i + 1)) (found ∙ same_place name entries) ∙ ap (λ m. number (names m) name) is

pub returns-in_err-index : goal.returns-in_err-index
returns-in_err-index c =
    c.from_residual.ensures
    ∙ numbered c.args.name.now c.self.inside.by_name.entries c.args.self.now None c.self.view_is c.in_err-index.ensures.index

pub returns : goal.returns
returns c =
    numbered c.args.name.now c.self.inside.by_name.entries c.args.self.now (Some c.in_ok-index.index) c.self.view_is
    c.in_ok-index.ensures.index
