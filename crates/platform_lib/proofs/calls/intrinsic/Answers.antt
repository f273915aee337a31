use Rattle.std.proofs.Common.{◌+◌, option_map, sym, ap, ◌∙◌}
use Rattle.platform_lib.proofs.calls.intrinsic.Goals as goal

pub returns-in-Some : goal.returns-in-Some
returns-in-Some c = ap (λ o. option_map (λ place. place + 1) o) (sym c.in-Some.is ∙ c.place_of.ensures.place)

pub returns-in-None : goal.returns-in-None
returns-in-None c = ap (λ o. option_map (λ place. place + 1) o) (sym c.in-None.is ∙ c.place_of.ensures.place)
