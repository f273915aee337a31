use Rattle.std.proofs.Common.{◌≡◌, List, map, take, sym, subst, ap, ◌∙◌, arith}
use Rattle.std.proofs.lemmas.List.{take_all}
use Rattle.host_core.specs.declared.bounds.Share.{Share}
use Rattle.host_core.specs.Bounds.{CanSum}
use Rattle.alc_program.specs.Shares.{share_for}
use Rattle.alc_program.proofs.RunLemmas.{can_sum}
use Rattle.alc_program.proofs.run.bounds_for.Goals as goal

pub of-requires : goal.of-requires
of-requires c =
    let whole : take c.loop-commands.commands-index c.args.threads.now ≡ c.args.threads.now = take_all c.loop-commands.commands-index c.args.threads.now (omega arith) in
    subst (λ (shares : List Share). CanSum shares) (sym (c.loop-commands.invariant ∙ ap (map share_for) whole))
    (can_sum c.args.threads.now c.requires.some c.requires.few c.requires.commands)
