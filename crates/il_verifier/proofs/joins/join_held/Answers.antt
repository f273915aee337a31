use Rattle.std.proofs.Common.{◌≡◌, sym, ap, ◌∙◌}
use Rattle.il_flow.specs.Merging.{Held, joined}
use Rattle.il_verifier.proofs.Oks.{if-then}
use Rattle.il_verifier.proofs.Order.{IsMerging}
use Rattle.il_verifier.proofs.Ways.{joined-self}
use Rattle.il_verifier.proofs.joins.join_held.Goals as goal

pub returns-then-is_same_held-clause-held : goal.returns-then-is_same_held-clause-held
returns-then-is_same_held-clause-held g c =
    let family = g.P.Parents.family c.args.parents.now in
    let lawful = g.met.P.Parents.lawful c.args.parents.now in
    let merging : IsMerging family = record {
      same = c.merging_is_least.ensures.reflexive family;
      trans = c.merging_is_least.ensures.transitive family;
      anti = c.merging_is_least.ensures.antisymmetric family lawful;
      upper = c.merging_is_least.ensures.above_both family;
      least = c.merging_is_least.ensures.least family lawful;
    } in
    let own : Held = c.args.own.now in
    let same : own ≡ c.args.after.now = c.is_same_held.ensures.0 (c.if-is_same_held.true) in
    if-then c.copy_held.result
    (λ (held : Held) is. is ∙ (c.as_ref.ensures.value
    ∙ (sym (joined-self family merging own) ∙ ap (λ (x : Held). joined family own x) same)))
    c.copy_held.ensures
