use Rattle.std.proofs.Common.{◌≡◌, ℕ, ◌+◌, ◌-◌, List, [], ◌∷◌, ◌++◌, length, take, drop, get_or, refl, sym, ap, ◌∙◌, arith}
use Rattle.signatures.specs.Keys.{key_arity, greatest}
use Rattle.signatures.proofs.Depth.{levels_next, levels_bound, levels_done, greatest-drop}
use Rattle.signatures.specs.declared.key.KeyPart.TheVariants.{Prim}
use Rattle.signatures.specs.declared.sig.Primitive.TheVariants.{Bool}
use Rattle.signatures.proofs.levels.levels.Goals as goal

pub level_over-level-requires-clause-short : goal.level_over-level-requires-clause-short
level_over-level-requires-clause-short c =
    rw c.deref.ensures.value (omega (arith, greatest-drop c.saturating_sub-others.result c.loop-at.levels.items, c.loop-at.invariant.1))

pub loop-at-preserved : goal.loop-at-preserved
loop-at-preserved c =
    let i = c.loop-at.invariant in
    let levels = c.loop-at.levels.items in
    let parts = c.args.parts.now in
    let at = c.loop-at.at - 1 in
    let k : c.loop-at.at ≡ at + 1 = omega arith in
    let others : c.saturating_sub-others.result ≡ length levels - key_arity (get_or parts at (Prim Bool)) =
    omega (arith, c.arity.ensures, c.saturating_sub-others.ensures, c.len.ensures, c.loop-at.levels.ok.0) in
    let level : c.level_over-level.result ≡ greatest (drop c.saturating_sub-others.result levels) + 1 =
    c.level_over-level.ensures ∙ ap (λ (ns : List ℕ). greatest (drop c.saturating_sub-others.result ns) + 1) c.deref.ensures.value in
    let pushed : c.push.new.self.items ≡ take c.saturating_sub-others.result levels ++ (greatest (drop c.saturating_sub-others.result levels) + 1) ∷ [] =
    rw (c.in_ok-push.ensures.items, c.truncate.ensures.items, level) refl in (
      omega (arith, i.0),
      rw pushed (omega (arith, levels_bound c.saturating_sub-others.result levels, i.1)),
      rw (pushed, others) (levels_next parts at (Prim Bool) levels (omega (arith, i.0)) (rw (sym k) i.2)),
    )

pub returns : goal.returns
returns c =
    c.greatest.ensures ∙ (ap (λ (ns : List ℕ). greatest ns) c.deref-2.ensures.value ∙ levels_done c.args.parts.now c.loop-at.at c.loop-at.levels.items c.loop-at-test.false c.loop-at.invariant.2)
