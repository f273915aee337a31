use Rattle.std.proofs.Common.{◌≡◌, ◌↔◌, ℕ, ◌<◌, true, List, [], ◌∷◌, sym, refl, ap, subst, ◌∙◌, arith, Contains}
use Rattle.il_flow.specs.Families.{Leads, IsLed}
use Rattle.il_flow.specs.Assigning.{AreJust}
use Rattle.il_flow.proofs.Order.{Key}
use Rattle.il_flow.proofs.Levels.{AreAbove, level-first, level-next, not-before, level-last}
use Rattle.il_flow.proofs.level.leads.Goals as goal

pub loop-init : goal.loop-init
loop-init g c =
    let family = g.P.Parents.family c.args.parents.now in
    let items : c.in_ok-level.level.items ≡ c.args.low.now ∷ [] =
    c.in_ok-level.ensures.items ∙ ap (λ (k : Key). k ∷ []) c.in_ok-share.ensures in
    record {
      few = omega arith;
      here = subst (λ (level : List Key). AreJust level (λ key. Leads family 0 c.args.low.now key)) (sym items)
          (level-first family c.args.low.now);
      before = λ n less leads. omega (arith, less);
    }

pub returns-then-is_among : goal.returns-then-is_among
returns-then-is_among g c =
    let there : Contains c.loop.level.items c.args.high.now =
    subst (λ (ks : List Key). Contains ks c.args.high.now) c.deref.ensures.value
    (c.is_among.ensures.among.0 c.if-is_among.true) in
    (λ _. (c.loop.counter, (c.loop.invariant.here c.args.high.now).0 there), λ _. refl)

pub loop-preserved : goal.loop-preserved
loop-preserved g c =
    let family = g.P.Parents.family c.args.parents.now in
    let absent : Contains c.loop.level.items c.args.high.now → ⊥ =
    λ there. cc (
      c.if-is_among.false,
      c.is_among.ensures.among.1
          (subst (λ (ks : List Key). Contains ks c.args.high.now) (sym c.deref.ensures.value) there),
    ) in
    let up : AreAbove family c.loop.level.items c.in_ok-level-2.level.items =
    subst (λ (level : List Key). AreAbove family level c.in_ok-level-2.level.items) c.deref-in-loop.ensures.value
    c.in_ok-level-2.ensures in
    record {
      few = omega arith;
      here = level-next family c.args.low.now c.loop.level.items c.in_ok-level-2.level.items c.loop.counter
          c.loop.invariant.here up;
      before = not-before family c.args.low.now c.args.high.now c.loop.level.items c.loop.counter
          c.loop.invariant.before c.loop.invariant.here absent;
    }

pub returns : goal.returns
returns g c =
    let family = g.P.Parents.family c.args.parents.now in
    let low : Key = c.args.low.now in
    let high : Key = c.args.high.now in
    let ends : c.loop.counter ≡ 64 = omega (arith, c.loop.invariant.few, c.loop-test.false) in
    let before : (n : ℕ) → n < 64 → Leads family n low high → ⊥ =
    subst (λ (m : ℕ). (n : ℕ) → n < m → Leads family n low high → ⊥) ends c.loop.invariant.before in
    let here : AreJust c.loop.level.items (λ key. Leads family 64 low key) =
    subst (λ (m : ℕ). AreJust c.loop.level.items (λ key. Leads family m low key)) ends c.loop.invariant.here in
    let led : Contains c.loop.level.items high ↔ IsLed family low high =
    level-last family (g.met.P.Parents.lawful c.args.parents.now) low high c.loop.level.items before here in
    let among : (c.is_among-2.result ≡ true) ↔ Contains c.loop.level.items high =
    subst (λ (ks : List Key). (c.is_among-2.result ≡ true) ↔ Contains ks high) c.deref-2.ensures.value
    c.is_among-2.ensures.among in
    (λ h. led.0 (among.0 h), λ h. among.1 (led.1 h))
