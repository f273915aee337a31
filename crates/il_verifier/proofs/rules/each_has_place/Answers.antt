use Rattle.std.proofs.Common.{◌<◌, ℕ, Option, get_or, sym, subst, ◌∙◌}
use Rattle.std.specs.List.{AllZip}
use Rattle.il_flow.specs.declared.stack.StackType.{StackType}
use Rattle.il_verifier.specs.declared.effect.Want.{Want}
use Rattle.il_verifier.specs.Effects.{HasPlace}
use Rattle.il_verifier.specs.Faults.{OnType}
use Rattle.il_verifier.proofs.Zips.{zip-more, zip-at, zip-lengths}
use Rattle.il_verifier.proofs.rules.each_has_place.Goals as goal

pub returns-then-wants-held : goal.returns-then-wants-held
returns-then-wants-held g c = (
  λ h. absurd (cc h),
  λ all. absurd (c.if-wants-held.true (zip-lengths (OnType (HasPlace (g.P.Parents.family c.args.parents.now))) c.args.wants.now c.args.held.now all)),
)

pub returns-then-not-branch : goal.returns-then-not-branch
returns-then-not-branch g c = (λ h. absurd (cc h), λ all. absurd (no all))
  where
    R : Want → Option StackType → Type 0
    R = OnType (HasPlace (g.P.Parents.family c.args.parents.now))

    no : AllZip R c.args.wants.now c.args.held.now → ⊥
    no all =
        let want = c.index-wants-i.result in
        let held = c.index-held-i.result in
        let at = zip-at R c.args.wants.now c.args.held.now c.loop-i.i want held c.loop-i-test.true all in
        let here = subst (λ (w : Want). R w (get_or c.args.held.now c.loop-i.i held)) (sym c.index-wants-i.is) at in
        let there = subst (λ (t : Option StackType). R want t) (sym c.index-held-i.is ∙ sym c.as_ref.ensures.value) here in
        cc (c.if-not-branch.true, c.in_ok-has_place_held.ensures.1 there)

pub loop-i-preserved : goal.loop-i-preserved
loop-i-preserved g c =
    let R : Want → Option StackType → Type 0 = OnType (HasPlace (g.P.Parents.family c.args.parents.now)) in
    let want = c.index-wants-i.result in
    let held = c.index-held-i.result in
    let there = c.in_ok-has_place_held.ensures.0 (cc (c.if-not-branch.false)) in
    let here = subst (λ (t : Option StackType). R want t) (c.as_ref.ensures.value ∙ c.index-held-i.is) there in
    let at = subst (λ (w : Want). R w (get_or c.args.held.now c.loop-i.i held)) c.index-wants-i.is here in
    record {
      sized = c.loop-i.invariant.sized;
      fits = zip-more R c.args.wants.now c.args.held.now c.loop-i.i want held c.loop-i-test.true
          (subst (λ (n : ℕ). c.loop-i.i < n) c.loop-i.invariant.sized c.loop-i-test.true) c.loop-i.invariant.fits at;
    }
