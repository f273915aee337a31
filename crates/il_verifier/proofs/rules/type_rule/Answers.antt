use Rattle.std.proofs.Common.{◌≡◌, true, false, not, is_none, List, refl, sym, ap, subst, ◌∙◌, arith}
use Rattle.std.specs.List.{list_any}
use Rattle.il_flow.specs.Merging.{Held}
use Rattle.il_verifier.specs.Pools.{stack_by}
use Rattle.il_verifier.specs.Faults.{AreWanted, HavePlaces}
use Rattle.il_verifier.proofs.Keeping.{kept-below, past-all}
use Rattle.il_verifier.proofs.rules.type_rule.Goals as goal

pub returns-then-is_mixed : goal.returns-then-is_mixed
returns-then-is_mixed g c =
    let mixed : list_any is_none (stack_by c.args.pool.now c.args.id) ≡ true = sym c.requires.mixed ∙ c.if-is_mixed.true in (
      (0, omega arith, refl),
      λ h. cc (ap not mixed, h),
      kept-below (g.P.Parents.family c.args.parents.now) c.args.line.now (stack_by c.args.pool.now c.args.id) 2
          (λ l. absurd (omega (arith, l))) (λ l. absurd (omega (arith, l))) (λ l. absurd (omega (arith, l)))
          (λ l. absurd (omega (arith, l))),
    )

pub returns-then-not-branch : goal.returns-then-not-branch
returns-then-not-branch g c =
    let family = g.P.Parents.family c.args.parents.now in
    let line = c.args.line.now in
    let plain : list_any is_none (stack_by c.args.pool.now c.args.id) ≡ false = sym c.requires.mixed ∙ c.if-is_mixed.false in (
      (1, omega arith, refl),
      λ h. cc (
        c.if-not-branch.true,
        c.in_ok-are_wanted.ensures.1
            (subst (λ (held : List Held). AreWanted family line.effect.operands held) (sym (c.as_slice-held.ensures.value ∙ c.in_ok-operands.ensures)) h),
      ),
      kept-below family line (stack_by c.args.pool.now c.args.id) 4 (λ l. plain) (λ l. absurd (omega (arith, l)))
          (λ l. absurd (omega (arith, l))) (λ l. absurd (omega (arith, l))),
    )

pub returns-then-not-branch-2 : goal.returns-then-not-branch-2
returns-then-not-branch-2 g c =
    let family = g.P.Parents.family c.args.parents.now in
    let line = c.args.line.now in
    let plain : list_any is_none (stack_by c.args.pool.now c.args.id) ≡ false = sym c.requires.mixed ∙ c.if-is_mixed.false in
    let wanted = subst (λ (held : List Held). AreWanted family line.effect.operands held) (c.as_slice-held.ensures.value ∙ c.in_ok-operands.ensures)
    (c.in_ok-are_wanted.ensures.0 (cc (c.if-not-branch.false))) in (
      (2, omega arith, refl),
      λ h. cc (
        c.if-not-branch-2.true,
        c.in_ok-have_places.ensures.1
            (subst (λ (held : List Held). HavePlaces family line.effect.operands held) (sym (c.as_slice-held.ensures.value ∙ c.in_ok-operands.ensures)) h),
      ),
      kept-below family line (stack_by c.args.pool.now c.args.id) 8 (λ l. plain) (λ l. wanted) (λ l. absurd (omega (arith, l)))
          (λ l. absurd (omega (arith, l))),
    )

pub returns-then-not-branch-3 : goal.returns-then-not-branch-3
returns-then-not-branch-3 g c =
    let family = g.P.Parents.family c.args.parents.now in
    let line = c.args.line.now in
    let plain : list_any is_none (stack_by c.args.pool.now c.args.id) ≡ false = sym c.requires.mixed ∙ c.if-is_mixed.false in
    let wanted = subst (λ (held : List Held). AreWanted family line.effect.operands held) (c.as_slice-held.ensures.value ∙ c.in_ok-operands.ensures)
    (c.in_ok-are_wanted.ensures.0 (cc (c.if-not-branch.false))) in
    let placed = subst (λ (held : List Held). HavePlaces family line.effect.operands held) (c.as_slice-held.ensures.value ∙ c.in_ok-operands.ensures)
    (c.in_ok-have_places.ensures.0 (cc (c.if-not-branch-2.false))) in (
      (3, omega arith, refl),
      λ h. cc (c.if-not-branch-3.true, c.in_ok-returns_well.ensures.1 h),
      kept-below family line (stack_by c.args.pool.now c.args.id) 10 (λ l. plain) (λ l. wanted) (λ l. placed) (λ l. absurd (omega (arith, l))),
    )

pub returns : goal.returns
returns g c =
    let family = g.P.Parents.family c.args.parents.now in
    let line = c.args.line.now in
    let plain : list_any is_none (stack_by c.args.pool.now c.args.id) ≡ false = sym c.requires.mixed ∙ c.if-is_mixed.false in
    let wanted = subst (λ (held : List Held). AreWanted family line.effect.operands held) (c.as_slice-held.ensures.value ∙ c.in_ok-operands.ensures)
    (c.in_ok-are_wanted.ensures.0 (cc (c.if-not-branch.false))) in
    let placed = subst (λ (held : List Held). HavePlaces family line.effect.operands held) (c.as_slice-held.ensures.value ∙ c.in_ok-operands.ensures)
    (c.in_ok-have_places.ensures.0 (cc (c.if-not-branch-2.false))) in
    let back = c.in_ok-returns_well.ensures.0 (cc (c.if-not-branch-3.false)) in
    λ r. kept-below family line (stack_by c.args.pool.now c.args.id) 12 (λ l. plain) (λ l. wanted) (λ l. placed) (λ l. back) r (past-all r)
