use Rattle.std.proofs.Common.{◌≡◌, ◌⊎◌, ◌↔◌, false, inl, inr, sym, subst, ◌∙◌}
use Rattle.il_flow.specs.StackTypes.{is_reference}
use Rattle.il_flow.specs.Assigning.{Suits}
use Rattle.il_flow.proofs.Order.{Key}
use Rattle.il_flow.proofs.Suiting.{element-shorter, no-left, no-right, no-elements, elements-suit, suits-none, suits-at-once}
use Rattle.il_flow.proofs.assign.suits.Goals.{then-not-is_reference-via-then-not-is_reference, then-not-is_reference-via-else-not-is_reference+then-not-is_reference-2}
use Rattle.il_flow.proofs.assign.suits.Goals as goal

pub loop-high-init : goal.loop-high-init
loop-high-init g c =
    let family = g.P.Parents.family c.args.parents.now in
    let value : Key = c.args.value.now in
    let place : Key = c.args.place.now in
    subst (λ (k : Key). Suits family value place ↔ Suits family k c.in_ok-high.high) (sym c.in_ok-low.ensures)
    (subst (λ (k : Key). Suits family value place ↔ Suits family value k) (sym c.in_ok-high.ensures)
    (λ h. h, λ h. h))

pub returns-in_default : goal.returns-in_default
returns-in_default g c =
    let family = g.P.Parents.family c.args.parents.now in
    suits-none family c.args.value.now c.args.place.now c.loop-high.low c.loop-high.high c.loop-high.invariant
    (no-left family c.loop-high.low c.loop-high.high (sym c.in_ok-from.ensures ∙ c.in_default.is)
    (λ kind. cc (c.if-not-branch.true, c.in_ok-is_kind_of.ensures.1 kind)))

pub returns-in_default-2 : goal.returns-in_default-2
returns-in_default-2 g c =
    let family = g.P.Parents.family c.args.parents.now in
    suits-none family c.args.value.now c.args.place.now c.loop-high.low c.loop-high.high c.loop-high.invariant
    (no-right family c.loop-high.low c.loop-high.high (sym c.in_ok-to.ensures ∙ c.in_default-2.is)
    (λ kind. cc (c.if-not-branch.true, c.in_ok-is_kind_of.ensures.1 kind)))

pub returns-then-not-is_reference : goal.returns-then-not-is_reference
returns-then-not-is_reference g c =
    let family = g.P.Parents.family c.args.parents.now in
    let numbers : (is_reference c.in-Some.from ≡ false) ⊎ (is_reference c.in-Some-2.to ≡ false) =
    elim c.then-not-is_reference.branch [
      | then-not-is_reference-via-then-not-is_reference w ↦
          inl (sym c.is_reference.ensures ∙ cc (w.if-not-is_reference.true))
      | then-not-is_reference-via-else-not-is_reference+then-not-is_reference-2 w ↦
          inr (sym w.is_reference-else-not-is_reference.ensures ∙ cc (w.if-not-is_reference-2.true))
    ] in
    suits-none family c.args.value.now c.args.place.now c.loop-high.low c.loop-high.high c.loop-high.invariant
    (no-elements family c.loop-high.low c.loop-high.high c.in-Some.from c.in-Some-2.to
    (sym c.in_ok-from.ensures ∙ c.in-Some.is) (sym c.in_ok-to.ensures ∙ c.in-Some-2.is) numbers
    (λ kind. cc (c.if-not-branch.true, c.in_ok-is_kind_of.ensures.1 kind)))

pub loop-high-smaller : goal.loop-high-smaller
loop-high-smaller g c =
    element-shorter c.loop-high.low c.in-Some.from (sym c.in_ok-from.ensures ∙ c.in-Some.is)

pub loop-high-preserved : goal.loop-high-preserved
loop-high-preserved g c =
    let family = g.P.Parents.family c.args.parents.now in
    let on : Suits family c.loop-high.low c.loop-high.high ↔ Suits family c.in-Some.from c.in-Some-2.to =
    elements-suit family c.loop-high.low c.loop-high.high c.in-Some.from c.in-Some-2.to
    (sym c.in_ok-from.ensures ∙ c.in-Some.is) (sym c.in_ok-to.ensures ∙ c.in-Some-2.is)
    (sym c.is_reference.ensures ∙ cc (c.if-not-is_reference.false))
    (sym c.is_reference-else-not-is_reference.ensures ∙ cc (c.if-not-is_reference-2.false))
    (λ kind. cc (c.if-not-branch.true, c.in_ok-is_kind_of.ensures.1 kind)) in
    (λ h. on.0 (c.loop-high.invariant.0 h), λ h. c.loop-high.invariant.1 (on.1 h))

pub returns : goal.returns
returns g c =
    let family = g.P.Parents.family c.args.parents.now in
    suits-at-once family c.args.value.now c.args.place.now c.loop-high.low c.loop-high.high c.loop-high.invariant
    (c.in_ok-is_kind_of.ensures.0 (cc (c.if-not-branch.false)))
