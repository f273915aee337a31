use Rattle.std.proofs.Common.{◌≡◌, refl, sym, ap, subst, ◌∙◌}
use Rattle.il_flow.specs.declared.stack.StackType.{StackType}
use Rattle.il_flow.specs.declared.stack.StackType.TheVariants.{Ref}
use Rattle.il_flow.specs.Families.{Family}
use Rattle.il_flow.specs.Merging.{Held, merged}
use Rattle.il_verifier.proofs.Oks.{if-then}
use Rattle.il_verifier.specs.declared.pairs.Entry.{Entry}
use Rattle.il_verifier.proofs.Entries.{all-noted}
use Rattle.il_verifier.proofs.joins.merge_once.Goals as goal

-- both types are references
of-refs : (family : Family) (own after low high : StackType) → own ≡ low → after ≡ high →
    merged family own after ≡ merged family low high
of-refs family own after low high o a =
    ap (λ (t : StackType). merged family t after) o ∙ ap (λ (t : StackType). merged family low t) a

pub returns-in-Some-clause-held : goal.returns-in-Some-clause-held
returns-in-Some-clause-held g c =
    let family = g.P.Parents.family c.args.parents.now in
    let low = c.in-Ref-Ref.low in
    let high = c.in-Ref-Ref.high in
    let found : Held = c.in-Some.held.now in
    let is = c.requires (record { low = low; high = high; found = found }) (c.in-Some.ensures found refl) in
    if-then c.copy_held.result
    (λ (held : Held) copied. copied ∙ (c.as_ref.ensures.value
    ∙ (is ∙ sym (of-refs family c.args.own.now c.args.after.now (Ref low) (Ref high) c.in-Ref-Ref.is-0 c.in-Ref-Ref.is-1))))
    c.copy_held.ensures

pub returns-clause-merges : goal.returns-clause-merges
returns-clause-merges g c =
    let family = g.P.Parents.family c.args.parents.now in
    let low = c.in-Ref-Ref.low in
    let high = c.in-Ref-Ref.high in
    let is = c.in_ok-found.ensures ∙ (c.as_ref-2.ensures.value ∙ (c.in_ok-held.ensures
    ∙ of-refs family c.args.own.now c.args.after.now (Ref low) (Ref high) c.in-Ref-Ref.is-0 c.in-Ref-Ref.is-1)) in
    all-noted Holds c.args.merges.now c.note.new.self c.in_ok-of.field-0 c.note.ensures
    (subst Holds (sym c.in_ok-of.ensures) is) c.requires
  where
    Holds : Entry Held → Type 0
    Holds = λ entry. entry.found ≡ merged (g.P.Parents.family c.args.parents.now) (Ref entry.low) (Ref entry.high)
