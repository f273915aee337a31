use Rattle.std.proofs.Common.{ℕ, List, Option, sym, subst, ◌∙◌}
use Rattle.host_events.specs.declared.outcome.VerifyRule.{VerifyRule}
use Rattle.il_verifier.specs.declared.line.Line.{Line}
use Rattle.il_verifier.specs.Faults.{NoneFails, FailsDepths, depth_rules}
use Rattle.il_verifier.specs.Search.{LeadsInside, AreDepths, IsFirstOrNone}
use Rattle.il_verifier.specs.Typings.{IsLeast}
use Rattle.il_verifier.specs.TypeRules.{IsTypeFault}
use Rattle.il_verifier.specs.Worklist.{stacks_by, typing_of, ArePlaced}
use Rattle.il_verifier.proofs.Oks.{if-then}
use Rattle.il_verifier.proofs.Telling.{depths-tell, types-tell}
use Rattle.il_verifier.proofs.verdict.typed_or_fault.Goals as goal

pub depths-requires : goal.depths-requires
depths-requires g c =
    subst (λ (lines : List (Option Line)). LeadsInside lines) (sym c.deref.ensures.value) c.in_ok-lines.ensures.inside

pub depth_fault-requires-clause-inside : goal.depth_fault-requires-clause-inside
depth_fault-requires-clause-inside g c =
    subst (λ (lines : List (Option Line)). LeadsInside lines) (sym c.deref-2.ensures.value) c.in_ok-lines.ensures.inside

pub depth_fault-requires-clause-depths : goal.depth_fault-requires-clause-depths
depth_fault-requires-clause-depths g c =
    subst (λ (depths : List (Option ℕ)). AreDepths c.args.facts.now.max_stack c.deref-2.result.now depths) (sym c.deref-3.ensures.value)
    (subst (λ (lines : List (Option Line)). AreDepths c.args.facts.now.max_stack lines c.in_ok-depths.depths.items)
    (c.deref.ensures.value ∙ sym c.deref-2.ensures.value) c.in_ok-depths.ensures.depths)

pub returns-in-Some : goal.returns-in-Some
returns-in-Some g c =
    let family = g.P.Parents.family c.args.parents.now in
    let facts = c.args.facts.now in
    depths-tell family facts c.in_ok-lines.lines.items c.in-Some.fault
    (c.verdicts_are_one.ensures family (g.met.P.Parents.lawful c.args.parents.now) facts) c.in_ok-lines.ensures.lines
    (subst (λ (fault : Option (ℕ × VerifyRule)). IsFirstOrNone (FailsDepths facts.max_stack c.in_ok-lines.lines.items) depth_rules fault)
    c.in-Some.is
    (subst (λ (lines : List (Option Line)). IsFirstOrNone (FailsDepths facts.max_stack lines) depth_rules c.in_ok-fault.field-0)
    c.deref-2.ensures.value c.in_ok-fault.ensures))

pub least_typing-requires-clause-inside : goal.least_typing-requires-clause-inside
least_typing-requires-clause-inside g c =
    subst (λ (lines : List (Option Line)). LeadsInside lines) (sym c.deref-4.ensures.value) c.in_ok-lines.ensures.inside

pub returns : goal.returns
returns g c =
    let family = g.P.Parents.family c.args.parents.now in
    let facts = c.args.facts.now in
    let lines : List (Option Line) = c.in_ok-lines.lines.items in
    let typing = c.in_ok-typing.typing in
    let stacks = stacks_by typing.pool typing.stacks.items in
    let clean : NoneFails (FailsDepths facts.max_stack lines) depth_rules =
    subst (λ (fault : Option (ℕ × VerifyRule)). IsFirstOrNone (FailsDepths facts.max_stack lines) depth_rules fault) c.in_default.is
    (subst (λ (ls : List (Option Line)). IsFirstOrNone (FailsDepths facts.max_stack ls) depth_rules c.in_ok-fault.field-0)
    c.deref-2.ensures.value c.in_ok-fault.ensures) in
    let placed : ArePlaced facts.max_stack c.deref-5.result.now stacks =
    subst (λ (ls : List (Option Line)). ArePlaced facts.max_stack ls stacks) (c.deref-4.ensures.value ∙ sym c.deref-5.ensures.value)
    c.in_ok-typing.ensures.placed in
    let least : IsLeast family facts.max_stack lines (typing_of stacks) =
    subst (λ (ls : List (Option Line)). IsLeast family facts.max_stack ls (typing_of stacks)) c.deref-4.ensures.value
    c.in_ok-typing.ensures.least in
    if-then c.type_fault.result
    (λ (fault : Option (ℕ × VerifyRule)) tells.
    types-tell family facts lines (typing_of stacks) fault
    (c.verdicts_are_one.ensures family (g.met.P.Parents.lawful c.args.parents.now) facts) c.in_ok-lines.ensures.lines clean least
    (subst (λ (ls : List (Option Line)). IsTypeFault family facts.max_stack ls (typing_of stacks) fault) c.deref-5.ensures.value
    (tells facts.max_stack placed)))
    c.type_fault.ensures
