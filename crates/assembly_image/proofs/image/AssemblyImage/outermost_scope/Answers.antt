use Rattle.std.proofs.Common.{◌≡◌, ◌+◌, ◌-◌, ℕ, suc, sym, ap, ◌∙◌, arith}
use Rattle.std.specs.Option.{option_and_then}
use Rattle.assembly_image.specs.Names.{type_ref_scope, outermost_within}
use Rattle.assembly_image.specs.Reading.{module_of}
use Rattle.assembly_image.proofs.ScopeLemmas.{none_of, outermost_none, outermost_some}
use Rattle.assembly_image.proofs.image.AssemblyImage.outermost_scope.Goals as goal

pub returns-in-None : goal.returns-in-None
returns-in-None c =
    let m = module_of c.args.self.now in
    let found = c.loop-passed.invariant
    ∙ outermost_none m c.loop-passed.outermost (16 - c.loop-passed._passed) (sym c.type_ref_outer.ensures ∙ c.in-None.is) in
    c.type_ref_scope.ensures ∙ sym (ap (option_and_then (type_ref_scope m)) found)

pub loop-passed-preserved : goal.loop-passed-preserved
loop-passed-preserved c =
    let m = module_of c.args.self.now in
    let passed = c.loop-passed._passed in
    let within : 16 - passed ≡ suc (16 - (passed + 1)) = omega arith in
    c.loop-passed.invariant ∙ ap (λ (k : ℕ). outermost_within m k c.loop-passed.outermost) within
    ∙ outermost_some m c.loop-passed.outermost (16 - (passed + 1)) c.in-Some.outer (sym c.type_ref_outer.ensures ∙ c.in-Some.is)

pub returns : goal.returns
returns c =
    let m = module_of c.args.self.now in
    let none = none_of c.type_ref_outer-2.result (sym c.is_some.ensures ∙ c.if-is_some.false) in
    let found = c.loop-passed.invariant
    ∙ outermost_none m c.loop-passed.outermost (16 - c.loop-passed._passed) (sym c.type_ref_outer-2.ensures ∙ none) in
    c.type_ref_scope-2.ensures ∙ sym (ap (option_and_then (type_ref_scope m)) found)
