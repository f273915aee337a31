use Rattle.std.proofs.Common.{◌≡◌, ◌∙◌, List, ℕ, ◌∷◌, [], ◌++◌, Bool, not, subst, sym, ap, length}
use Rattle.std.proofs.Common.{arith}
use Rattle.std.specs.Prelude.{if◌then◌else◌}
use Rattle.il_reader.specs.Offsets.{IsPath}
use Rattle.il_reader.specs.Instructions.{instruction_at}
use Rattle.il_reader.specs.declared.fault.IlFault.TheVariants.{Bad}
use Rattle.il_reader.proofs.Paths.{IsPath-push, found, one_list}
use Rattle.il_reader.proofs.offsets.boundaries.Goals as goal

pub loop-at-preserved : goal.loop-at-preserved
loop-at-preserved c =
    let code = c.args.code.now in
    let at = c.loop-at.at in
    let end = c.in_ok-end.end in
    let old = c.loop-at.places.items in
    let pushed : c.push.new.self.items ≡ old ++ at ∷ [] =
    c.push.ensures.items
    ∙ ap (λ (b : Bool). if b then old ++ at ∷ [] else old)
    (c.is_err.ensures.negation ∙ ap not c.if-is_err.false) in
    let next =
    found (instruction_at code at) (Bad at) (c.in_ok-end.field-0-0, end)
    c.in_ok-end.ensures.value in
    record {
      within = c.in_ok-end.ensures.within;
      path = subst (λ (ks : List ℕ). IsPath code 0 ks end) (sym pushed)
          (IsPath-push code 0 old at end c.loop-at.invariant.path (c.in_ok-end.field-0-0, next));
    }

pub returns-clause-only : goal.returns-clause-only
returns-clause-only c others all =
    let code = c.args.code.now in
    let at = c.loop-at.at in
    let end : at ≡ length code = omega arith in
    one_list code others c.loop-at.places.items all
    (subst (IsPath code 0 c.loop-at.places.items) end c.loop-at.invariant.path)
