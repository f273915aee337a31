use Rattle.std.proofs.Common.{◌≡◌, ℕ, List, true, cond, Option, Some, Ok, None, sym, ap, ◌∙◌}
use Rattle.std.specs.Option.{option_map, option_and_then, ok_or}
use Rattle.il_reader.specs.declared.instruction.Instr.{Instr}
use Rattle.il_reader.specs.declared.fault.IlFault.TheVariants.{Bad}
use Rattle.il_reader.specs.Instructions.{instruction_at}
use Rattle.il_verifier.specs.declared.facts.BodyFacts.{BodyFacts}
use Rattle.il_verifier.specs.declared.kind.Kind.{Kind}
use Rattle.il_verifier.specs.declared.line.Line.{Line}
use Rattle.il_verifier.specs.Kinds.{run_of}
use Rattle.il_verifier.specs.Lines.{is_begun, line_of, line_from, use_at}
use Rattle.il_verifier.proofs.line.line_from.Goals as goal

found : {X E : Type 0} (o : Option X) (e : E) (x : X) → Ok x ≡ ok_or o e → o ≡ Some x
found None e x is = cc
found (Some y) e x is = cc

line-is : (facts : BodyFacts) (begins : List ℕ) (at end first last : ℕ) (instr : Instr) (kind : Kind) →
    is_begun begins at ≡ true → instruction_at facts.code at ≡ Some (instr, end) →
    run_of instr.code ≡ Some (first, last, kind) →
    Some (line_of facts begins instr end (first, kind) (use_at facts at)) ≡ line_from facts begins at
line-is facts begins at end first last instr kind begun reads run =
    sym (ap (λ b. cond b (option_and_then step (instruction_at facts.code at)) None) begun
    ∙ (ap (λ (o : Option (Instr × ℕ)). option_and_then step o) reads
    ∙ ap (λ (o : Option (ℕ × ℕ × Kind)). option_map (λ r. line_of facts begins instr end (r.0, r.2) (use_at facts at)) o) run))
  where
    step : Instr × ℕ → Option Line
    step found =
        option_map (λ r. line_of facts begins found.0 found.1 (r.0, r.2) (use_at facts at)) (run_of found.0.code)

pub returns : goal.returns
returns c =
    let begun : is_begun c.args.begins.now c.args.at ≡ true = cc in
    let reads : instruction_at c.args.facts.now.code c.args.at ≡ Some (c.in-Ok.instr, c.in-Ok.end) =
    ap (λ (code : List ℕ). instruction_at code c.args.at) (sym c.items.ensures)
    ∙ found (instruction_at c.items.result.now c.args.at) (Bad c.args.at) (c.in-Ok.instr, c.in-Ok.end)
    c.in-Ok.ensures.value in
    let run : run_of c.in-Ok.instr.code ≡ Some (c.in-Some.first, c.in-Some.field-0-1, c.in-Some.kind) =
    sym c.in-Some.ensures in
    ap (λ (line : Line). Some line) c.in_ok-line_named.ensures
    ∙ line-is c.args.facts.now c.args.begins.now c.args.at c.in-Ok.end c.in-Some.first c.in-Some.field-0-1
    c.in-Ok.instr c.in-Some.kind begun reads run
