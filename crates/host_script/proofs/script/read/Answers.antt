use Rattle.std.proofs.Common.{◌≡◌, ◌==◌, ℕ, ◌+◌, true, List, [], ◌∷◌, ◌++◌, length, ap, subst, sym, ◌∙◌, append_assoc, arith}
use Rattle.std.proofs.lemmas.Bool.{eqb-true}
use Rattle.std.proofs.lemmas.List.{append-nil, nil_from_length, length_push}
use Rattle.host_script.specs.Lines.{lines}
use Rattle.host_script.specs.Script.{Accepts, Refuses, IsRefusal}
use Rattle.host_script.specs.State.{kept_of}
use Rattle.host_script.specs.declared.cause.LineCause.TheVariants.{NoThread}
use Rattle.host_script.specs.declared.cause.ScriptFault.{ScriptFault}
use Rattle.host_script.specs.declared.script.Script.{Script}
use Rattle.host_script.proofs.ScriptLemmas.{all_accepted, without_thread, refused_line}
use Rattle.host_script.proofs.script.read.Goals as goal

-- no byte is left
all_lines : (bytes rest : List ℕ) (above : List (List ℕ)) → lines bytes ≡ above ++ lines rest →
    (length rest == 0) ≡ true → lines bytes ≡ above
all_lines bytes rest above all none =
    let empty = nil_from_length rest (eqb-true (length rest) 0 none) in
    all ∙ ap (λ r. above ++ lines r) empty ∙ append-nil above

pub loop-rest-preserved : goal.loop-rest-preserved
loop-rest-preserved c =
    let was = c.loop-rest.invariant in
    let line = c.first_line.result.0.now in
    let count = ap (λ n. n + 1) was.count in
    let shorter = c.first_line.ensures.shorter in
    let room = was.room in
    record {
      above = was.above ++ line ∷ [];
      state = c.in_default.ensures was.above was.state count;
      all = was.all ∙ ap (λ ls. was.above ++ ls) c.first_line.ensures.line
          ∙ sym (append_assoc was.above (line ∷ []) (lines c.first_line.result.1.now));
      count = count ∙ sym (length_push was.above line);
      room = omega arith;
    }

pub returns-in-Err : goal.returns-in-Err
returns-in-Err c =
    let was = c.loop-rest.invariant in
    let count = ap (λ n. n + 1) was.count in
    let all = was.all ∙ ap (λ ls. was.above ++ ls) c.first_line.ensures.line in
    let P : ScriptFault → Type 0 = IsRefusal c.args.bytes.now in
    subst P (sym c.fault_at.ensures)
    (refused_line c.args.bytes.now (kept_of c.loop-rest.reading) was.above was.state c.first_line.result.0.now
    (lines c.first_line.result.1.now) all c.in-Err.fault (c.loop-rest.number + 1) count
    (c.in-Err.ensures was.above was.state count))

pub returns-in-Ok-Some : goal.returns-in-Ok-Some
returns-in-Ok-Some c =
    let was = c.loop-rest.invariant in
    let all = all_lines c.args.bytes.now c.loop-rest.rest.now was.above was.all (sym c.loop-rest-test.ensures) in
    let found = rw c.in-Ok-Some.field-0-is at c.in-Ok-Some.ensures in
    let P : Script → Type 0 = Accepts c.args.bytes.now in
    subst P (sym found.1) (all_accepted c.args.bytes.now (kept_of c.loop-rest.reading) was.above was.state all found.0)

pub returns-in-Ok-None : goal.returns-in-Ok-None
returns-in-Ok-None c =
    let was = c.loop-rest.invariant in
    let all = all_lines c.args.bytes.now c.loop-rest.rest.now was.above was.all (sym c.loop-rest-test.ensures) in
    let none = rw c.in-Ok-None.field-0-is at c.in-Ok-None.ensures in
    let P : ℕ → Type 0 = λ n. Refuses c.args.bytes.now (n + 1) NoThread in
    subst P (sym was.count)
    (without_thread c.args.bytes.now (kept_of c.loop-rest.reading) was.above was.state all none)
