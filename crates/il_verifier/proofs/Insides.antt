-- Control passes to places of the body alone.
use Rattle.std.proofs.Common.{◌≡◌, inl, inr, ℕ, suc, ◌<◌, ℤ, pos, negsuc, ◌+ℤ◌, Bool, true, false, ◌||◌, cond, Option, Some, None, List, [], ◌∷◌, ◌++◌, length, map, get_or, eqb, refl, sym, ap, ◌∙◌, arith, slice_index}
use Rattle.std.specs.Option.{option_map, option_and_then}
use Rattle.std.specs.List.{list_any, range_with_len}
use Rattle.std.proofs.lemmas.Bool.{cases_lt, eqb-true}
use Rattle.std.proofs.lemmas.List.{get_or_past}
use Rattle.std.proofs.lemmas.List.FromFn.{get_or-map-range_with_len, length-map-range_with_len}
use Rattle.il_reader.specs.declared.instruction.Instr.{Instr}
use Rattle.il_reader.specs.Instructions.{instruction_at}
use Rattle.il_verifier.specs.declared.facts.BodyFacts.{BodyFacts}
use Rattle.il_verifier.specs.declared.kind.Kind.{Kind}
use Rattle.il_verifier.specs.declared.line.Line.{Line}
use Rattle.il_verifier.specs.Kinds.{run_of}
use Rattle.il_verifier.specs.Lines.{is_begun, begun, distances, falls, line_of, use_at, line_from}
use Rattle.il_verifier.specs.Depths.{is_place, goes_to}
use Rattle.il_verifier.specs.Search.{LeadsInside}

abbrev pub Lie : List ℕ → ℕ → Type 0
Lie begins end = (k : ℕ) → k < length begins → slice_index begins k < end

begun-inside : (begins : List ℕ) (end : ℕ) → Lie begins end → (at : ℕ) → is_begun begins at ≡ true → at < end
begun-inside [] end lie at e = absurd (cc e)
begun-inside (b ∷ begins) end lie at e =
    by (eqb b at) refl e (λ h. begun-inside begins end (λ k less. lie (suc k) (omega (arith, less))) at h)
  where
    by : (t : Bool) → eqb b at ≡ t → (t || is_begun begins at) ≡ true → (is_begun begins at ≡ true → at < end) → at < end
    by true is h rest = let same = eqb-true b at is in let less = lie 0 (omega arith) in omega (arith, same, less)
    by false is h rest = rest h

place-inside : (begins : List ℕ) (end : ℕ) → Lie begins end → (z : ℤ) (to : ℕ) → is_place to (begun begins z) ≡ true → to < end
place-inside begins end lie (negsuc n) to e = absurd (cc e)
place-inside begins end lie (pos at) to e = by (is_begun begins at) refl e
  where
    by : (t : Bool) → is_begun begins at ≡ t → is_place to (cond t (Some at) None) ≡ true → to < end
    by true is h = let same = eqb-true at to h in let less = begun-inside begins end lie at is in omega (arith, same, less)
    by false is h = absurd (cc h)

places-inside : {A : Type 0} (begins : List ℕ) (end : ℕ) → Lie begins end → (f : A → ℤ) (xs : List A) (to : ℕ) →
    list_any (is_place to) (map (λ x. begun begins (f x)) xs) ≡ true → to < end
places-inside begins end lie f [] to e = absurd (cc e)
places-inside begins end lie f (x ∷ xs) to e =
    by (is_place to (begun begins (f x))) refl e (λ h. places-inside begins end lie f xs to h)
  where
    by : (t : Bool) → is_place to (begun begins (f x)) ≡ t →
        (t || list_any (is_place to) (map (λ x. begun begins (f x)) xs)) ≡ true →
        (list_any (is_place to) (map (λ x. begun begins (f x)) xs) ≡ true → to < end) → to < end
    by true is h rest = place-inside begins end lie (f x) to is
    by false is h rest = rest h

line-inside : (facts : BodyFacts) (begins : List ℕ) (end : ℕ) → Lie begins end → (at to : ℕ) (line : Line) →
    line_from facts begins at ≡ Some line → goes_to line to ≡ true → to < end
line-inside facts begins end lie at to line is goes = by (is_begun begins at) is
  where
    at-run : (instr : Instr) (after : ℕ) (o : Option (ℕ × ℕ × Kind)) →
        option_map (λ run. line_of facts begins instr after (run.0, run.2) (use_at facts at)) o ≡ Some line → to < end
    at-run instr after None e = absurd (cc e)
    at-run instr after (Some run) e =
        let same : line_of facts begins instr after (run.0, run.2) (use_at facts at) ≡ line = cc e in
        places-inside begins end lie (λ distance. pos after +ℤ distance)
        ((cond (falls run.2) (pos 0 ∷ []) []) ++ distances facts.code instr.operand) to
        (ap (λ (l : Line). goes_to l to) same ∙ goes)

    at-instr : (o : Option (Instr × ℕ)) →
        option_and_then (λ found. option_map (λ run. line_of facts begins found.0 found.1 (run.0, run.2) (use_at facts at)) (run_of found.0.code)) o
        ≡ Some line → to < end
    at-instr None e = absurd (cc e)
    at-instr (Some found) e = at-run found.0 found.1 (run_of found.0.code) e

    by : (t : Bool) → cond t (option_and_then
        (λ found. option_map (λ run. line_of facts begins found.0 found.1 (run.0, run.2) (use_at facts at)) (run_of found.0.code))
        (instruction_at facts.code at)) None ≡ Some line → to < end
    by true e = at-instr (instruction_at facts.code at) e
    by false e = absurd (cc e)

pub lines-inside : (facts : BodyFacts) (begins : List ℕ) (lines : List (Option Line)) → Lie begins (length facts.code) →
    lines ≡ map (line_from facts begins) (range_with_len 0 (length facts.code)) → LeadsInside lines
lines-inside facts begins lines lie is at to line there goes =
    let n = length facts.code in
    let len : length lines ≡ n =
    ap length is ∙ length-map-range_with_len (line_from facts begins) 0 n in
    elim (cases_lt at n) [
      | inl less ↦
          let from : line_from facts begins at ≡ Some line =
          sym (get_or-map-range_with_len (line_from facts begins) 0 n at at None less (omega arith))
          ∙ (ap (λ (ls : List (Option Line)). get_or ls at None) (sym is) ∙ there) in
          let inside = line-inside facts begins n lie at to line from goes in
          omega (arith, inside, len)
      | inr past ↦ absurd (cc (get_or_past lines at None (omega (arith, past, len)), there))
    ]
