-- The places to which control may pass.
use Rattle.std.proofs.Common.{◌≡◌, ℕ, ◌+◌, ◌≤◌, List, [], ◌∷◌, ◌++◌, map, length, refl, sym, ap, ◌∙◌, arith, append_assoc}
use Rattle.std.specs.List.{range_with_len}
use Rattle.std.proofs.lemmas.List.{map_push}
use Rattle.std.proofs.lemmas.List.FromFn.{map-range_with_len_more}
use Rattle.il_reader.specs.declared.instruction.Operand.{Operand}
use Rattle.il_reader.specs.declared.instruction.Operand.TheVariants.{Nothing, Number, Branch, Token, Switch}
use Rattle.cli_words.specs.declared.span.Span.{Span}
use Rattle.il_verifier.specs.Lines.{HasDistances}

-- one more distance is one more place
pub targets-more : {A B : Type 0} (g : A → B) (f : ℕ → A) (old goes : List B) (n : ℕ) →
    goes ≡ old ++ map g (map f (range_with_len 0 n)) →
    goes ++ g (f n) ∷ [] ≡ old ++ map g (map f (range_with_len 0 (n + 1)))
targets-more g f old goes n is =
    ap (λ xs. xs ++ g (f n) ∷ []) is
    ∙ (append_assoc old (map g (map f (range_with_len 0 n))) (g (f n) ∷ [])
    ∙ ap (λ xs. old ++ xs)
    (sym (ap (map g) (map-range_with_len_more f 0 n n (omega arith)) ∙ map_push g (map f (range_with_len 0 n)) (f n))))

-- the distances of a switch stand in the code with it
pub has-distances : (code : List ℕ) (operand : Operand) →
    ((span : Span) → operand ≡ Switch span → span.at + span.len ≤ length code) → HasDistances code operand
has-distances code Nothing within = tt
has-distances code (Number n) within = tt
has-distances code (Branch distance) within = tt
has-distances code (Token token) within = tt
has-distances code (Switch span) within = within span refl
