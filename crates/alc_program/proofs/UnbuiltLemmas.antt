-- The lines that are not run, and the least of some lines, one after another.
use Rattle.std.proofs.Common.{◌≡◌, ℕ, ◌+◌, ◌<◌, ◌||◌, Bool, true, false, not, cond, List, [], ◌∷◌, ◌++◌, length, get_or, take, map, Option, refl, sym, ap, subst, ◌∙◌, append_assoc}
use Rattle.std.specs.List.{filter, flat_map, list_any}
use Rattle.std.proofs.lemmas.List.{take_more, map-append}
use Rattle.std.proofs.lemmas.List.Elements.{filter-append}
use Rattle.std.proofs.lemmas.List.Folds.{list_any-append}
use Rattle.host_script.specs.declared.command.CommandLine.{CommandLine}
use Rattle.alc_program.specs.Unbuilt.{IsFirstOf, is_run, lines_not_run}

-- the same lines, of one element more
at_end : {E : Type 0} (es : List E) (i : ℕ) (e : E) → i < length es → e ≡ get_or es i e → take (i + 1) es ≡ take i es ++ e ∷ []
at_end es i e lt is = take_more es i e lt ∙ ap (λ x. take i es ++ x ∷ []) (sym is)

pub not_run-append : (all xs ys : List CommandLine) → lines_not_run all (xs ++ ys) ≡ lines_not_run all xs ++ lines_not_run all ys
not_run-append all xs ys =
    ap (map (λ (line : CommandLine). line.line)) (filter-append (λ line. not (is_run all line)) xs ys)
    ∙ map-append (λ (line : CommandLine). line.line) (filter (λ line. not (is_run all line)) xs) (filter (λ line. not (is_run all line)) ys)

one_not_run : (all : List CommandLine) (line : CommandLine) → lines_not_run all (line ∷ []) ≡ cond (is_run all line) [] (line.line ∷ [])
one_not_run all line = at (is_run all line)
  where
    at : (b : Bool) → map (λ (l : CommandLine). l.line) (cond (not b) (line ∷ []) []) ≡ cond b [] (line.line ∷ [])
    at true = refl
    at false = refl

-- the first of the lines of a thread, with one line more
pub line_next : (all lines : List CommandLine) (i : ℕ) (line : CommandLine) (runs : Bool) (numbers : List ℕ) (least now : Option ℕ) →
    i < length lines → line ≡ get_or lines i line → runs ≡ is_run all line → IsFirstOf least (numbers ++ lines_not_run all (take i lines)) →
    ((before : List ℕ) → IsFirstOf least before → IsFirstOf now (before ++ cond runs [] (line.line ∷ []))) →
    IsFirstOf now (numbers ++ lines_not_run all (take (i + 1) lines))
line_next all lines i line runs numbers least now within is run first step =
    let one : lines_not_run all (line ∷ []) ≡ cond runs [] (line.line ∷ []) =
    one_not_run all line ∙ ap (λ b. cond b [] (line.line ∷ [])) (sym run) in
    let more : numbers ++ lines_not_run all (take (i + 1) lines) ≡ (numbers ++ lines_not_run all (take i lines)) ++ cond runs [] (line.line ∷ []) =
    ap (λ ls. numbers ++ lines_not_run all ls) (at_end lines i line within is)
    ∙ ap (λ ns. numbers ++ ns) (not_run-append all (take i lines) (line ∷ []) ∙ ap (λ ns. lines_not_run all (take i lines) ++ ns) one)
    ∙ sym (append_assoc numbers (lines_not_run all (take i lines)) (cond runs [] (line.line ∷ []))) in
    subst (IsFirstOf now) (sym more) (step (numbers ++ lines_not_run all (take i lines)) first)

-- some line of some thread passes
pub any_of_threads : (test : CommandLine → Bool) (threads : List (List CommandLine)) →
    list_any (list_any test) threads ≡ list_any test (flat_map (λ own. own) threads)
any_of_threads test [] = refl
any_of_threads test (t ∷ ts) =
    ap (λ b. list_any test t || b) (any_of_threads test ts) ∙ sym (list_any-append test t (flat_map (λ own. own) ts))
