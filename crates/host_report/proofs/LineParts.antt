-- Lemmas on the lines of a text.
use Rattle.std.proofs.Common.{◌≡◌, ℕ, ◌+◌, List, [], ◌∷◌, ◌++◌, refl, sym, ◌∙◌, ap, append_assoc, append-nil}
use Rattle.std.specs.Prelude.{codes}
use Rattle.std.specs.List.{AllByRecursion}
use Rattle.std.proofs.lemmas.Grind.{flat_map-append}
use Rattle.host_report.specs.ReadBack.{IsUnbroken, lines_text}

-- what holds of each element of two lists
pub all_both : {T : Type 0} (P : T → Type 0) (xs ys : List T) → AllByRecursion P xs → AllByRecursion P ys → AllByRecursion P (xs ++ ys)
all_both P [] ys p q = q
all_both P (x ∷ xs) ys p q = (p.0, all_both P xs ys p.1 q)

pub all_left : {T : Type 0} (P : T → Type 0) (xs ys : List T) → AllByRecursion P (xs ++ ys) → AllByRecursion P xs
all_left P [] ys p = tt
all_left P (x ∷ xs) ys p = (p.0, all_left P xs ys p.1)

pub all_push : {T : Type 0} (P : T → Type 0) (xs : List T) (x : T) → AllByRecursion P xs → P x → AllByRecursion P (xs ++ x ∷ [])
all_push P xs x p q = all_both P xs (x ∷ []) p (q, tt)

-- the first line ends at the first LF
pub same_line : (line other after rest : List ℕ) → IsUnbroken line → IsUnbroken other →
    line ++ 10 ∷ after ≡ other ++ 10 ∷ rest → (line ≡ other) × (after ≡ rest)
same_line [] [] after rest p q e = (refl, cc)
same_line [] (b ∷ other) after rest p q e = absurd (q.0 (cc))
same_line (b ∷ line) [] after rest p q e = absurd (p.0 (cc))
same_line (b ∷ line) (c ∷ other) after rest p q e =
    let next : line ++ 10 ∷ after ≡ other ++ 10 ∷ rest = cc in
    let both = same_line line other after rest p.1 q.1 next in
    let first : b ≡ c = cc in
    let same : line ≡ other = both.0 in
    (cc, both.1)

-- what has no LF is no line
pub no_line : (rest line after : List ℕ) → IsUnbroken rest → rest ≡ line ++ 10 ∷ after → ⊥
no_line [] [] after p e = cc
no_line [] (c ∷ line) after p e = cc
no_line (b ∷ rest) [] after p e = p.0 (cc)
no_line (b ∷ rest) (c ∷ line) after p e = no_line rest line after p.1 (cc)

pub line_then : (line : List ℕ) (lines : List (List ℕ)) (rest : List ℕ) → lines_text (line ∷ lines) ++ rest ≡ line ++ 10 ∷ (lines_text lines ++ rest)
line_then line lines rest =
    append_assoc (line ++ codes "\n") (lines_text lines) rest
    ∙ append_assoc line (codes "\n") (lines_text lines ++ rest)

pub line_last : (lines : List (List ℕ)) (line : List ℕ) → lines_text (lines ++ line ∷ []) ≡ lines_text lines ++ (line ++ codes "\n")
line_last lines line =
    flat_map-append (λ l. l ++ codes "\n") lines (line ∷ [])
    ∙ ap (λ t. lines_text lines ++ t) (append-nil (line ++ codes "\n"))

pub lines_both : (lines others : List (List ℕ)) → lines_text (lines ++ others) ≡ lines_text lines ++ lines_text others
lines_both lines others = flat_map-append (λ l. l ++ codes "\n") lines others

-- lines at the front of lines are the first of them
pub lines_front : (lines others : List (List ℕ)) (rest : List ℕ) →
    AllByRecursion IsUnbroken lines → AllByRecursion IsUnbroken others → lines_text lines ++ rest ≡ lines_text others →
    (more : List (List ℕ)) × (others ≡ lines ++ more) × (rest ≡ lines_text more)
lines_front [] others rest p q e = (others, refl, e)
lines_front (line ∷ lines) [] rest p q e =
    absurd (no_line [] line (lines_text lines ++ rest) tt (sym e ∙ line_then line lines rest))
lines_front (line ∷ lines) (other ∷ others) rest p q e =
    let both = same_line line other (lines_text lines ++ rest) (lines_text others ++ []) p.0 q.0
    (sym (line_then line lines rest) ∙ e ∙ sym (append-nil (lines_text (other ∷ others))) ∙ line_then other others []) in
    let next = lines_front lines others rest p.1 q.1 (both.1 ∙ append-nil (lines_text others)) in
    let same : line ≡ other = both.0 in
    let more : others ≡ lines ++ next.0 = next.1 in
    (next.0, cc, next.2)

-- a rest without an LF that is lines is none
pub rest_none : (rest : List ℕ) (more : List (List ℕ)) → IsUnbroken rest → rest ≡ lines_text more → (more ≡ []) × (rest ≡ [])
rest_none rest [] p e = (refl, e)
rest_none rest (line ∷ lines) p e =
    absurd (no_line rest line (lines_text lines ++ []) p (e ∙ sym (append-nil (lines_text (line ∷ lines))) ∙ line_then line lines []))
