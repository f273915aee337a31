-- One table more, where the bits and the counts of tables are written.
use Rattle.std.proofs.Common.{◌≡◌, ℕ, ◌+◌, ◌*◌, ◌^◌, Bool, true, false, cond, nat_lt, List, [], ◌∷◌, ◌++◌, if◌then◌else◌, refl, ap, ap₂, sym, ◌∙◌, arith, append_assoc, append-nil}
use Rattle.std.specs.Int.{bit_at}
use Rattle.std.specs.Int.Bits.{bit_and, bit_or, or_zero_r}
use Rattle.std.specs.List.{flat_map}
use Rattle.std.proofs.lemmas.Nat.{or_disjoint}
use Rattle.std.proofs.lemmas.Nat.Bits.{and_pow, bit_at_above}
use Rattle.std.proofs.lemmas.Grind.{flat_map-append}
use Rattle.image_maker.specs.File.{long, bits_of}
use Rattle.image_maker.proofs.TableBits.{digit, chosen, chosen_next, bits_next, bits_small}
use Rattle.image_maker.proofs.TablePlaces.{has_rows}

-- the bits of the tables below one that have rows, and their counts
abbrev pub bits_below : (ℕ → ℕ) → ℕ → ℕ
bits_below counts n = bits_of (chosen (has_rows counts) n)

abbrev pub counts_below : (ℕ → ℕ) → ℕ → List ℕ
counts_below counts n = flat_map (λ t. long (counts t)) (chosen (has_rows counts) n)

-- a bit above the others is added
pub or_one : (rowed : Bool) (n rest : ℕ) → bit_and rest (2 ^ n) ≡ 0
    → bit_or rest (if rowed then 2 ^ n else 0) ≡ digit rowed * 2 ^ n + rest
or_one true n rest apart = or_disjoint rest (2 ^ n) apart ∙ omega arith
or_one false n rest apart = or_zero_r rest ∙ omega arith

pub bit_next : (counts : ℕ → ℕ) (n before bit after : ℕ) → before ≡ bits_below counts n
    → bit ≡ (if nat_lt 0 (counts n) then 2 ^ n else 0)
    → after ≡ bit_or before bit → after ≡ bits_below counts (n + 1)
bit_next counts n before bit after told one both =
    let rest = bits_below counts n in
    let above : bit_at rest n ≡ 0 = bit_at_above rest n n (bits_small (has_rows counts) n) (omega arith) in
    let none : bit_at rest n * 2 ^ n ≡ 0 = ap (λ d. d * 2 ^ n) above ∙ omega arith in
    both
    ∙ ap₂ (λ x y. bit_or x y) told one
    ∙ or_one (has_rows counts n) n rest (and_pow rest n ∙ none)
    ∙ sym (bits_next (has_rows counts) n)

one_count : (counts : ℕ → ℕ) (n : ℕ) (rowed : Bool)
    → flat_map (λ t. long (counts t)) (cond rowed (n ∷ []) []) ≡ cond rowed (long (counts n)) []
one_count counts n true = append-nil (long (counts n))
one_count counts n false = refl

pub count_next : (counts : ℕ → ℕ) (n : ℕ) (out before after : List ℕ)
    → before ≡ out ++ counts_below counts n
    → after ≡ before ++ (if nat_lt 0 (counts n) then long (counts n) else [])
    → after ≡ out ++ counts_below counts (n + 1)
count_next counts n out before after written more =
    let f = λ (t : ℕ). long (counts t) in
    let rowed = has_rows counts n in
    more
    ∙ ap₂ (λ xs ys. xs ++ ys) written (sym (one_count counts n rowed))
    ∙ append_assoc out (counts_below counts n) _
    ∙ ap (λ xs. out ++ xs) (sym (flat_map-append f (chosen (has_rows counts) n) (cond rowed (n ∷ []) [])))
    ∙ ap (λ xs. out ++ flat_map f xs) (sym (chosen_next (has_rows counts) n))
