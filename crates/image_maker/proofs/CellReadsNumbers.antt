-- What is read where a number of a column was written.
use Rattle.std.proofs.Common.{◌≡◌, ℕ, ◌%◌, ◌^◌, ◌<◌, List, ◌++◌, drop, get_or, refl, sym, ap, ◌∙◌, arith, add-zero}
use Rattle.std.specs.Int.{w16, w32, from_le_bytes, to_le_bytes}
use Rattle.std.proofs.lemmas.Nat.{from_le_bytes-to_le_bytes_2, from_le_bytes-to_le_bytes_4}
use Rattle.std.proofs.lemmas.List.{get_or-drop}
use Rattle.metadata_tables.specs.declared.layout.Width.{Width}
use Rattle.metadata_tables.specs.declared.layout.Width.TheVariants.{One, Two, Four}
use Rattle.metadata_tables.specs.Layout.{number_of}
use Rattle.image_maker.specs.Written.{word}

-- the first number that a width is too small for
abbrev pub limit_of : Width → ℕ
limit_of One = 2 ^ 8
limit_of Two = 2 ^ 16
limit_of Four = 2 ^ 32

number_of-word : (w : Width) (value : ℕ) (rest : List ℕ)
    → value < limit_of w → number_of w (word w value ++ rest) 0 ≡ value
number_of-word One value rest h = omega arith
number_of-word Two value rest h =
    let same : value % 2 ^ 16 ≡ value = omega arith in
    ap (λ n. from_le_bytes w16 (to_le_bytes w16 n ++ rest)) same ∙ from_le_bytes-to_le_bytes_2 value h
number_of-word Four value rest h =
    let same : value % 2 ^ 32 ≡ value = omega arith in
    ap (λ n. from_le_bytes w32 (to_le_bytes w32 n ++ rest)) same ∙ from_le_bytes-to_le_bytes_4 value h

number_of-drop : (w : Width) (bytes : List ℕ) (at : ℕ) → number_of w bytes at ≡ number_of w (drop at bytes) 0
number_of-drop One bytes at = ap (λ n. get_or bytes n 0) (sym (add-zero at)) ∙ sym (get_or-drop at bytes 0 0)
number_of-drop Two bytes at = refl
number_of-drop Four bytes at = refl

-- the number that stands where its bytes were written
pub number_at-word : (w : Width) (value : ℕ) (bytes rest : List ℕ) (at : ℕ) → drop at bytes ≡ word w value ++ rest
    → value < limit_of w → number_of w bytes at ≡ value
number_at-word w value bytes rest at there h =
    number_of-drop w bytes at ∙ ap (λ xs. number_of w xs 0) there ∙ number_of-word w value rest h
