-- What is read of bytes: a number, a text before a zero, and a part of a part.
use Rattle.std.proofs.Common.{◌≡◌, ℕ, suc, ◌+◌, ◌-◌, ◌^◌, ◌<◌, ◌≤◌, true, not, ◌==◌, List, [], ◌∷◌, ◌++◌, length, take, drop, Some, None, refl, sym, ap, ◌∙◌, arith, length-append, w32}
use Rattle.std.specs.Int.{from_le_bytes}
use Rattle.std.specs.List.{position_or_len}
use Rattle.std.proofs.lemmas.Bool.{and_parts, cond_below}
use Rattle.std.proofs.lemmas.List.{drop_at, drop-take}
use Rattle.std.proofs.lemmas.Nat.{from_le_bytes-to_le_bytes_4}
use Rattle.std.proofs.Math.Seq.{drop-drop, take-take, take-append-add}
use Rattle.cli_words.specs.Number.{number_at}
use Rattle.cli_words.specs.declared.span.Span.{Span}
use Rattle.cli_words.specs.Span.{cut, zero_after}
use Rattle.image_maker.specs.File.{long}
use Rattle.image_maker.specs.Sound.{has_no_zero}

-- a number of four bytes, after other bytes
pub long_after : (bytes front rest : List ℕ) (at n : ℕ) → n < 2 ^ 32 → bytes ≡ front ++ (long n ++ rest)
    → length front ≡ at → number_at w32 bytes at ≡ n
long_after bytes front rest at n small is there =
    ap (λ xs. number_at w32 xs at) is
    ∙ ap (from_le_bytes w32) (drop_at front (long n ++ rest) at there)
    ∙ from_le_bytes-to_le_bytes_4 n small

-- the first zero is the one after a text that has none
zero_place : (text rest : List ℕ) → has_no_zero text ≡ true
    → position_or_len (λ b. b == 0) (text ++ 0 ∷ rest) ≡ length text
zero_place [] rest e = refl
zero_place (b ∷ text) rest e =
    let parts = and_parts (not (b == 0)) (has_no_zero text) e in
    let more = zero_place text rest parts.1 in
    rw parts.0 (omega arith)

pub zero_found : (text rest : List ℕ) → has_no_zero text ≡ true → zero_after (text ++ 0 ∷ rest) ≡ Some (length text)
zero_found text rest e =
    let place = zero_place text rest e in
    let long = length-append text (0 ∷ rest) in
    let within : position_or_len (λ b. b == 0) (text ++ 0 ∷ rest) < length (text ++ 0 ∷ rest) = omega arith in
    sym (cond_below _ _ _ None within) ∙ ap Some place

-- the same among so many bytes
pub zero_found_within : (text rest : List ℕ) (n : ℕ) → has_no_zero text ≡ true → length text < n
    → zero_after (take n (text ++ 0 ∷ rest)) ≡ Some (length text)
zero_found_within text rest n e room =
    let more : ℕ = n - length text - 1 in
    let parts : n ≡ length text + suc more = omega arith in
    ap (λ k. zero_after (take k (text ++ 0 ∷ rest))) parts
    ∙ ap zero_after (take-append-add text (0 ∷ rest) (suc more))
    ∙ zero_found text (take more rest) e

-- a part of a part
pub cut_within : (bytes : List ℕ) (whole : Span) (index n : ℕ) → index + n ≤ whole.len
    → cut bytes (record { at = whole.at + index; len = n }) ≡ take n (drop index (cut bytes whole))
cut_within bytes whole index n h =
    let rest : ℕ = whole.len - index in
    let all : whole.len ≡ index + rest = omega arith in
    let from : List ℕ = drop whole.at bytes in
    ap (take n) (sym (drop-drop index whole.at bytes))
    ∙ sym (take-take n rest (drop index from) (omega arith))
    ∙ ap (take n) (sym (drop-take index rest from))
    ∙ ap (λ m. take n (drop index (take m from))) (sym all)
