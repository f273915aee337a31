-- Texts in UTF-16, character by character.
use Rattle.std.proofs.Common.{◌≡◌, ℕ, ◌+◌, ◌/◌, ◌%◌, ◌<◌, ◌≤◌, true, false, not, ◌&&◌, ◌==◌, List, [], ◌∷◌, ◌++◌, length, drop, Option, Some, None, refl, sym, ap, ◌∙◌, arith}
use Rattle.std.specs.Prelude.{encode_utf8, encode_utf8_all, min, nat_lt, map}
use Rattle.std.specs.Option.{unwrap_or, option_eq}
use Rattle.std.specs.Char.{len_utf8}
use Rattle.std.specs.Char.Utf16.{utf16_chars}
use Rattle.std.proofs.lemmas.Bool.{eqb-true, cond_both}
use Rattle.std.proofs.lemmas.Bool.Decides.{nat_tests}
use Rattle.std.proofs.lemmas.List.{length-append, nil_from_length}
use Rattle.std.proofs.lemmas.List.Folds.{list_all-append}
use Rattle.std.proofs.lemmas.Str.{length-encode}
use lib.Utf8.{next}
use lib.Dec.{lit<}
use Rattle.cli_words.specs.Text.{bytes_of}
use Rattle.image_maker.specs.Sound.{has_no_zero, is_whole}
use Rattle.image_maker.specs.Tally.{most}
use Rattle.cli_words.specs.Character.{IsFirst}

not_zero : (a b : ℕ) → 0 < a → not (a + b == 0) ≡ true
not_zero a b some = grind (arith, nat_tests)

two : (c : ℕ) → has_no_zero ((192 + c / 64) ∷ next c ∷ []) ≡ true
two c = rw (not_zero 192 (c / 64) (lit< tt), not_zero 128 (c % 64) (lit< tt)) refl

three : (c : ℕ) → has_no_zero ((224 + c / 4096) ∷ next (c / 64) ∷ next c ∷ []) ≡ true
three c = rw (
  not_zero 224 (c / 4096) (lit< tt),
  not_zero 128 (c / 64 % 64) (lit< tt),
  not_zero 128 (c % 64)
      (lit< tt),
) refl

four : (c : ℕ) → has_no_zero ((240 + c / 262144) ∷ next (c / 4096) ∷ next (c / 64) ∷ next c ∷ []) ≡ true
four c =
    rw (
      not_zero 240 (c / 262144) (lit< tt),
      not_zero 128 (c / 4096 % 64) (lit< tt),
      not_zero 128 (c / 64 % 64) (lit< tt),
      not_zero 128 (c % 64) (lit< tt),
    ) refl

abbrev IsWhole : List ℕ → Type 0
IsWhole bytes = has_no_zero bytes ≡ true

-- no byte of a character but 0 is 0
spelled_whole : (c : ℕ) → (c == 0) ≡ false → has_no_zero (encode_utf8 c) ≡ true
unfolding lib.Utf8.encode
spelled_whole c some =
    cond_both (nat_lt c 0x80) (c ∷ []) _ IsWhole (λ _. ap (λ b. not b && true) some)
    (λ _. cond_both (nat_lt c 0x800) ((192 + c / 64) ∷ next c ∷ []) _ IsWhole (λ _. two c)
    (λ _. cond_both (nat_lt c 0x10000) ((224 + c / 4096) ∷ next (c / 64) ∷ next c ∷ []) _ IsWhole (λ _. three c)
    (λ _. four c)))

module _ (units : List ℕ) (first : Option ℕ × ℕ) (is : IsFirst units first) where
  pub bytes_next : bytes_of units ≡ encode_utf8 (unwrap_or first.0 0xFFFD) ++ bytes_of (drop first.1 units)
  bytes_next = ap (λ cs. encode_utf8_all (map (λ o. unwrap_or o 0xFFFD) cs)) is.spelled

  pub zero_next : (unwrap_or first.0 0xFFFD == 0) ≡ false
      → has_no_zero (bytes_of (drop first.1 units)) ≡ has_no_zero (bytes_of units)
  zero_next e =
      sym (ap has_no_zero bytes_next ∙ list_all-append (λ b. not (b == 0)) (encode_utf8 (unwrap_or first.0 0xFFFD)) _
      ∙ ap (λ b. b && has_no_zero (bytes_of (drop first.1 units))) (spelled_whole _ e))

  pub len_next : (len more : ℕ) → more ≡ len_utf8 (unwrap_or first.0 0xFFFD)
      → min (min (len + more) most + length (bytes_of (drop first.1 units))) most
      ≡ min (len + length (bytes_of units)) most
  len_next len more e =
      let long = ap length bytes_next ∙ length-append (encode_utf8 (unwrap_or first.0 0xFFFD))
      (bytes_of (drop first.1 units)) in
      let own = length-encode (unwrap_or first.0 0xFFFD) in
      omega arith

pub no_zero_char : (o : Option ℕ) → option_eq (λ a b. a == b) o (Some 0) ≡ false → (unwrap_or o 0xFFFD == 0) ≡ false
no_zero_char (Some c) e = e
no_zero_char None e = refl

-- the rest of a text after a character
module _ (units : List ℕ) (rest part : List ℕ) (first : Option ℕ × ℕ) (is : IsFirst rest first)
    (cut : part ≡ drop first.1 rest) where
  pub zero_kept : (unwrap_or first.0 0xFFFD == 0) ≡ false → has_no_zero (bytes_of rest) ≡ has_no_zero (bytes_of units)
      → has_no_zero (bytes_of part) ≡ has_no_zero (bytes_of units)
  zero_kept apart before = ap (λ r. has_no_zero (bytes_of r)) cut ∙ zero_next rest first is apart ∙ before

  pub len_kept : (len more next : ℕ) → next ≡ min (len + more) most → more ≡ len_utf8 (unwrap_or first.0 0xFFFD)
      → min (len + length (bytes_of rest)) most ≡ min (length (bytes_of units)) most
      → min (next + length (bytes_of part)) most ≡ min (length (bytes_of units)) most
  len_kept len more next e long before =
      ap (λ n. min (n + length (bytes_of part)) most) e
      ∙ ap (λ r. min (min (len + more) most + length (bytes_of r)) most) cut
      ∙ len_next rest first is len more long ∙ before

-- nothing is left of a text
module _ (units rest : List ℕ) (none : (length rest == 0) ≡ true) where
  empty : rest ≡ []
  empty = nil_from_length rest (eqb-true (length rest) 0 none)

  pub whole_end : is_whole rest ≡ is_whole units → true ≡ is_whole units
  unfolding utf16_chars
  whole_end e = sym (ap is_whole empty) ∙ e

  pub zero_end : has_no_zero (bytes_of rest) ≡ has_no_zero (bytes_of units) → true ≡ has_no_zero (bytes_of units)
  unfolding utf16_chars
  zero_end e = sym (ap (λ r. has_no_zero (bytes_of r)) empty) ∙ e

  pub len_end : (len : ℕ) → len ≤ most → min (len + length (bytes_of rest)) most ≡ min (length (bytes_of units)) most
      → len ≡ min (length (bytes_of units)) most
  unfolding utf16_chars
  len_end len fits e =
      let here : length (bytes_of rest) ≡ 0 = ap (λ r. length (bytes_of r)) empty in
      omega arith
