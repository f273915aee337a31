-- Quoted texts byte by byte: what is escaped is ASCII, and a longer character is spelled by its own bytes.
use Rattle.std.proofs.Common.{◌≡◌, ℕ, suc, ◌+◌, ◌-◌, ◌/◌, ◌%◌, ◌<◌, ◌≤◌, ◌⊎◌, inl, inr, Bool, true, false, List, [], ◌∷◌, ◌++◌, length, take, drop, refl, sym, ◌∙◌, ap, subst, append_assoc, append-nil, encode_utf8, arith, le-ltb, ltb-true, ltb-false}
use Rattle.std.specs.Prelude.{nat_lt, ◌==◌, ◌||◌, not, Option, Some, None, unwrap_or}
use Rattle.std.specs.List.{flat_map, position, position_or_len}
use Rattle.std.specs.Char.{IsScalar}
use Rattle.std.specs.Char.Escape.{encode_utf16}
use Rattle.std.specs.Char.Utf16.{surrogate_pair_char}
use Rattle.std.specs.Str.{IsUtf8, chars}
use Rattle.std.proofs.Math.Utf8.{encode, encodes, scalars, scalar, scalar_cases}
use Rattle.std.proofs.lemmas.Bool.{cond_both, or_parts, and_parts, ne_eqb, lt-leb, le-leb}
use Rattle.std.proofs.lemmas.Grind.{flat_map-append}
use Rattle.std.proofs.lemmas.List.{take-append-drop}
use Rattle.std.proofs.lemmas.List.Sums.{prefix_len-le-length}
use Rattle.std.proofs.lemmas.Str.{encodes-chars, scalars-chars, encode_ascii}
use Rattle.cli_words.specs.Text.{units_of}
use Rattle.host_report.specs.declared.line.Line.{Line}
use Rattle.host_report.specs.Line.{Puts}
use Rattle.host_report.proofs.LineLemmas.{rest_from, puts_then}
use Rattle.host_report.specs.Quote.{is_surrogate, is_escaped, unit_text, byte_text, units_text, IsApart}
use Rattle.host_report.proofs.QuoteLemmas.{first_pair, pair_of, apart_none, apart_then, apart_char}

-- a byte that is not escaped is spelled as itself
pub byte_plain : (byte : ℕ) → is_escaped byte ≡ false → byte_text byte ≡ byte ∷ []
byte_plain byte e = rw e refl

pub byte_escaped : (byte : ℕ) → is_escaped byte ≡ true → byte_text byte ≡ unit_text byte
byte_escaped byte e = rw e refl

beyond_plain : (byte : ℕ) → 128 ≤ byte → is_escaped byte ≡ false
beyond_plain byte high =
    rw (
      le-ltb byte 32 (omega arith),
      ne_eqb byte 34 (λ e. omega (arith, e)),
      ne_eqb byte 92 (λ e. omega (arith, e)),
      ne_eqb byte 127 (λ e. omega (arith, e)),
    ) refl

beyond : (byte : ℕ) → 128 ≤ byte → byte_text byte ≡ byte ∷ []
beyond byte high = byte_plain byte (beyond_plain byte high)

unescaped : (b : Bool) → not b ≡ true → b ≡ false
unescaped true e = sym e
unescaped false _ = refl

-- the bytes before the first that is escaped
pub plain_front : (bytes : List ℕ) → let plain = take (position_or_len is_escaped bytes) bytes in flat_map byte_text plain ≡ plain
plain_front [] = refl
plain_front (byte ∷ bytes) =
    let own : ℕ → Type 0 = λ n. flat_map byte_text (take n (byte ∷ bytes)) ≡ take n (byte ∷ bytes) in
    let rest = position_or_len is_escaped bytes in
    let next : suc rest ≡ 1 + rest = omega arith in
    cond_both (not (is_escaped byte)) (1 + rest) 0 own
    (λ e. subst own next
    (ap (λ t. t ++ flat_map byte_text (take rest bytes)) (byte_plain byte (unescaped (is_escaped byte) e))
    ∙ ap (λ t. byte ∷ t) (plain_front bytes)))
    (λ _. refl)

plain_of : (bytes : List ℕ) → unwrap_or (position is_escaped bytes) (length bytes) ≡ position_or_len is_escaped bytes
plain_of bytes =
    let plain = position_or_len is_escaped bytes in
    cond_both (nat_lt plain (length bytes)) (Some plain) None (λ found. unwrap_or found (length bytes) ≡ plain)
    (λ _. refl)
    (λ e. omega (arith, ltb-false plain (length bytes) e, prefix_len-le-length (λ byte. not (is_escaped byte)) bytes))

pub front_plain : (bytes : List ℕ) (n : ℕ) → n ≡ unwrap_or (position is_escaped bytes) (length bytes) →
    flat_map byte_text (take n bytes) ≡ take n bytes
front_plain bytes n e =
    subst (λ k. flat_map byte_text (take k bytes) ≡ take k bytes) (sym (e ∙ plain_of bytes)) (plain_front bytes)

-- what follows the first n bytes is spelled after them
pub texts_parted : (n : ℕ) (bytes : List ℕ) →
    flat_map byte_text bytes ≡ flat_map byte_text (take n bytes) ++ flat_map byte_text (drop n bytes)
texts_parted n bytes =
    ap (flat_map byte_text) (sym (take-append-drop n bytes))
    ∙ flat_map-append byte_text (take n bytes) (drop n bytes)

-- the bytes so far were put, and then some more
pub bytes_next : {S : Type 0} {written : S → Option (List ℕ)} {faults : S → ℕ} {old mid new : Line} {from via to : S} (n : ℕ) (bytes rest : List ℕ) →
    (done : List ℕ) × (flat_map byte_text bytes ≡ done ++ flat_map byte_text rest) × Puts written faults old from mid via done →
    Puts written faults mid via new to (flat_map byte_text (take n rest)) →
    (done : List ℕ) × (flat_map byte_text bytes ≡ done ++ flat_map byte_text (take (length rest - n) (drop n rest))) × Puts written faults old from new to done
bytes_next n bytes rest (done, whole, p) q = (
  done ++ flat_map byte_text (take n rest),
  whole ∙ ap (λ t. done ++ t) (texts_parted n rest)
      ∙ sym (append_assoc done (flat_map byte_text (take n rest)) (flat_map byte_text (drop n rest)))
      ∙ ap (λ t. (done ++ flat_map byte_text (take n rest)) ++ flat_map byte_text t) (sym (rest_from rest n)),
  puts_then p q,
)

-- a unit of ASCII is spelled as its byte
plain_unit : (c : ℕ) → c < 128 → is_escaped c ≡ false → unit_text c ≡ c ∷ []
plain_unit c low e =
    let control = or_parts (nat_lt c 32) (c == 34 || (c == 92 || c == 127)) e in
    let quote = or_parts (c == 34) (c == 92 || c == 127) control.1 in
    let last = or_parts (c == 92) (c == 127) quote.1 in
    rw (
      quote.0,
      last.0,
      ne_eqb c 10 (λ same. omega (arith, ltb-false c 32 control.0, same)),
      control.0,
      last.1,
      lt-leb 0xD800 c (omega (arith, low)),
    ) (encode_ascii c low)

ascii_text : (c : ℕ) → c < 128 → unit_text c ≡ byte_text c
ascii_text c low =
    cond_both (is_escaped c) (unit_text c) (c ∷ []) (λ text. unit_text c ≡ text) (λ _. refl) (plain_unit c low)

-- a unit beyond ASCII that is no surrogate is spelled as its character
no_surrogate : (c : ℕ) → (c < 0xD800) ⊎ ((0xE000 ≤ c) × (c < 0x11_0000)) → is_surrogate c ≡ false
no_surrogate c (inl below) = rw (lt-leb 0xD800 c below) refl
no_surrogate c (inr within) = rw (le-leb 0xD800 c (omega (arith, within.0)), le-ltb c 0xE000 within.0) refl

unit_beyond : (c : ℕ) → 128 ≤ c → IsScalar c → unit_text c ≡ encode_utf8 c
unit_beyond c high scalar =
    rw (
      ne_eqb c 34 (λ e. omega (arith, high, e)),
      ne_eqb c 92 (λ e. omega (arith, high, e)),
      ne_eqb c 10 (λ e. omega (arith, high, e)),
      le-ltb c 32 (omega (arith, high)),
      ne_eqb c 127 (λ e. omega (arith, high, e)),
      no_surrogate c (scalar_cases c scalar),
    ) refl

-- the bytes of a character beyond ASCII
two_beyond : (a b : ℕ) → 128 ≤ a → 128 ≤ b → flat_map byte_text (a ∷ b ∷ []) ≡ a ∷ b ∷ []
two_beyond a b p q = rw (beyond a p, beyond b q) refl

one_more : (a : ℕ) → 128 ≤ a → (bytes : List ℕ) → flat_map byte_text bytes ≡ bytes → flat_map byte_text (a ∷ bytes) ≡ a ∷ bytes
one_more a high bytes e = ap (λ t. t ++ flat_map byte_text bytes) (beyond a high) ∙ ap (λ t. a ∷ t) e

bytes_beyond : (c : ℕ) → 128 ≤ c → flat_map byte_text (encode_utf8 c) ≡ encode_utf8 c
unfolding encode
bytes_beyond c high =
    let own : List ℕ → Type 0 = λ bytes. flat_map byte_text bytes ≡ bytes in
    let next : ℕ → ℕ = λ bits. 128 + bits % 64 in
    cond_both (nat_lt c 128) _ _ own (λ low. absurd (omega (arith, high, ltb-true c 128 low)))
    (λ _. cond_both (nat_lt c 2048) _ _ own
    (λ _. two_beyond (192 + c / 64) (next c) (omega arith) (omega arith))
    (λ _. cond_both (nat_lt c 65536) _ _ own
    (λ _. one_more (224 + c / 4096) (omega arith) _ (two_beyond (next (c / 64)) (next c) (omega arith) (omega arith)))
    (λ _. one_more (240 + c / 262144) (omega arith) _
    (one_more (next (c / 4096)) (omega arith) _ (two_beyond (next (c / 64)) (next c) (omega arith) (omega arith))))))

-- the character of the pair that stands for a character beyond the first plane
same_char : (c : ℕ) → 0x1_0000 ≤ c → surrogate_pair_char (0xD800 + (c - 0x1_0000) / 0x400) (0xDC00 + (c - 0x1_0000) % 0x400) ≡ c
same_char c high = omega (arith, high)

few : (c : ℕ) → (c < 0xD800) ⊎ ((0xE000 ≤ c) × (c < 0x11_0000)) → c - 0x1_0000 < 0x10_0000
few c (inl below) = omega (arith, below)
few c (inr within) = omega (arith, within.1)

pair_text : (c : ℕ) → IsScalar c → 0x1_0000 ≤ c →
    units_text ((0xD800 + (c - 0x1_0000) / 0x400) ∷ (0xDC00 + (c - 0x1_0000) % 0x400) ∷ []) ≡ encode_utf8 c
pair_text c scalar high =
    first_pair (0xD800 + (c - 0x1_0000) / 0x400) (0xDC00 + (c - 0x1_0000) % 0x400) [] (pair_of (c - 0x1_0000) (few c (scalar_cases c scalar)))
    ∙ append-nil (encode_utf8 _)
    ∙ ap encode_utf8 (same_char c high)

-- the text of a character is that of its bytes
char_text : (c : ℕ) → IsScalar c → units_text (encode_utf16 c) ≡ flat_map byte_text (encode_utf8 c)
char_text c scalar =
    cond_both (nat_lt c 0x1_0000) (c ∷ []) _ (λ units. units_text units ≡ flat_map byte_text (encode_utf8 c))
    (λ _. cond_both (nat_lt c 128) true false (λ b. nat_lt c 128 ≡ b → unit_text c ≡ flat_map byte_text (encode_utf8 c))
    (λ low _. ascii_text c (ltb-true c 128 low) ∙ sym (append-nil (byte_text c)) ∙ ap (flat_map byte_text) (sym (encode_ascii c (ltb-true c 128 low))))
    (λ high _. unit_beyond c (ltb-false c 128 high) scalar ∙ sym (bytes_beyond c (ltb-false c 128 high)))
    (cond_both (nat_lt c 128) true false (λ b. nat_lt c 128 ≡ b) (λ e. e) (λ e. e)))
    (λ high. pair_text c scalar (ltb-false c 0x1_0000 high) ∙ sym (bytes_beyond c (omega (arith, ltb-false c 0x1_0000 high))))

-- the text of characters is that of their bytes, and they do not end within a pair
apart_chars : (characters : List ℕ) → scalars characters ≡ true → IsApart (flat_map encode_utf16 characters)
apart_chars [] _ = apart_none
apart_chars (c ∷ characters) e =
    let parts = and_parts (scalar c) (scalars characters) e in
    apart_then (encode_utf16 c) (flat_map encode_utf16 characters) (apart_char c parts.0) (apart_chars characters parts.1)

chars_text : (characters : List ℕ) → scalars characters ≡ true →
    units_text (flat_map encode_utf16 characters) ≡ flat_map byte_text (encodes characters)
chars_text [] _ = refl
chars_text (c ∷ characters) e =
    let parts = and_parts (scalar c) (scalars characters) e in
    apart_char c parts.0 (flat_map encode_utf16 characters)
    ∙ ap (λ t. t ++ units_text (flat_map encode_utf16 characters)) (char_text c parts.0)
    ∙ ap (λ t. flat_map byte_text (encode_utf8 c) ++ t) (chars_text characters parts.1)
    ∙ sym (flat_map-append byte_text (encode c) (encodes characters))

pub text_by_bytes : (bytes : List ℕ) → IsUtf8 bytes → flat_map byte_text bytes ≡ units_text (units_of bytes)
text_by_bytes bytes utf8 =
    ap (flat_map byte_text) (sym (encodes-chars bytes utf8)) ∙ sym (chars_text (chars bytes) (scalars-chars bytes utf8))

pub apart_text : (bytes : List ℕ) → IsUtf8 bytes → IsApart (units_of bytes)
apart_text bytes utf8 = apart_chars (chars bytes) (scalars-chars bytes utf8)
