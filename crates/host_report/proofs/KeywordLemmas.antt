-- Words that say of which kind something is, at the front of a text.
use Rattle.std.proofs.Common.{◌≡◌, ◌≢◌, ℕ, ◌+◌, ◌^◌, ◌<◌, Bool, true, false, List, [], ◌∷◌, ◌++◌, length, drop, Option, Some, None, refl, sym, ◌∙◌, ap, subst, arith, length-drop, ltb-true}
use Rattle.std.specs.Prelude.{nat_lt, ◌&&◌, ◌==◌, not, option_map, if◌then◌else◌}
use Rattle.std.specs.List.{list_all, position_or_len, AllByRecursion}
use Rattle.std.specs.Str.{IsAscii, IsUtf8, bytes_eq, is_utf8}
use Rattle.std.specs.Str.Parse.{without_leading_plus, digits_value}
use Rattle.std.proofs.lemmas.Bool.{false≢true, false_from_ne_true, and_parts, eq-eqb}
use Rattle.std.proofs.lemmas.Str.{IsUtf8-from_ascii, IsUtf8-from_is_utf8, is_utf8-from_IsUtf8}
use Rattle.std.proofs.lemmas.Str.Ascii.{IsAscii-nil, IsAscii-cons}
use Rattle.host_report.specs.FieldReading.{word_read, valued, is_numeral, parsed, number_read}
use Rattle.std.proofs.lemmas.Slice.Eq.{bytes_eq-Decides}
use Rattle.host_report.specs.Keyword.{keyword_read, beside}
use Rattle.host_report.specs.Reading.{IsTail, then_read}
use Rattle.host_report.proofs.FieldReadingLemmas.{Lacks, word_spelled}

-- a byte of ASCII that is no space
abbrev pub is_plain : ℕ → Bool
is_plain byte = nat_lt byte 128 && not (byte == 32)

abbrev pub is_keyword : List ℕ → Bool
is_keyword word = list_all is_plain word

no_space : (byte : ℕ) → not (byte == 32) ≡ true → byte ≢ 32
no_space byte test same = false≢true (sym (ap not (eq-eqb byte 32 same)) ∙ test)

lacks : (word : List ℕ) → is_keyword word ≡ true → Lacks 32 word
lacks [] all = tt
lacks (byte ∷ word) all =
    let parts = and_parts (is_plain byte) (list_all is_plain word) all in
    (no_space byte (and_parts (nat_lt byte 128) (not (byte == 32)) parts.0).1, lacks word parts.1)

ascii : (word : List ℕ) → is_keyword word ≡ true → IsAscii word
ascii [] all = IsAscii-nil
ascii (byte ∷ word) all =
    let parts = and_parts (is_plain byte) (list_all is_plain word) all in
    IsAscii-cons byte word (ltb-true byte 128 (and_parts (nat_lt byte 128) (not (byte == 32)) parts.0).0) (ascii word parts.1)

pub plain_word : (word tail : List ℕ) → is_keyword word ≡ true → IsTail tail →
    word_read (word ++ tail) ≡ (word, drop 1 tail)
plain_word word tail known ends = word_spelled word tail (lacks word known) ends

pub keyword_spelled : (word tail : List ℕ) → is_keyword word ≡ true → IsTail tail →
    keyword_read (word ++ tail) ≡ Some (word, drop 1 tail)
unfolding keyword_read
keyword_spelled word tail known ends =
    ap (λ (parts : List ℕ × List ℕ). if is_utf8 parts.0 then Some parts else None) (plain_word word tail known ends)
    ∙ ap (λ (utf8 : Bool). if utf8 then Some (word, drop 1 tail) else None)
    (is_utf8-from_IsUtf8 word (IsUtf8-from_ascii word (ascii word known)))

-- what is read behind such a word
pub worded : {V : Type 0} (word tail : List ℕ) (next : List ℕ → List ℕ → Option V) → is_keyword word ≡ true → IsTail tail →
    then_read (keyword_read (word ++ tail)) next ≡ next word (drop 1 tail)
worded word tail next known ends = ap (λ read. then_read read next) (keyword_spelled word tail known ends)

-- such a word is no number
pub no_number : (word tail : List ℕ) → is_keyword word ≡ true → is_numeral (without_leading_plus word) ≡ false → IsTail tail →
    number_read (word ++ tail) ≡ None
no_number word tail known none ends =
    let small = nat_lt (digits_value 10 (without_leading_plus word)) (2 ^ 32) in
    ap (valued (parsed 32)) (plain_word word tail known ends)
    ∙ ap (option_map {T = ℕ} {U = ℕ × List ℕ} (λ read. (read, drop 1 tail)))
    (ap (λ (test : Bool). if test && (is_numeral (without_leading_plus word) && small) then Some (digits_value 10 (without_leading_plus word)) else None)
    (is_utf8-from_IsUtf8 word (IsUtf8-from_ascii word (ascii word known)))
    ∙ ap (λ (test : Bool). if test && small then Some (digits_value 10 (without_leading_plus word)) else None) none)

-- what the code reads at the front
pub keyword_found : (text bytes name rest : List ℕ) →
    bytes ≡ (word_read text).0 → rest ≡ (word_read text).1 → name ≡ bytes → IsUtf8 bytes →
    keyword_read text ≡ Some (name, rest)
unfolding keyword_read
keyword_found text bytes name rest front back same utf8 =
    ap (λ (test : Bool). if test then Some (word_read text) else None) (ap is_utf8 (sym front) ∙ is_utf8-from_IsUtf8 bytes utf8)
    ∙ ap (λ (word : List ℕ). Some (word, (word_read text).1)) (sym front ∙ sym same)
    ∙ ap (λ (behind : List ℕ). Some (name, behind)) (sym back)

pub keyword_missed : (text bytes : List ℕ) → bytes ≡ (word_read text).0 → ¬ IsUtf8 bytes → keyword_read text ≡ None
unfolding keyword_read
keyword_missed text bytes front not_utf8 =
    ap (λ (test : Bool). if test then Some (word_read text) else None)
    (ap is_utf8 (sym front) ∙ false_from_ne_true (is_utf8 bytes) (λ utf8. not_utf8 (IsUtf8-from_is_utf8 bytes utf8)))

-- what stands beside no word of a table
pub not_word : (word other : List ℕ) → word ≢ other → bytes_eq word other ≡ false
not_word word other differs =
    false_from_ne_true (bytes_eq word other) (λ same. differs ((bytes_eq-Decides word other).0 same))

pub beside_none : {T : Type 0} (word : List ℕ) (rows : List (List ℕ × T)) →
    AllByRecursion (λ (row : List ℕ × T). word ≢ row.0) rows → beside word rows ≡ None
beside_none word [] all = refl
beside_none {T = K} word (row ∷ rows) all =
    ap (λ (test : Bool). if test then Some row.1 else beside {T = K} word rows) (not_word word row.0 all.0)
    ∙ beside_none word rows all.1

-- what a reading leaves is shorter
pub word_shorter : (text : List ℕ) → 0 < length text → length (word_read text).1 < length text
word_shorter text some =
    let at = position_or_len (λ byte. byte == 32) text in
    omega (arith, length-drop (at + 1) text)

valued_rest : {V : Type 0} (there : Option V) (behind : List ℕ) (v : V) (rest : List ℕ) →
    option_map {U = (V × List ℕ)} (λ read. (read, behind)) there ≡ Some (v, rest) → behind ≡ rest
valued_rest None behind v rest same = cc
valued_rest {V = K} (Some read) behind v rest same =
    let pair : ◌≡◌ {A = K × List ℕ} (read, behind) (v, rest) = cc in
    ap (λ (parts : K × List ℕ). parts.1) pair

pub number_shorter : (text : List ℕ) (n : ℕ) (rest : List ℕ) → 0 < length text → number_read text ≡ Some (n, rest) → length rest < length text
number_shorter text n rest some read =
    subst (λ behind. length behind < length text) (valued_rest (parsed 32 (word_read text).0) (word_read text).1 n rest read) (word_shorter text some)
