-- What the reader takes from the text of a field, and what a field that was read can be.
use Rattle.std.proofs.Common.{◌≡◌, ◌≢◌, ℕ, suc, ◌+◌, ◌^◌, ◌<◌, ◌≤◌, Bool, true, false, List, [], ◌∷◌, ◌++◌, length, take, drop, Option, Some, None, Result, Ok, Err, refl, sym, ◌∙◌, ap, subst, arith, decimal, lt-ltb, ltb-true, ltb-false}
use Rattle.std.specs.Prelude.{ℤ, pos, negsuc, nat_lt, ◌==◌, ◌&&◌, if◌then◌else◌, FitsSigned, not, unwrap_or}
use Rattle.std.specs.Char.{digit_value}
use Rattle.std.specs.Fmt.{signed_decimal}
use Rattle.std.specs.Int.{Width, w32, w64}
use Rattle.std.specs.Int.Signed.{mag}
use Rattle.std.specs.List.{position, position_or_len, list_all, AllByRecursion}
use Rattle.std.specs.Option.{option_map}
use Rattle.std.specs.Result.{OkIff}
use Rattle.std.specs.Str.{IsUtf8, is_utf8}
use Rattle.std.specs.Str.Parse.{AllDigits, IsNumeral, digits_value, signed_digits_value, without_leading_plus, without_leading_sign}
use Rattle.std.proofs.Math.Seq.{take-append_seam, drop-append-add}
use Rattle.std.proofs.lemmas.Bool.{false≢true, false_from_ne_true, and_from, and_left, and_parts, ne_eqb, eq-eqb, cond-true, cond-false, cond_both}
use Rattle.std.proofs.lemmas.Fmt.{decimal_is_IsNumeral, IsAscii-decimal, IsAscii-signed, parse-decimal, parse-signed_decimal}
use Rattle.std.proofs.lemmas.Int.{to_z-of_z}
use Rattle.std.proofs.lemmas.List.Sums.{prefix_len-le-length}
use Rattle.std.proofs.lemmas.Str.{IsUtf8-from_ascii, IsUtf8-from_is_utf8, is_utf8-from_IsUtf8}
use Rattle.host_report.specs.Reading.{IsTail}
use Rattle.host_report.specs.FieldReading.{cut_read, word_read, valued, is_numeral, parsed, signed_parsed, number_read, signed_read, int_read, long_read}
use mir.Val.{hbits, of_z, to_z}

-- no such byte is among these
abbrev pub Lacks : ℕ → List ℕ → Type 0
Lacks byte text = AllByRecursion (λ other. other ≢ byte) text

-- nothing, or the byte and more
abbrev pub Begins : ℕ → List ℕ → Type 0
Begins byte [] = Unit {0}
Begins byte (other ∷ text) = other ≡ byte

pub tail_begins : (tail : List ℕ) → IsTail tail → Begins 32 tail
tail_begins [] ends = tt
tail_begins (byte ∷ tail) ends = ends

place_next : (byte other : ℕ) (text : List ℕ) → other ≢ byte →
    position_or_len (λ other. other == byte) (other ∷ text) ≡ suc (position_or_len (λ other. other == byte) text)
place_next byte other text differs = rw (ne_eqb other byte differs) (omega arith)

place_here : (byte other : ℕ) (text : List ℕ) → other ≡ byte → position_or_len (λ other. other == byte) (other ∷ text) ≡ 0
place_here byte other text same = rw (eq-eqb other byte same) refl

place_spelled : (byte : ℕ) (front tail : List ℕ) → Lacks byte front → Begins byte tail →
    position_or_len (λ other. other == byte) (front ++ tail) ≡ length front
place_spelled byte [] [] lacks ends = refl
place_spelled byte [] (other ∷ tail) lacks ends = place_here byte other tail ends
place_spelled byte (other ∷ front) tail lacks ends =
    place_next byte other (front ++ tail) lacks.0 ∙ ap suc (place_spelled byte front tail lacks.1 ends)

-- a place that was found, or the end
pub place_is : (test : ℕ → Bool) (text : List ℕ) (found : Option ℕ) (n : ℕ) → found ≡ position test text → n ≡ unwrap_or found (length text) →
    n ≡ position_or_len test text
place_is test text found n is e =
    e ∙ ap (λ f. unwrap_or f (length text)) is
    ∙ cond_both (nat_lt (position_or_len test text) (length text)) (Some (position_or_len test text)) None (λ f. unwrap_or f (length text) ≡ position_or_len test text)
    (λ _. refl)
    (λ past. omega (arith, ltb-false (position_or_len test text) (length text) past, prefix_len-le-length (λ byte. not (test byte)) text))

pub place_within : (test : ℕ → Bool) (text : List ℕ) → position_or_len test text ≤ length text
place_within test text = prefix_len-le-length (λ byte. not (test byte)) text

-- what stands before the byte, and behind it
pub cut_spelled : (byte : ℕ) (front tail : List ℕ) → Lacks byte front → Begins byte tail →
    cut_read byte (front ++ tail) ≡ (front, drop 1 tail)
cut_spelled byte front tail lacks ends =
    ap (λ n. (take n (front ++ tail), drop (n + 1) (front ++ tail))) (place_spelled byte front tail lacks ends)
    ∙ ap (λ text. (text, drop (length front + 1) (front ++ tail))) (take-append_seam front tail)
    ∙ ap (λ text. (front, text)) (drop-append-add front tail 1)

pub word_spelled : (word tail : List ℕ) → Lacks 32 word → IsTail tail → word_read (word ++ tail) ≡ (word, drop 1 tail)
word_spelled word tail lacks ends = cut_spelled 32 word tail lacks (tail_begins tail ends)

-- what a text has as its value, read before the byte
pub valued_spelled : {V : Type 0} (value : List ℕ → Option V) (byte : ℕ) (text tail : List ℕ) (v : V) →
    Lacks byte text → Begins byte tail → value text ≡ Some v →
    valued value (cut_read byte (text ++ tail)) ≡ Some (v, drop 1 tail)
valued_spelled value byte text tail v lacks ends is =
    ap (valued value) (cut_spelled byte text tail lacks ends)
    ∙ ap (option_map (λ read. (read, drop 1 tail))) is

-- what was read so is the value of that word
pub valued_is : {V : Type 0} (value : List ℕ → Option V) (parts : List ℕ × List ℕ) (v : V) (rest : List ℕ) →
    valued value parts ≡ Some (v, rest) → value parts.0 ≡ Some v
valued_is {V = T} value parts v rest = of_read T (value parts.0) parts.1 v rest
  where
    of_read : (T : Type 0) (there : Option T) (behind : List ℕ) (v : T) (rest : List ℕ) →
        option_map {U = (T × List ℕ)} (λ read. (read, behind)) there ≡ Some (v, rest) → there ≡ Some v
    of_read T None behind v rest same = ap (option_map {T = (T × List ℕ)} (λ read. read.0)) same
    of_read T (Some read) behind v rest same = ap (option_map {T = (T × List ℕ)} (λ read. read.0)) same

-- decimal digits, as a test
digits_tested : (digits : List ℕ) → AllDigits 10 digits → list_all (λ byte. nat_lt (digit_value byte) 10) digits ≡ true
digits_tested [] all = refl
digits_tested (digit ∷ digits) all =
    and_from _ _ (lt-ltb (digit_value digit) 10 all.0) (digits_tested digits all.1)

digits_from : (digits : List ℕ) → list_all (λ byte. nat_lt (digit_value byte) 10) digits ≡ true → AllDigits 10 digits
digits_from [] all = tt
digits_from (digit ∷ digits) all =
    let parts = and_parts _ _ all in
    (ltb-true (digit_value digit) 10 parts.0, digits_from digits parts.1)

pub numeral_tested : (digits : List ℕ) → IsNumeral 10 digits → is_numeral digits ≡ true
numeral_tested digits is = and_from _ _ (lt-ltb 0 (length digits) is.0) (digits_tested digits is.1)

pub numeral_from : (digits : List ℕ) → is_numeral digits ≡ true → IsNumeral 10 digits
numeral_from digits passes =
    let parts = and_parts _ _ passes in
    (ltb-true 0 (length digits) parts.0, digits_from digits parts.1)

-- what a test gives, as a result that is a value exactly where it passes
given : {T : Type 0} → Option T → Result T (Unit {0})
given None = Err tt
given (Some x) = Ok x

given_iff : {T : Type 0} (test : Bool) (P : Type 0) (v : T) → (test ≡ true → P) → (P → test ≡ true) →
    OkIff (given (if test then Some v else None)) P v
unfolding given
given_iff true P v to from = (to refl, refl)
given_iff false P v to from = λ holds. false≢true (from holds)

given_some : {T : Type 0} (there : Option T) (v : T) → given there ≡ Ok v → there ≡ Some v
unfolding given
given_some None v same = cc
given_some (Some x) v same = cc

-- a number is parsed as the library says
abbrev IsParsed : ℕ → List ℕ → Type 0
IsParsed bits text =
    IsNumeral 10 (without_leading_plus text) × (digits_value 10 (without_leading_plus text) < 2 ^ bits)

abbrev is_parsed : ℕ → List ℕ → Bool
is_parsed bits text =
    is_utf8 text && (is_numeral (without_leading_plus text) && nat_lt (digits_value 10 (without_leading_plus text)) (2 ^ bits))

parsed_to : (bits : ℕ) (text : List ℕ) → is_parsed bits text ≡ true → IsParsed bits text
parsed_to bits text passes =
    let parts = and_parts _ _ (and_parts _ _ passes).1 in
    (numeral_from (without_leading_plus text) parts.0, ltb-true (digits_value 10 (without_leading_plus text)) (2 ^ bits) parts.1)

parsed_from : (bits : ℕ) (text : List ℕ) → IsUtf8 text → IsParsed bits text → is_parsed bits text ≡ true
parsed_from bits text utf8 is =
    and_from _ _ (is_utf8-from_IsUtf8 text utf8)
    (and_from _ _ (numeral_tested (without_leading_plus text) is.0) (lt-ltb (digits_value 10 (without_leading_plus text)) (2 ^ bits) is.1))

pub parsed_some : (bits : ℕ) (text here : List ℕ) (n : ℕ) → here ≡ text → IsUtf8 text →
    IsParsed bits here × (n ≡ digits_value 10 (without_leading_plus here)) → parsed bits text ≡ Some n
parsed_some bits text here n same utf8 h =
    let is : IsParsed bits text = subst (IsParsed bits) same h.0 in
    cond-true (is_parsed bits text) (Some (digits_value 10 (without_leading_plus text))) None (parsed_from bits text utf8 is)
    ∙ ap (λ t. Some (digits_value 10 (without_leading_plus t))) (sym same)
    ∙ ap Some (sym h.1)

pub parsed_none : (bits : ℕ) (text here : List ℕ) → here ≡ text → (IsParsed bits here → ⊥) → parsed bits text ≡ None
parsed_none bits text here same differs =
    cond-false (is_parsed bits text) (Some (digits_value 10 (without_leading_plus text))) None
    (false_from_ne_true (is_parsed bits text) (λ passes. differs (subst (IsParsed bits) (sym same) (parsed_to bits text passes))))

pub unparsed : (bits : ℕ) (text : List ℕ) → (IsUtf8 text → ⊥) → parsed bits text ≡ None
unparsed bits text differs =
    cond-false (is_parsed bits text) (Some (digits_value 10 (without_leading_plus text))) None
    (and_left _ _ (false_from_ne_true (is_utf8 text) (λ passes. differs (IsUtf8-from_is_utf8 text passes))))

pub parsed_decimal : (bits n : ℕ) → n < 2 ^ bits → n < 2 ^ 64 → parsed bits (decimal n) ≡ Some n
parsed_decimal bits n small low =
    let utf8 = IsUtf8-from_ascii (decimal n) (IsAscii-decimal n low) in
    given_some (parsed bits (decimal n)) n
    (parse-decimal bits n (decimal n) (given (parsed bits (decimal n))) small low refl
    (given_iff (is_parsed bits (decimal n)) (IsParsed bits (decimal n)) (digits_value 10 (without_leading_plus (decimal n))) (parsed_to bits (decimal n)) (parsed_from bits (decimal n) utf8)))

pub parsed_small : (bits : ℕ) (text : List ℕ) (n : ℕ) → parsed bits text ≡ Some n → n < 2 ^ bits
parsed_small bits text n =
    small (is_parsed bits text) (digits_value 10 (without_leading_plus text)) n (2 ^ bits) (λ passes. (parsed_to bits text passes).1)
  where
    small : (test : Bool) (v n bound : ℕ) → (test ≡ true → v < bound) → (if test then Some v else None) ≡ Some n → n < bound
    small true v n bound below same = let is : v ≡ n = cc in subst (λ m. m < bound) is (below refl)
    small false v n bound below same = cc

-- so is a signed number
abbrev IsSignedParsed : Width → List ℕ → Type 0
IsSignedParsed width text = IsNumeral 10 (without_leading_sign text) × FitsSigned width (signed_digits_value 10 text)

abbrev is_signed_parsed : Width → List ℕ → Bool
is_signed_parsed width text =
    is_utf8 text && (is_numeral (without_leading_sign text) && nat_lt (mag (signed_digits_value 10 text)) (2 ^ hbits width))

signed_to : (width : Width) (text : List ℕ) → is_signed_parsed width text ≡ true → IsSignedParsed width text
signed_to width text passes =
    let parts = and_parts _ _ (and_parts _ _ passes).1 in (
      numeral_from (without_leading_sign text) parts.0,
      record { sfits = ltb-true (mag (signed_digits_value 10 text)) (2 ^ hbits width) parts.1 },
    )

signed_from : (width : Width) (text : List ℕ) → IsUtf8 text → IsSignedParsed width text → is_signed_parsed width text ≡ true
signed_from width text utf8 is =
    and_from _ _ (is_utf8-from_IsUtf8 text utf8)
    (and_from _ _ (numeral_tested (without_leading_sign text) is.0) (lt-ltb (mag (signed_digits_value 10 text)) (2 ^ hbits width) is.1.sfits))

pub signed_some : (width : Width) (text here : List ℕ) (z : ℤ) → here ≡ text → IsUtf8 text →
    IsSignedParsed width here × (z ≡ signed_digits_value 10 here) → signed_parsed width text ≡ Some (to_z width (of_z width z))
signed_some width text here z same utf8 h =
    let is : IsSignedParsed width text = subst (IsSignedParsed width) same h.0 in
    cond-true (is_signed_parsed width text) (Some (signed_digits_value 10 text)) None (signed_from width text utf8 is)
    ∙ ap (λ t. Some (signed_digits_value 10 t)) (sym same)
    ∙ ap Some (sym h.1)
    ∙ ap Some (sym (to_z-of_z width z (subst (FitsSigned width) (sym h.1) h.0.1)))

pub signed_none : (width : Width) (text here : List ℕ) → here ≡ text → (IsSignedParsed width here → ⊥) → signed_parsed width text ≡ None
signed_none width text here same differs =
    cond-false (is_signed_parsed width text) (Some (signed_digits_value 10 text)) None
    (false_from_ne_true (is_signed_parsed width text) (λ passes. differs (subst (IsSignedParsed width) (sym same) (signed_to width text passes))))

pub signed_unparsed : (width : Width) (text : List ℕ) → (IsUtf8 text → ⊥) → signed_parsed width text ≡ None
signed_unparsed width text differs =
    cond-false (is_signed_parsed width text) (Some (signed_digits_value 10 text)) None
    (and_left _ _ (false_from_ne_true (is_utf8 text) (λ passes. differs (IsUtf8-from_is_utf8 text passes))))

pub parsed_signed : (width : Width) (z : ℤ) → FitsSigned width z → mag z < 2 ^ 63 → signed_parsed width (signed_decimal z) ≡ Some z
parsed_signed width z fits low =
    let utf8 = IsUtf8-from_ascii (signed_decimal z) (IsAscii-signed z low) in
    given_some (signed_parsed width (signed_decimal z)) z
    (parse-signed_decimal width z (signed_decimal z) (given (signed_parsed width (signed_decimal z))) fits low refl
    (given_iff (is_signed_parsed width (signed_decimal z)) (IsSignedParsed width (signed_decimal z)) (signed_digits_value 10 (signed_decimal z)) (signed_to width (signed_decimal z)) (signed_from width (signed_decimal z) utf8)))

pub signed_fits : (width : Width) (text : List ℕ) (z : ℤ) → signed_parsed width text ≡ Some z → FitsSigned width z
signed_fits width text z =
    fits width (is_signed_parsed width text) (signed_digits_value 10 text) z (λ passes. (signed_to width text passes).1)
  where
    fits : (width : Width) (test : Bool) (v z : ℤ) → (test ≡ true → FitsSigned width v) → (if test then Some v else None) ≡ Some z → FitsSigned width z
    fits width true v z below same = let is : v ≡ z = cc in subst (FitsSigned width) is (below refl)
    fits width false v z below same = cc

-- digits have neither a space nor a dot among them
pub digits_lack : (byte : ℕ) (digits : List ℕ) → 10 ≤ digit_value byte → AllDigits 10 digits → Lacks byte digits
digits_lack byte [] high all = tt
digits_lack byte (digit ∷ digits) high all =
    (λ same. omega (arith, ap digit_value same, all.0), digits_lack byte digits high all.1)

pub decimal_lacks : (byte n : ℕ) → 10 ≤ digit_value byte → n < 2 ^ 64 → Lacks byte (decimal n)
decimal_lacks byte n high low = digits_lack byte (decimal n) high (decimal_is_IsNumeral n low).0.1

pub signed_lacks : (z : ℤ) → mag z < 2 ^ 63 → Lacks 32 (signed_decimal z)
signed_lacks (pos n) low = decimal_lacks 32 n (omega arith) (omega arith)
signed_lacks (negsuc n) low = (λ same. omega arith, decimal_lacks 32 (suc n) (omega arith) (omega arith))

-- numbers, spelled and in range
pub number_spelled : (n : ℕ) (tail : List ℕ) → n < 2 ^ 32 → IsTail tail → number_read (decimal n ++ tail) ≡ Some (n, drop 1 tail)
number_spelled n tail small ends =
    let low : n < 2 ^ 64 = omega arith in
    valued_spelled (parsed 32) 32 (decimal n) tail n (decimal_lacks 32 n (omega arith) low) (tail_begins tail ends)
    (parsed_decimal 32 n small low)

pub number_in_range : (text : List ℕ) (n : ℕ) (rest : List ℕ) → number_read text ≡ Some (n, rest) → n < 2 ^ 32
number_in_range text n rest read =
    parsed_small 32 (word_read text).0 n (valued_is (parsed 32) (word_read text) n rest read)

pub signed_spelled : (width : Width) (z : ℤ) (tail : List ℕ) → FitsSigned width z → mag z < 2 ^ 63 → IsTail tail →
    signed_read width (signed_decimal z ++ tail) ≡ Some (z, drop 1 tail)
signed_spelled width z tail fits low ends =
    valued_spelled (signed_parsed width) 32 (signed_decimal z) tail z (signed_lacks z low) (tail_begins tail ends)
    (parsed_signed width z fits low)

pub int_spelled : (z : ℤ) (tail : List ℕ) → FitsSigned w32 z → IsTail tail → int_read (signed_decimal z ++ tail) ≡ Some (z, drop 1 tail)
int_spelled z tail fits ends = signed_spelled w32 z tail fits (omega (arith, fits.sfits)) ends

pub long_spelled : (z : ℤ) (tail : List ℕ) → FitsSigned w64 z → IsTail tail → long_read (signed_decimal z ++ tail) ≡ Some (z, drop 1 tail)
long_spelled z tail fits ends = signed_spelled w64 z tail fits fits.sfits ends

pub signed_in_range : (width : Width) (text : List ℕ) (z : ℤ) (rest : List ℕ) → signed_read width text ≡ Some (z, rest) → FitsSigned width z
signed_in_range width text z rest read =
    signed_fits width (word_read text).0 z (valued_is (signed_parsed width) (word_read text) z rest read)

pub int_in_range : (text : List ℕ) (z : ℤ) (rest : List ℕ) → int_read text ≡ Some (z, rest) → FitsSigned w32 z
int_in_range text z rest read = signed_in_range w32 text z rest read

pub long_in_range : (text : List ℕ) (z : ℤ) (rest : List ℕ) → long_read text ≡ Some (z, rest) → FitsSigned w64 z
long_in_range text z rest read = signed_in_range w64 text z rest read
