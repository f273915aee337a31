-- What the reader takes from a quoted text, and the units that it can give.
use Rattle.std.proofs.Common.{◌≡◌, ◌≢◌, ℕ, zero, suc, ◌+◌, ◌-◌, ◌/◌, ◌%◌, ◌^◌, ◌<◌, ◌≤◌, true, List, [], ◌∷◌, ◌++◌, length, take, drop, get_or, Option, Some, None, refl, sym, ◌∙◌, ap, subst, append_assoc, append-nil, encode_utf8, arith, le-ltb, lt-ltb, ltb-true, ltb-false}
use Rattle.std.specs.Prelude.{nat_lt, nat_le, ◌==◌, ◌&&◌, ◌||◌}
use Rattle.std.specs.Char.Escape.{encode_utf16}
use Rattle.std.specs.Char.Utf16.{surrogate_pair_char, is_high_surrogate, is_low_surrogate}
use Rattle.std.specs.Option.{option_map, option_and_then}
use Rattle.std.specs.List.{AllByRecursion}
use Rattle.std.proofs.Math.Seq.{drop-append_seam}
use Rattle.std.proofs.Math.Utf8.{encode}
use Rattle.std.proofs.lemmas.Bool.{cond_both, cond-true, cond-false, and_from, and_parts, ne_eqb, eqb-true, eqb-false, le-leb, leb-true}
use Rattle.std.proofs.lemmas.List.Elements.{recursion_from_All, All-from_recursion}
use Rattle.cli_words.specs.Text.{AreUnits}
use Rattle.host_report.specs.Quote.{is_surrogate, is_pair, escape_text, unit_text, units_text, quoted}
use Rattle.host_report.specs.FieldReading.{four_digits_read}
use Rattle.host_report.specs.TextReading.{escaped_unit, digits_read, escape_read, two_read, three_read, four_code, four_read, first_read, prefixed, within_read, units_read}
use Rattle.host_report.proofs.LineLemmas.{rest_from}
use Rattle.host_report.proofs.WordReadingLemmas.{four_read_back, four_small}

-- bytes that spell a character or a lone unit, whatever follows; they begin with no quote
abbrev pub Leads : List ℕ → Type 0
Leads [] = ⊥
Leads (byte ∷ bytes) = byte ≢ 34

abbrev pub Spells : ℕ → List ℕ → Type 0
Spells code bytes = Leads bytes × ((rest : List ℕ) → first_read (bytes ++ rest) ≡ Some (code, length bytes))

spells_one : (c : ℕ) → c < 128 → c ≢ 92 → c ≢ 34 → Spells c (c ∷ [])
spells_one c low slash quote = (quote, λ rest. rw (ne_eqb c 92 slash, lt-ltb c 128 low) refl)

spells_two : (c : ℕ) → c < 2048 → Spells c ((192 + c / 64) ∷ (128 + c % 64) ∷ [])
spells_two c low = (
  λ e. omega arith,
  λ rest.
      let a : ℕ = 192 + c / 64 in
      rw (ne_eqb a 92 (λ e. omega arith), le-ltb a 0x80 (omega arith), lt-ltb a 0xe0 (omega arith)) (ap (λ n. Some (n, 2)) (omega arith)),
)

spells_three : (c : ℕ) → c < 65536 → Spells c ((224 + c / 4096) ∷ (128 + c / 64 % 64) ∷ (128 + c % 64) ∷ [])
spells_three c low = (
  λ e. omega arith,
  λ rest.
      let a : ℕ = 224 + c / 4096 in
      rw (ne_eqb a 92 (λ e. omega arith), le-ltb a 0x80 (omega arith), le-ltb a 0xe0 (omega arith), lt-ltb a 0xf0 (omega arith)) (ap (λ n. Some (n, 3)) (omega arith)),
)

four_back : (c : ℕ) → c < 0x11_0000 → four_code (240 + c / 262144) (128 + c / 4096 % 64) (128 + c / 64 % 64) (128 + c % 64) ≡ c
four_back c low = omega arith

four_given : (a b d e c : ℕ) (rest : List ℕ) → four_code a b d e ≡ c → 0x1_0000 ≤ c → c < 0x11_0000 →
    four_read a (b ∷ d ∷ e ∷ rest) ≡ Some (c, 4)
four_given a b d e c rest same high low =
    cond-true (nat_le 0x1_0000 (four_code a b d e) && nat_lt (four_code a b d e) 0x11_0000) (Some (four_code a b d e, 4)) None
    (and_from _ _ (le-leb 0x1_0000 (four_code a b d e) (subst (λ n. 0x1_0000 ≤ n) (sym same) high)) (lt-ltb (four_code a b d e) 0x11_0000 (subst (λ n. n < 0x11_0000) (sym same) low)))
    ∙ ap (λ n. Some (n, 4)) same

spells_four : (c : ℕ) → 0x1_0000 ≤ c → c < 0x11_0000 →
    Spells c ((240 + c / 262144) ∷ (128 + c / 4096 % 64) ∷ (128 + c / 64 % 64) ∷ (128 + c % 64) ∷ [])
spells_four c high low = (
  λ e. omega arith,
  λ rest.
      let a : ℕ = 240 + c / 262144 in
      rw (ne_eqb a 92 (λ e. omega arith), le-ltb a 0x80 (omega arith), le-ltb a 0xe0 (omega arith), le-ltb a 0xf0 (omega arith))
      (four_given a (128 + c / 4096 % 64) (128 + c / 64 % 64) (128 + c % 64) c rest (four_back c low) high low),
)

-- a character in UTF-8
pub spells_char : (c : ℕ) → c < 0x11_0000 → c ≢ 92 → c ≢ 34 → Spells c (encode_utf8 c)
unfolding encode
spells_char c top slash quote =
    cond_both (nat_lt c 128) _ _ (Spells c) (λ low. spells_one c (ltb-true c 128 low) slash quote)
    (λ _. cond_both (nat_lt c 2048) _ _ (Spells c) (λ low. spells_two c (ltb-true c 2048 low))
    (λ _. cond_both (nat_lt c 65536) _ _ (Spells c) (λ low. spells_three c (ltb-true c 65536 low))
    (λ high. spells_four c (ltb-false c 65536 high) top)))

-- an escape
spells_digits : (unit : ℕ) → unit < 2 ^ 16 → Spells unit (escape_text unit)
spells_digits unit small = (λ e. omega arith, λ rest. ap (option_map (λ read. (read, 6))) (four_read_back unit small))

spells_escape : (unit escape : ℕ) → escaped_unit escape ≡ Some unit → escape ≢ 117 → Spells unit (92 ∷ escape ∷ [])
spells_escape unit escape is other = (
  λ e. omega arith,
  λ rest. rw (ne_eqb escape 117 other) (ap (option_map (λ read. (read, 2))) is),
)

-- a unit that is in no pair of surrogates
pub spells_unit : (unit : ℕ) → unit < 2 ^ 16 → Spells unit (unit_text unit)
spells_unit unit small =
    cond_both (unit == 34) _ _ (Spells unit)
    (λ e. spells_escape unit 34 (ap Some (sym (eqb-true unit 34 e))) (λ same. omega arith))
    (λ quote. cond_both (unit == 92) _ _ (Spells unit)
    (λ e. spells_escape unit 92 (ap Some (sym (eqb-true unit 92 e))) (λ same. omega arith))
    (λ slash. cond_both (unit == 10) _ _ (Spells unit)
    (λ e. spells_escape unit 110 (ap Some (sym (eqb-true unit 10 e))) (λ same. omega arith))
    (λ line. cond_both (nat_lt unit 32 || unit == 127 || is_surrogate unit) _ _ (Spells unit)
    (λ _. spells_digits unit small)
    (λ _. spells_char unit (omega arith) (eqb-false unit 92 slash) (eqb-false unit 34 quote)))))

-- what is passed over is dropped
pub passed_over : (passed : ℕ) (text : List ℕ) → within_read passed text ≡ within_read 0 (drop passed text)
passed_over zero text = refl
passed_over (suc passed) [] = refl
passed_over (suc passed) (byte ∷ text) = passed_over passed text

pub prefixed_twice : (before more : List ℕ) (there : Option (List ℕ × List ℕ)) →
    prefixed before (prefixed more there) ≡ prefixed (before ++ more) there
prefixed_twice before more None = refl
prefixed_twice before more (Some read) = ap (λ units. Some (units, read.1)) (sym (append_assoc before more read.0))

-- one character more
pub within_more : (byte : ℕ) (text : List ℕ) (code taken : ℕ) → byte ≢ 34 → first_read (byte ∷ text) ≡ Some (code, taken) → 0 < taken →
    within_read 0 (byte ∷ text) ≡ prefixed (encode_utf16 code) (within_read 0 (drop taken (byte ∷ text)))
within_more byte text code taken quote first some =
    cond-false (byte == 34) _ _ (ne_eqb byte 34 quote)
    ∙ ap (option_and_then (λ first. prefixed (encode_utf16 first.0) (within_read (first.1 - 1) text))) first
    ∙ ap (prefixed (encode_utf16 code)) (passed_over (taken - 1) text ∙ ap (λ rest. within_read 0 rest) (dropped byte text taken some))
  where
    dropped : (byte : ℕ) (text : List ℕ) (taken : ℕ) → 0 < taken → drop (taken - 1) text ≡ drop taken (byte ∷ text)
    dropped byte text zero some = absurd (omega (arith, some))
    dropped byte text (suc before) some = ap (λ n. drop n text) (omega arith)

pub within_next : (text : List ℕ) (code taken : ℕ) → get_or text 0 0 ≢ 34 → first_read text ≡ Some (code, taken) → 0 < taken →
    within_read 0 text ≡ prefixed (encode_utf16 code) (within_read 0 (drop taken text))
within_next [] code taken quote first some = cc
within_next (byte ∷ text) code taken quote first some = within_more byte text code taken quote first some

-- a text in which one character more was read
pub within_on : (text rest before after : List ℕ) (code taken : ℕ) → within_read 0 text ≡ prefixed before (within_read 0 rest) →
    get_or rest 0 0 ≢ 34 → first_read rest ≡ Some (code, taken) → 0 < taken → Some (before ++ encode_utf16 code) ≡ Some after →
    within_read 0 text ≡ prefixed after (within_read 0 (take (length rest - taken) (drop taken rest)))
within_on text rest before after code taken so_far quote first some pushed =
    let is : before ++ encode_utf16 code ≡ after = cc in
    so_far
    ∙ ap (prefixed before) (within_next rest code taken quote first some)
    ∙ prefixed_twice before (encode_utf16 code) (within_read 0 (drop taken rest))
    ∙ ap (λ units. prefixed units (within_read 0 (drop taken rest))) is
    ∙ ap (λ left. prefixed after (within_read 0 left)) (sym (rest_from rest taken))

pub within_spelled : (code : ℕ) (bytes text tail units rest : List ℕ) → Spells code bytes →
    within_read 0 (text ++ tail) ≡ Some (units, rest) →
    within_read 0 ((bytes ++ text) ++ tail) ≡ Some (encode_utf16 code ++ units, rest)
within_spelled code [] text tail units rest spells read = absurd spells.0
within_spelled code (byte ∷ bytes) text tail units rest spells read =
    ap (λ t. within_read 0 (byte ∷ t)) (append_assoc bytes text tail)
    ∙ within_more byte (bytes ++ (text ++ tail)) code (length (byte ∷ bytes)) spells.0 (spells.1 (text ++ tail)) (omega arith)
    ∙ ap (λ t. prefixed (encode_utf16 code) (within_read 0 t)) (drop-append_seam (byte ∷ bytes) (text ++ tail))
    ∙ ap (prefixed (encode_utf16 code)) read

-- the units of a first character
alone_units : (unit : ℕ) → unit < 2 ^ 16 → encode_utf16 unit ≡ unit ∷ []
alone_units unit small = cond-true (nat_lt unit 0x1_0000) _ _ (lt-ltb unit 0x1_0000 small)

record IsPairOf (high low : ℕ) : Type 0 where
  top : high < 0xDC00
  start : 0xD800 ≤ high
  low_top : low < 0xE000
  low_start : 0xDC00 ≤ low

pair_facts : (high low : ℕ) → is_pair high low ≡ true → IsPairOf high low
pair_facts high low pair =
    let parts = and_parts (is_high_surrogate high) (is_low_surrogate low) pair in
    let first = and_parts _ _ parts.0 in
    let second = and_parts _ _ parts.1 in
    record {
      top = ltb-true high 0xDC00 first.1;
      start = leb-true 0xD800 high first.0;
      low_top = ltb-true low 0xE000 second.1;
      low_start = leb-true 0xDC00 low second.0;
    }

pair_beyond : (high low : ℕ) → IsPairOf high low → (0x1_0000 ≤ surrogate_pair_char high low) × (surrogate_pair_char high low < 0x11_0000)
pair_beyond high low pair = (omega (arith, pair.start), omega (arith, pair.top, pair.low_top, pair.start, pair.low_start))

pair_high : (high low : ℕ) → IsPairOf high low → 0xD800 + (surrogate_pair_char high low - 0x1_0000) / 0x400 ≡ high
pair_high high low pair = omega (arith, pair.top, pair.low_top, pair.start, pair.low_start)

pair_low : (high low : ℕ) → IsPairOf high low → 0xDC00 + (surrogate_pair_char high low - 0x1_0000) % 0x400 ≡ low
pair_low high low pair = omega (arith, pair.top, pair.low_top, pair.start, pair.low_start)

pair_units : (high low : ℕ) → IsPairOf high low → encode_utf16 (surrogate_pair_char high low) ≡ high ∷ low ∷ []
pair_units high low pair =
    cond-false (nat_lt (surrogate_pair_char high low) 0x1_0000) _ _ (le-ltb (surrogate_pair_char high low) 0x1_0000 (pair_beyond high low pair).0)
    ∙ ap (λ unit. unit ∷ (0xDC00 + (surrogate_pair_char high low - 0x1_0000) % 0x400) ∷ []) (pair_high high low pair)
    ∙ ap (λ unit. high ∷ unit ∷ []) (pair_low high low pair)

spells_pair : (high low : ℕ) → IsPairOf high low → Spells (surrogate_pair_char high low) (encode_utf8 (surrogate_pair_char high low))
spells_pair high low pair =
    let beyond = pair_beyond high low pair in
    spells_char (surrogate_pair_char high low) beyond.1 (λ e. omega (arith, beyond.0, e)) (λ e. omega (arith, beyond.0, e))

-- the units of a text, up to the quote
units_within : (units tail : List ℕ) → AllByRecursion (λ unit. unit < 2 ^ 16) units →
    within_read 0 (units_text units ++ (34 ∷ tail)) ≡ Some (units, drop 1 tail)
units_within [] tail all = refl
units_within (unit ∷ []) tail all =
    ap (λ text. within_read 0 (text ++ (34 ∷ tail))) (sym (append-nil (unit_text unit)))
    ∙ within_spelled unit (unit_text unit) [] (34 ∷ tail) [] (drop 1 tail) (spells_unit unit all.0) refl
    ∙ ap (λ first. Some (first ++ [], drop 1 tail)) (alone_units unit all.0)
units_within (unit ∷ next ∷ units) tail all =
    cond_both (is_pair unit next) (encode_utf8 (surrogate_pair_char unit next) ++ units_text units) (unit_text unit ++ units_text (next ∷ units))
    (λ text. within_read 0 (text ++ (34 ∷ tail)) ≡ Some (unit ∷ next ∷ units, drop 1 tail))
    (λ pair.
    let facts = pair_facts unit next pair in
    within_spelled (surrogate_pair_char unit next) (encode_utf8 (surrogate_pair_char unit next)) (units_text units) (34 ∷ tail) units (drop 1 tail) (spells_pair unit next facts) (units_within units tail all.1.1)
    ∙ ap (λ first. Some (first ++ units, drop 1 tail)) (pair_units unit next facts))
    (λ _.
    within_spelled unit (unit_text unit) (units_text (next ∷ units)) (34 ∷ tail) (next ∷ units) (drop 1 tail) (spells_unit unit all.0) (units_within (next ∷ units) tail all.1)
    ∙ ap (λ first. Some (first ++ (next ∷ units), drop 1 tail)) (alone_units unit all.0))

pub units_spelled : (units tail : List ℕ) → AreUnits units → units_read (quoted units ++ tail) ≡ Some (units, drop 1 tail)
units_spelled units tail are =
    ap (λ text. within_read 0 text) (append_assoc (units_text units) (34 ∷ []) tail)
    ∙ units_within units tail (recursion_from_All (λ unit. unit < 2 ^ 16) units are)

-- what is read is in range: a character below the last, or nothing
abbrev Within : Option (ℕ × ℕ) → Type 0
Within None = Unit {0}
Within (Some first) = first.0 < 0x11_0000

within_map : (there : Option ℕ) (taken : ℕ) → ((unit : ℕ) → there ≡ Some unit → unit < 0x11_0000) →
    Within (option_map (λ unit. (unit, taken)) there)
within_map None taken small = tt
within_map (Some unit) taken small = small unit refl

digits_within : (text : List ℕ) → Within (digits_read text)
digits_within (a ∷ b ∷ c ∷ d ∷ _) =
    within_map (four_digits_read a b c d) 6 (λ unit is. let small : unit < 2 ^ 16 = four_small a b c d unit is in omega arith)
digits_within _ = tt

escaped_within : (byte : ℕ) → Within (option_map (λ unit. (unit, 2)) (escaped_unit byte))
escaped_within byte =
    cond_both (byte == 34) _ _ (λ there. Within (option_map (λ unit. (unit, 2)) there)) (λ _. omega arith)
    (λ _. cond_both (byte == 92) _ _ (λ there. Within (option_map (λ unit. (unit, 2)) there)) (λ _. omega arith)
    (λ _. cond_both (byte == 110) _ _ (λ there. Within (option_map (λ unit. (unit, 2)) there)) (λ _. omega arith) (λ _. tt)))

escape_within : (text : List ℕ) → Within (escape_read text)
escape_within [] = tt
escape_within (byte ∷ text) = cond_both (byte == 117) _ _ Within (λ _. digits_within text) (λ _. escaped_within byte)

two_within : (a : ℕ) (text : List ℕ) → Within (two_read a text)
two_within a [] = tt
two_within a (b ∷ _) = omega arith

three_within : (a : ℕ) (text : List ℕ) → Within (three_read a text)
three_within a (b ∷ c ∷ _) = omega arith
three_within a _ = tt

four_within : (a : ℕ) (text : List ℕ) → Within (four_read a text)
four_within a (b ∷ c ∷ d ∷ _) =
    cond_both (nat_le 0x1_0000 (four_code a b c d) && nat_lt (four_code a b c d) 0x11_0000) (Some (four_code a b c d, 4)) None Within
    (λ passes. ltb-true (four_code a b c d) 0x11_0000 (and_parts _ _ passes).1)
    (λ _. tt)
four_within a _ = tt

first_within : (text : List ℕ) → Within (first_read text)
first_within [] = tt
first_within (a ∷ text) =
    cond_both (a == 92) _ _ Within (λ _. escape_within text)
    (λ _. cond_both (nat_lt a 0x80) (Some (a, 1)) _ Within (λ low. let below : a < 0x80 = ltb-true a 0x80 low in omega arith)
    (λ _. cond_both (nat_lt a 0xe0) _ _ Within (λ _. two_within a text)
    (λ _. cond_both (nat_lt a 0xf0) _ _ Within (λ _. three_within a text) (λ _. four_within a text))))

-- its units, and those of a whole text
abbrev AreSmall : List ℕ → Type 0
AreSmall units = AllByRecursion (λ unit. unit < 2 ^ 16) units

small_both : (before after : List ℕ) → AreSmall before → AreSmall after → AreSmall (before ++ after)
small_both [] after first second = second
small_both (unit ∷ before) after first second = (first.0, small_both before after first.1 second)

encoded_small : (code : ℕ) → code < 0x11_0000 → AreSmall (encode_utf16 code)
encoded_small code top =
    cond_both (nat_lt code 0x1_0000) (code ∷ []) ((0xD800 + (code - 0x1_0000) / 0x400) ∷ (0xDC00 + (code - 0x1_0000) % 0x400) ∷ []) AreSmall
    (λ low. (ltb-true code 0x1_0000 low, tt))
    (λ _. (omega arith, (omega arith, tt)))

abbrev AreRead : Option (List ℕ × List ℕ) → Type 0
AreRead None = Unit {0}
AreRead (Some read) = AreSmall read.0

prefixed_read : (before : List ℕ) (there : Option (List ℕ × List ℕ)) → AreSmall before → AreRead there → AreRead (prefixed before there)
prefixed_read before None small read = tt
prefixed_read before (Some read) small are = small_both before read.0 small are

chosen_read : (first : Option (ℕ × ℕ)) (next : ℕ → Option (List ℕ × List ℕ)) → Within first → ((taken : ℕ) → AreRead (next taken)) →
    AreRead (option_and_then (λ first. prefixed (encode_utf16 first.0) (next (first.1 - 1))) first)
chosen_read None next within are = tt
chosen_read (Some first) next within are =
    prefixed_read (encode_utf16 first.0) (next (first.1 - 1)) (encoded_small first.0 within) (are (first.1 - 1))

within_are : (passed : ℕ) (text : List ℕ) → AreRead (within_read passed text)
within_are zero [] = tt
within_are (suc passed) [] = tt
within_are (suc passed) (byte ∷ text) = within_are passed text
within_are zero (byte ∷ text) =
    cond_both (byte == 34) (Some ([], drop 1 text)) _ AreRead (λ _. tt)
    (λ _. chosen_read (first_read (byte ∷ text)) (λ taken. within_read taken text) (first_within (byte ∷ text)) (λ taken. within_are taken text))

units_are : (text : List ℕ) → AreRead (units_read text)
units_are [] = tt
units_are (byte ∷ text) = cond_both (byte == 34) _ _ AreRead (λ _. within_are 0 text) (λ _. tt)

pub units_in_range : (text units rest : List ℕ) → units_read text ≡ Some (units, rest) → AreUnits units
units_in_range text units rest read =
    All-from_recursion (λ unit. unit < 2 ^ 16) units (subst AreRead read (units_are text))
