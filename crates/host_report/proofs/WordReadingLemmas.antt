-- Names, versions and tokens, spelled and in range, and what can stand behind a field.
use Rattle.std.proofs.Common.{◌≡◌, ◌≢◌, ℕ, ◌+◌, ◌-◌, ◌*◌, ◌/◌, ◌%◌, ◌^◌, ◌<◌, ◌≤◌, Bool, true, List, [], ◌∷◌, ◌++◌, length, drop, Option, Some, None, refl, sym, ◌∙◌, ap, subst, append_assoc, append-nil, arith, decimal, ltb-true, ltb-false}
use Rattle.std.specs.Prelude.{nat_lt, nat_le, ◌==◌, ◌&&◌, not, codes}
use Rattle.std.specs.Fmt.{digit_glyph}
use Rattle.std.specs.List.{list_all}
use Rattle.std.proofs.lemmas.Bool.{true≢false, cond_both, cond-true, and_parts, eqb-false, not-true, lt-leb, le-leb, leb-true}
use Rattle.assembly_name.specs.declared.version.Version.{Version}
use Rattle.cli_words.specs.Name.{is_name_byte, is_name, IsName}
use Rattle.host_report.specs.Fields.{Field, version_text, byte_digits, token_text, fields_text}
use Rattle.host_report.specs.Reading.{IsTail, then_read}
use Rattle.host_report.specs.FieldReading.{cut_read, word_read, parsed, named_by, name_read, part_read, version_of, version_read, both, digit_read, two_digits, four_digits_read, token_of, token_read}
use Rattle.host_report.proofs.FieldReadingLemmas.{Lacks, Begins, tail_begins, word_spelled, valued_spelled, valued_is, parsed_decimal, parsed_small, decimal_lacks}

-- a text without the byte, by a test
pub lacks_tested : (byte : ℕ) (text : List ℕ) → list_all (λ other. not (other == byte)) text ≡ true → Lacks byte text
lacks_tested byte [] passes = tt
lacks_tested byte (other ∷ text) passes =
    let parts = and_parts (not (other == byte)) (list_all (λ other. not (other == byte)) text) passes in
    (eqb-false other byte (not-true (other == byte) parts.0), lacks_tested byte text parts.1)

pub lacks_both : (byte : ℕ) (one two : List ℕ) → Lacks byte one → Lacks byte two → Lacks byte (one ++ two)
lacks_both byte [] two first second = second
lacks_both byte (other ∷ one) two first second = (first.0, lacks_both byte one two first.1 second)

-- a word that is known
pub known_spelled : (word tail : List ℕ) → list_all (λ other. not (other == 32)) word ≡ true → IsTail tail →
    word_read (word ++ tail) ≡ (word, drop 1 tail)
known_spelled word tail passes ends = word_spelled word tail (lacks_tested 32 word passes) ends

-- names
name_lacks : (bytes : List ℕ) → list_all is_name_byte bytes ≡ true → Lacks 32 bytes
name_lacks [] passes = tt
name_lacks (byte ∷ bytes) passes =
    let parts = and_parts (is_name_byte byte) (list_all is_name_byte bytes) passes in
    (λ same. true≢false (sym parts.0 ∙ ap is_name_byte same), name_lacks bytes parts.1)

name_tested : (bytes : List ℕ) → IsName bytes → list_all is_name_byte bytes ≡ true
name_tested bytes is =
    let long = nat_le 1 (length bytes) in
    let short = nat_le (length bytes) 64 in
    let each = list_all is_name_byte bytes in
    last long short each is
  where
    last : (long short each : Bool) → ((long && short) && each) ≡ true → each ≡ true
    last long short each passes = (and_parts (long && short) each passes).1

pub name_spelled : (bytes tail : List ℕ) → IsName bytes → IsTail tail → name_read (bytes ++ tail) ≡ Some (bytes, drop 1 tail)
name_spelled bytes tail is ends =
    valued_spelled named_by 32 bytes tail bytes (name_lacks bytes (name_tested bytes is)) (tail_begins tail ends)
    (cond-true (is_name bytes) (Some bytes) None is)

pub name_in_range : (text bytes rest : List ℕ) → name_read text ≡ Some (bytes, rest) → IsName bytes
name_in_range text bytes rest read = named (word_read text).0 (valued_is named_by (word_read text) bytes rest read)
  where
    named : (word : List ℕ) → named_by word ≡ Some bytes → IsName bytes
    named word =
        cond_both (is_name word) (Some word) None (λ there. there ≡ Some bytes → IsName bytes)
        (λ is same. let equal : word ≡ bytes = cc in subst IsName equal is)
        (λ _ same. cc)

-- versions, part by part
abbrev of_revision : ℕ → ℕ → ℕ → ℕ → List ℕ → Option Version
of_revision major minor build revision text = Some (record { major = major; minor = minor; build = build; revision = revision })

abbrev of_build : ℕ → ℕ → ℕ → List ℕ → Option Version
of_build major minor build text = then_read (part_read text) (of_revision major minor build)

abbrev of_minor : ℕ → ℕ → List ℕ → Option Version
of_minor major minor text = then_read (part_read text) (of_build major minor)

abbrev of_major : ℕ → List ℕ → Option Version
of_major major text = then_read (part_read text) (of_minor major)

part_spelled : (n : ℕ) (tail : List ℕ) → n < 2 ^ 16 → Begins 46 tail → part_read (decimal n ++ tail) ≡ Some (n, drop 1 tail)
part_spelled n tail small ends =
    valued_spelled (parsed 16) 46 (decimal n) tail n (decimal_lacks 46 n (omega arith) (omega arith)) ends (parsed_decimal 16 n small (omega arith))

part_last : (n : ℕ) → n < 2 ^ 16 → part_read (decimal n) ≡ Some (n, [])
part_last n small = ap part_read (sym (append-nil (decimal n))) ∙ part_spelled n [] small tt

-- the parts of a version are numbers of 16 bits
abbrev pub AreParts : Version → Type 0
AreParts v = (v.major < 2 ^ 16) × (v.minor < 2 ^ 16) × (v.build < 2 ^ 16) × (v.revision < 2 ^ 16)

grouped : (a b c d : List ℕ) →
    a ++ codes "." ++ b ++ codes "." ++ c ++ codes "." ++ d ≡ a ++ (46 ∷ (b ++ (46 ∷ (c ++ (46 ∷ d)))))
grouped a b c d = simp append_assoc

version_grouped : (v : Version) →
    version_text v ≡ decimal v.major ++ (46 ∷ (decimal v.minor ++ (46 ∷ (decimal v.build ++ (46 ∷ decimal v.revision)))))
version_grouped v = grouped (decimal v.major) (decimal v.minor) (decimal v.build) (decimal v.revision)

version_told : (v : Version) → AreParts v → version_of (version_text v) ≡ Some v
version_told v are =
    let last = decimal v.revision in
    let builds = decimal v.build ++ (46 ∷ last) in
    let minors = decimal v.minor ++ (46 ∷ builds) in
    ap version_of (version_grouped v)
    ∙ ap (λ there. then_read there of_major) (part_spelled v.major (46 ∷ minors) are.0 refl)
    ∙ ap (λ there. then_read there (of_minor v.major)) (part_spelled v.minor (46 ∷ builds) are.1 refl)
    ∙ ap (λ there. then_read there (of_build v.major v.minor)) (part_spelled v.build (46 ∷ last) are.2 refl)
    ∙ ap (λ there. then_read there (of_revision v.major v.minor v.build)) (part_last v.revision are.3)

dotted : (a b : List ℕ) → Lacks 32 a → Lacks 32 b → Lacks 32 (a ++ (46 ∷ b))
dotted a b first second = lacks_both 32 a (46 ∷ b) first ((λ same. omega arith), second)

version_lacks : (v : Version) → AreParts v → Lacks 32 (version_text v)
version_lacks v are =
    let last = decimal v.revision in
    let builds = decimal v.build ++ (46 ∷ last) in
    let minors = decimal v.minor ++ (46 ∷ builds) in
    subst (Lacks 32) (sym (version_grouped v))
    (dotted (decimal v.major) minors (decimal_lacks 32 v.major (omega arith) (omega (arith, are.0)))
    (dotted (decimal v.minor) builds (decimal_lacks 32 v.minor (omega arith) (omega (arith, are.1)))
    (dotted (decimal v.build) last (decimal_lacks 32 v.build (omega arith) (omega (arith, are.2)))
    (decimal_lacks 32 v.revision (omega arith) (omega (arith, are.3))))))

pub version_spelled : (v : Version) (tail : List ℕ) → AreParts v → IsTail tail → version_read (version_text v ++ tail) ≡ Some (v, drop 1 tail)
version_spelled v tail are ends =
    valued_spelled version_of 32 (version_text v) tail v (version_lacks v are) (tail_begins tail ends) (version_told v are)

-- what was read, and what was read after it
pub then_some : {T V : Type 0} (there : Option (T × List ℕ)) (next : T → List ℕ → Option V) (v : V) → then_read there next ≡ Some v →
    (read : T × List ℕ) × (there ≡ Some read) × (next read.0 read.1 ≡ Some v)
then_some None next v same = cc
then_some (Some read) next v same = (read, refl, same)

part_small : (text : List ℕ) (read : ℕ × List ℕ) → part_read text ≡ Some read → read.0 < 2 ^ 16
part_small text read same = parsed_small 16 (cut_read 46 text).0 read.0 (valued_is (parsed 16) (cut_read 46 text) read.0 read.1 same)

version_parts : (text : List ℕ) (v : Version) → version_of text ≡ Some v → AreParts v
version_parts text v same =
    let major = then_some (part_read text) of_major v same in
    let minor = then_some (part_read major.0.1) (of_minor major.0.0) v major.2 in
    let build = then_some (part_read minor.0.1) (of_build major.0.0 minor.0.0) v minor.2 in
    let revision = then_some (part_read build.0.1) (of_revision major.0.0 minor.0.0 build.0.0) v build.2 in
    told major.0.0 minor.0.0 build.0.0 revision.0.0 v
    (part_small text major.0 major.1)
    (part_small major.0.1 minor.0 minor.1)
    (part_small minor.0.1 build.0 build.1)
    (part_small build.0.1 revision.0 revision.1) revision.2
  where
    told : (major minor build revision : ℕ) (v : Version) → major < 2 ^ 16 → minor < 2 ^ 16 → build < 2 ^ 16 → revision < 2 ^ 16 →
        of_revision major minor build revision [] ≡ Some v → AreParts v
    told major minor build revision v p q r s same =
        let own : Version = record { major = major; minor = minor; build = build; revision = revision } in
        let is : own ≡ v = cc in
        subst AreParts is (p, q, r, s)

pub version_in_range : (text : List ℕ) (v : Version) (rest : List ℕ) → version_read text ≡ Some (v, rest) → AreParts v
version_in_range text v rest read = version_parts (word_read text).0 v (valued_is version_of (word_read text) v rest read)

-- a hexadecimal digit is read as what it was printed from
pub digit_read_back : (d : ℕ) → d < 16 → digit_read (digit_glyph true d) ≡ Some d
digit_read_back d small =
    cond_both (nat_lt d 10) (48 + d) (55 + d) (λ byte. digit_read byte ≡ Some d)
    (λ low. rw (le-leb 48 (48 + d) (omega arith), le-leb (48 + d) 57 (omega (arith, ltb-true d 10 low))) (ap Some (omega arith)))
    (λ high.
    let above : 10 ≤ d = ltb-false d 10 high in
    rw (lt-leb (55 + d) 57 (omega arith), le-leb 48 (55 + d) (omega arith), le-leb 65 (55 + d) (omega arith), le-leb (55 + d) 70 (omega arith)) (ap Some (omega arith)))

pub two_read_back : (n : ℕ) → n < 256 → two_digits (digit_glyph true (n / 16)) (digit_glyph true (n % 16)) ≡ Some n
two_read_back n small =
    rw (digit_read_back (n / 16) (omega arith), digit_read_back (n % 16) (omega arith)) (ap Some (omega arith))

pub four_read_back : (n : ℕ) → n < 2 ^ 16 →
    four_digits_read (digit_glyph true (n / 4096)) (digit_glyph true (n / 256 % 16)) (digit_glyph true (n / 16 % 16)) (digit_glyph true (n % 16)) ≡ Some n
four_read_back n small =
    rw (digit_read_back (n / 4096) (omega arith), digit_read_back (n / 256 % 16) (omega arith), digit_read_back (n / 16 % 16) (omega arith), digit_read_back (n % 16) (omega arith)) (ap Some (omega arith))

-- what is read of such digits is small
pub digit_small : (byte d : ℕ) → digit_read byte ≡ Some d → d < 16
digit_small byte d =
    cond_both (nat_le 48 byte && nat_le byte 57) (Some (byte - 48)) _ (λ there. there ≡ Some d → d < 16)
    (λ low same.
    let is : byte - 48 ≡ d = cc in
    let top : byte ≤ 57 = leb-true byte 57 (and_parts (nat_le 48 byte) (nat_le byte 57) low).1 in
    omega arith)
    (λ _. cond_both (nat_le 65 byte && nat_le byte 70) (Some (byte - 55)) None (λ there. there ≡ Some d → d < 16)
    (λ high same.
    let is : byte - 55 ≡ d = cc in
    let top : byte ≤ 70 = leb-true byte 70 (and_parts (nat_le 65 byte) (nat_le byte 70) high).1 in
    omega arith)
    (λ _ same. cc))

-- two numbers in one
both_small : (join : ℕ → ℕ → ℕ) (a b : Option ℕ) (low high n : ℕ) → ((m : ℕ) → a ≡ Some m → m < low) → ((m : ℕ) → b ≡ Some m → m < low) →
    ((m k : ℕ) → m < low → k < low → join m k < high) → both join a b ≡ Some n → n < high
both_small join None b low high n first second joined same = cc
both_small join (Some m) None low high n first second joined same = cc
both_small join (Some m) (Some k) low high n first second joined same =
    let is : join m k ≡ n = cc in
    subst (λ number. number < high) is (joined m k (first m refl) (second k refl))

pub two_small : (a b n : ℕ) → two_digits a b ≡ Some n → n < 256
two_small a b n =
    both_small (λ high low. high * 16 + low) (digit_read a) (digit_read b) 16 256 n (digit_small a) (digit_small b) (λ m k p q. omega arith)

pub four_small : (a b c d n : ℕ) → four_digits_read a b c d ≡ Some n → n < 2 ^ 16
four_small a b c d n =
    both_small (λ high low. high * 256 + low) (two_digits a b) (two_digits c d) 256 (2 ^ 16) n (two_small a b) (two_small c d) (λ m k p q. omega arith)

-- tokens
glyph_lacks : (d : ℕ) → d < 16 → digit_glyph true d ≢ 32
glyph_lacks d small =
    cond_both (nat_lt d 10) (48 + d) (55 + d) (λ byte. byte ≢ 32) (λ _ same. omega arith) (λ _ same. omega arith)

byte_lacks : (byte : ℕ) → byte < 256 → Lacks 32 (byte_digits byte)
byte_lacks byte small = (glyph_lacks (byte / 16) (omega arith), (glyph_lacks (byte % 16) (omega arith), tt))

token_told : (token : ℕ) → token < 2 ^ 32 → token_of (token_text token) ≡ Some token
token_told token small =
    rw (two_read_back (token / 2 ^ 24) (omega arith), two_read_back (token / 2 ^ 16 % 256) (omega arith), two_read_back (token / 2 ^ 8 % 256) (omega arith), two_read_back (token % 256) (omega arith))
    (ap Some (omega arith))

token_lacks : (token : ℕ) → token < 2 ^ 32 → Lacks 32 (token_text token)
token_lacks token small =
    let second = byte_digits (token / 2 ^ 16 % 256) in
    let third = byte_digits (token / 2 ^ 8 % 256) in
    let last = byte_digits (token % 256) in
    lacks_both 32 (byte_digits (token / 2 ^ 24)) (second ++ third ++ last) (byte_lacks (token / 2 ^ 24) (omega arith))
    (lacks_both 32 second (third ++ last) (byte_lacks (token / 2 ^ 16 % 256) (omega arith))
    (lacks_both 32 third last (byte_lacks (token / 2 ^ 8 % 256) (omega arith)) (byte_lacks (token % 256) (omega arith))))

pub token_spelled : (token : ℕ) (tail : List ℕ) → token < 2 ^ 32 → IsTail tail → token_read (token_text token ++ tail) ≡ Some (token, drop 1 tail)
token_spelled token tail small ends =
    valued_spelled token_of 32 (token_text token) tail token (token_lacks token small) (tail_begins tail ends) (token_told token small)

token_small : (digits : List ℕ) (token : ℕ) → token_of digits ≡ Some token → token < 2 ^ 32
token_small (a ∷ b ∷ c ∷ d ∷ e ∷ f ∷ g ∷ h ∷ []) token is =
    both_small (λ high low. high * 0x1_0000 + low) (four_digits_read a b c d) (four_digits_read e f g h) (2 ^ 16) (2 ^ 32) token
    (four_small a b c d) (four_small e f g h) (λ m k p q. omega arith) is
token_small _ token same = cc

pub token_in_range : (text : List ℕ) (token : ℕ) (rest : List ℕ) → token_read text ≡ Some (token, rest) → token < 2 ^ 32
token_in_range text token rest read = token_small (word_read text).0 token (valued_is token_of (word_read text) token rest read)

-- what stands behind a field is a tail
pub fields_tail : (all : List Field) → IsTail (fields_text all)
fields_tail [] = tt
fields_tail (Field.Word word ∷ more) = refl
fields_tail (Field.Number number ∷ more) = refl
fields_tail (Field.Numbers [] ∷ more) = fields_tail more
fields_tail (Field.Numbers (number ∷ numbers) ∷ more) = refl
fields_tail (Field.Signed width number ∷ more) = refl
fields_tail (Field.Named name ∷ more) = refl
fields_tail (Field.Quoted units ∷ more) = refl
fields_tail (Field.Versioned version ∷ more) = refl
fields_tail (Field.Key key ∷ more) = refl
fields_tail (Field.Token token ∷ more) = refl
