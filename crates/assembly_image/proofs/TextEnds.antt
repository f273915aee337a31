-- Texts that are compared from their end.
use Rattle.std.proofs.Common.{◌≡◌, ◌≢◌, ℕ, ◌<◌, nat_lt, List, [], ◌∷◌, ◌++◌, length, take, encode_utf8, encode_utf8_all, inl, inr, refl, sym, ap, subst, ◌∙◌, arith, append-nil, append_assoc}
use Rattle.std.proofs.lemmas.Bool.{cases_Bool}
use Rattle.std.proofs.lemmas.Grind.{flat_map-append}
use Rattle.std.proofs.lemmas.List.{append_cancel_right, length-append, nil_from_length}
use Rattle.std.proofs.lemmas.Str.{IsUtf8-encode, IsUtf8-take, IsCharBoundary-at_seam, chars-append, chars-nil, chars_past_char, encodes-chars, length-encode, len_utf8_bounds}
use Rattle.std.proofs.Math.Seq.{take-append_seam}
use Rattle.std.specs.Char.{IsScalar}
use Rattle.std.specs.Char.Escape.{encode_utf16}
use Rattle.std.specs.List.{flat_map}
use Rattle.std.specs.Str.{IsUtf8, chars}
use Rattle.cli_words.specs.Text.{units_of}

-- what is left of a text without its last character
module _ (text front : List ℕ) (c : ℕ) (scalar : IsScalar c) (cut : text ≡ front ++ encode_utf8 c)
    (utf8 : IsUtf8 text) where
  front_utf8 : IsUtf8 front
  front_utf8 =
      let edge = IsCharBoundary-at_seam text front (encode_utf8 c) cut (IsUtf8-encode c scalar) in
      let seam = ap (take (length front)) cut ∙ take-append_seam front (encode_utf8 c) in
      subst IsUtf8 seam (IsUtf8-take text (length front) utf8 edge)

  units_cut : units_of text ≡ units_of front ++ encode_utf16 c
  units_cut =
      let alone = sym (append-nil (encode_utf8 c)) in
      let last : chars (encode_utf8 c) ≡ c ∷ [] =
      chars_past_char (encode_utf8 c) [] c (IsUtf8-encode c scalar) alone
      ∙ ap (λ cs. c ∷ cs) chars-nil in
      ap units_of cut
      ∙ ap (flat_map encode_utf16) (chars-append front (encode_utf8 c) front_utf8)
      ∙ ap (λ cs. flat_map encode_utf16 (chars front ++ cs)) last
      ∙ flat_map-append encode_utf16 (chars front) (c ∷ [])
      ∙ ap (λ us. units_of front ++ us) (append-nil (encode_utf16 c))

-- a text is empty just where it has no units
some_units : (c : ℕ) → 0 < length (encode_utf16 c)
some_units c =
    elim (cases_Bool (nat_lt c 0x1_0000)) [ inl e ↦ rw e (omega arith) | inr e ↦ rw e (omega arith) ]

abbrev AreBothEmpty : List ℕ → List ℕ → Type 0
AreBothEmpty xs ys = (length xs ≡ 0 → length ys ≡ 0) × (length ys ≡ 0 → length xs ≡ 0)

both_empty : (cs : List ℕ) → AreBothEmpty (encode_utf8_all cs) (flat_map encode_utf16 cs)
both_empty [] = (λ e. refl, λ e. refl)
both_empty (c ∷ cs) =
    let units = some_units c in
    let bytes = length-encode c in
    let some = len_utf8_bounds c in
    let more = length-append (encode_utf16 c) (flat_map encode_utf16 cs) in
    let longer = length-append (encode_utf8 c) (encode_utf8_all cs) in
    (λ e. absurd (omega arith), λ e. absurd (omega arith))

pub empty_units : (text : List ℕ) → IsUtf8 text → AreBothEmpty text (units_of text)
empty_units text utf8 =
    subst (λ bytes. AreBothEmpty bytes (units_of text)) (encodes-chars text utf8) (both_empty (chars text))

-- the text of a namespace that is not empty
pub not_empty : (text namespace : List ℕ) → IsUtf8 text → units_of text ≡ namespace → ¬ (length text ≡ 0) → ¬ (length namespace ≡ 0)
not_empty text namespace utf8 is some e =
    some ((empty_units text utf8).1 (subst (λ (us : List ℕ). length us ≡ 0) (sym is) e))

-- what is left of the units ends with what is left of the text just where the units end with the text
pub record Left (units text rest left : List ℕ) : Type 0 where
  pub utf8 : IsUtf8 left
  pub there : (front : List ℕ) → units ≡ front ++ units_of text → rest ≡ front ++ units_of left
  pub back : (front : List ℕ) → rest ≡ front ++ units_of left → units ≡ front ++ units_of text

-- no character is taken off yet
pub left_first : (units text left : List ℕ) → IsUtf8 text → left ≡ text → Left units text units left
left_first units text left utf8 e =
    let whole : Left units text units text =
    record { utf8 = utf8; there = λ front h. h; back = λ front h. h } in
    subst (λ (l : List ℕ). Left units text units l) (sym e) whole

module _ (units text rest left : List ℕ) (now : Left units text rest left) where
  -- no character is left
  pub left_none : length left ≡ 0 → units ≡ rest ++ units_of text
  left_none e =
      let none : units_of left ≡ [] =
      ap units_of (nil_from_length left e) ∙ ap (flat_map encode_utf16) chars-nil in
      now.back rest (sym (append-nil rest) ∙ ap (λ us. rest ++ us) (sym none))

  -- the last character of what is left
  module _ (front : List ℕ) (c : ℕ) (scalar : IsScalar c) (cut : left ≡ front ++ encode_utf8 c) where
    regroup : (before : List ℕ) → before ++ units_of left ≡ (before ++ units_of front) ++ encode_utf16 c
    regroup before =
        ap (λ us. before ++ us) (units_cut left front c scalar cut now.utf8)
        ∙ sym (append_assoc before (units_of front) (encode_utf16 c))

    pub left_next : (less unit : List ℕ) → unit ≡ encode_utf16 c → rest ≡ less ++ unit → Left units text less front
    left_next less unit is ends =
        let whole : rest ≡ less ++ encode_utf16 c = ends ∙ ap (λ us. less ++ us) is in
        record {
          utf8 = front_utf8 left front c scalar cut now.utf8;
          there = λ before h.
              append_cancel_right less (before ++ units_of front) (encode_utf16 c)
              (sym whole ∙ now.there before h ∙ regroup before);
          back = λ before h.
              now.back before (whole ∙ ap (λ us. us ++ encode_utf16 c) h ∙ sym (regroup before));
        }

    pub left_other : (unit : List ℕ) → unit ≡ encode_utf16 c → ((before : List ℕ) → rest ≢ before ++ unit)
        → (before : List ℕ) → units ≢ before ++ units_of text
    left_other unit is other before h =
        let front' = before ++ units_of front in
        other front' (now.there before h ∙ regroup before ∙ ap (λ us. front' ++ us) (sym is))
