-- How texts are spelled, as a format (own).
use Rattle.std.specs.Prelude.{ℕ, ◌+◌, ◌*◌, ◌≡◌, ◌==◌, ◌↔◌, false, List, [], ◌∷◌, ◌++◌, Some, IsUtf8, chars}
use Rattle.std.specs.Char.Escape.{encode_utf16}
use Rattle.host_script.specs.Text.{hex_digit, text_of}

-- the characters that stand in a text after its opening quote, and the units that they say
pub data Spells : List ℕ → List ℕ → Type 0 where
  -- the closing quote
  closes : Spells (34 ∷ []) []
  -- a character that is neither a quote nor a backslash
  plain : (c : ℕ) (cs us : List ℕ) → (c == 34) ≡ false → (c == 92) ≡ false → Spells cs us →
      Spells (c ∷ cs) (encode_utf16 c ++ us)
  -- `\"`, `\\` and `\n`
  quote : (cs us : List ℕ) → Spells cs us → Spells (92 ∷ 34 ∷ cs) (34 ∷ us)
  backslash : (cs us : List ℕ) → Spells cs us → Spells (92 ∷ 92 ∷ cs) (92 ∷ us)
  line_feed : (cs us : List ℕ) → Spells cs us → Spells (92 ∷ 110 ∷ cs) (10 ∷ us)
  -- `\u` and four hexadecimal digits
  unit : (a b c d w x y z : ℕ) (cs us : List ℕ) → hex_digit a ≡ Some w → hex_digit b ≡ Some x →
      hex_digit c ≡ Some y → hex_digit d ≡ Some z → Spells cs us →
      Spells (92 ∷ 117 ∷ a ∷ b ∷ c ∷ d ∷ cs) ((((w * 16 + x) * 16 + y) * 16 + z) ∷ us)

-- the word is the text of these units
pub record IsText (word units : List ℕ) : Type 0 where
  pub utf8 : IsUtf8 word
  pub rest : List ℕ
  pub opens : chars word ≡ 34 ∷ rest
  pub spells : Spells rest units

-- a word is read as a text just where it is spelled as one
abbrev pub TextsAreSpelled : Type 0
TextsAreSpelled = (word units : List ℕ) → (text_of word ≡ Some units) ↔ IsText word units
