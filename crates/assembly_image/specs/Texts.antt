-- The places of the heap `#Strings` at which a text begins, worked out once for all rows (own).
use Rattle.std.specs.Prelude.{◌≡◌, ℕ, ◌+◌, ◌<◌, ◌≤◌, ◌&&◌, ◌||◌, min, nat_le, Bool, false, List, length, take, drop, slice_index_or, Option, Some, None, IfSome}
use Rattle.std.specs.Str.{is_utf8}
use Rattle.cli_words.specs.declared.span.Span.{Span}
use Rattle.cli_words.specs.Span.{cut, zero_after}
use Rattle.assembly_image.specs.Checks.{longest_string}
use Rattle.assembly_image.specs.declared.texts.Texts.{Texts}

-- the bytes before the zero at this place are a text that is allowed
abbrev pub is_text_to : List ℕ → Option ℕ → Bool
is_text_to bytes None = false
is_text_to bytes (Some len) = nat_le len longest_string && is_utf8 (take len bytes)

-- the bytes begin with such a text
abbrev pub begins_text : List ℕ → Bool
begins_text bytes = is_text_to bytes (zero_after bytes)

-- how far the zero at this place is, as far as it matters
abbrev pub near : Option ℕ → ℕ
near None = longest_string + 1
near (Some len) = min len (longest_string + 1)

-- the bytes begin with a character of this size, no more than the zero is away, and then with a text
abbrev pub goes_on : List ℕ → ℕ → ℕ → Bool
goes_on bytes len size =
    nat_le size len && (begins_text (drop size bytes) && is_utf8 (take size bytes))

abbrev pub begins_wide : List ℕ → ℕ → Bool
begins_wide bytes len = goes_on bytes len 2 || goes_on bytes len 3 || goes_on bytes len 4

-- the flags say at which places from one on a text begins
pub record AreStartsFrom (heap : List ℕ) (starts : List Bool) (from : ℕ) : Type 0 where
  pub long : length starts ≡ length heap
  pub each : (k : ℕ) → from ≤ k → k < length heap → (d : Bool)
      → slice_index_or starts k d ≡ begins_text (drop k heap)

-- the flags that were worked out, where there was memory for them, are those of the heap
abbrev pub AreTexts : List ℕ → Span → Texts → Type 0
AreTexts bytes heap texts =
    IfSome texts.starts (λ starts. AreStartsFrom (cut bytes heap) starts.items 0)
