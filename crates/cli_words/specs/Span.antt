-- Places in a list of bytes (own).
use Rattle.std.specs.Prelude.{ℕ, ◌≤◌, ◌+◌, ◌==◌, Bool, nat_le, List, take, drop, Option}
use Rattle.std.specs.List.{position}
use Rattle.cli_words.specs.declared.span.Span.{Span}

-- the bytes of a span
abbrev pub cut : List ℕ → Span → List ℕ
cut bytes span = take span.len (drop span.at bytes)

-- the whole span lies in bytes of this length
abbrev pub LiesIn : ℕ → Span → Type 0
LiesIn len span = span.at + span.len ≤ len

-- the same as a test
abbrev pub lies_in : ℕ → Span → Bool
lies_in len span = nat_le (span.at + span.len) len

-- how many bytes stand before the first zero
abbrev pub zero_after : List ℕ → Option ℕ
zero_after = position (λ b. b == 0)
