-- Compressed unsigned numbers (ECMA-335 II.23.2, II.24.2.4).
use Rattle.std.specs.Prelude.{◌≡◌, ℕ, ◌+◌, ◌-◌, ◌*◌, ◌<◌, ◌⊎◌, List, [], ◌∷◌, Option, Some, None, nat_lt, if◌then◌else◌}

-- a number of seven bits in one byte
abbrev pub SpellsInOne : List ℕ → ℕ → Type 0
SpellsInOne bytes n = (n < 0x80) × (bytes ≡ n ∷ [])

-- a number of fourteen bits in two bytes, the highest first, with 10 before its bits
abbrev pub SpellsInTwo : List ℕ → ℕ → Type 0
SpellsInTwo bytes n =
    (a : ℕ) × (b : ℕ) × (a < 0x40) × (b < 0x100)
    × (bytes ≡ (0x80 + a) ∷ b ∷ []) × (n ≡ a * 0x100 + b)

-- a number of 29 bits in four bytes, the highest first, with 110 before its bits
abbrev pub SpellsInFour : List ℕ → ℕ → Type 0
SpellsInFour bytes n =
    (a : ℕ) × (b : ℕ) × (c : ℕ) × (d : ℕ) × (a < 0x20) × (b < 0x100) × (c < 0x100) × (d < 0x100)
    × (bytes ≡ (0xC0 + a) ∷ b ∷ c ∷ d ∷ []) × (n ≡ ((a * 0x100 + b) * 0x100 + c) * 0x100 + d)

-- the bytes are a spelling of n; that it need not be its shortest is own
abbrev pub Spells : List ℕ → ℕ → Type 0
Spells bytes n = SpellsInOne bytes n ⊎ (SpellsInTwo bytes n ⊎ SpellsInFour bytes n)

-- the number after a first byte a of a spelling in two bytes, and that count
abbrev pub two_bytes : ℕ → List ℕ → Option (ℕ × ℕ)
two_bytes a (b ∷ rest) = Some ((a - 0x80) * 0x100 + b, 2)
two_bytes a [] = None

-- the number after a first byte a of a spelling in four bytes, and that count
abbrev pub four_bytes : ℕ → List ℕ → Option (ℕ × ℕ)
four_bytes a (b ∷ c ∷ d ∷ rest) = Some ((((a - 0xC0) * 0x100 + b) * 0x100 + c) * 0x100 + d, 4)
four_bytes a _ = None

-- the number that a spelling at the front of the bytes has, and how many bytes that spelling takes
abbrev pub number_at_front : List ℕ → Option (ℕ × ℕ)
number_at_front [] = None
number_at_front (a ∷ rest) =
    if nat_lt a 0x80 then Some (a, 1)
    else (if nat_lt a 0xC0 then two_bytes a rest
    else (if nat_lt a 0xE0 then four_bytes a rest else None))
