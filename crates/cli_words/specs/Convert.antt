-- Conversions of numbers (ECMA-335 III.1.5, III.3.27 to III.3.29).
use Rattle.std.specs.Prelude.{◌^◌, Bool, true, false, if◌then◌else◌, ℤ, pos, FitsSigned}
use Rattle.std.specs.Int.{Width, w8, w16, w32, w64, cast_unsigned, FitsUnsigned, int_wrap, int_rem_euclid}
use mir.Val.{bits}
use Rattle.cli_words.specs.declared.conversion.NumKind.{NumKind}
use Rattle.cli_words.specs.declared.conversion.NumKind.TheVariants.{I1, I2, I4, I8, U1, U2, U4, U8, I, U}

-- how wide a kind of number is; that a native one has 64 bits is own
abbrev pub width : NumKind → Width
width I1 = w8
width I2 = w16
width I4 = w32
width I8 = w64
width U1 = w8
width U2 = w16
width U4 = w32
width U8 = w64
width I = w64
width U = w64

-- its numbers are signed
abbrev pub is_signed : NumKind → Bool
is_signed I1 = true
is_signed I2 = true
is_signed I4 = true
is_signed I8 = true
is_signed U1 = false
is_signed U2 = false
is_signed U4 = false
is_signed U8 = false
is_signed I = true
is_signed U = false

-- the number for which a word of this width stands, where its bits are read as unsigned or as signed; z is
-- the number for which they stand when read as signed
abbrev pub widened : Width → Bool → ℤ → ℤ
widened w true z = pos (cast_unsigned w z)
widened w false z = z

-- conv reads its source as unsigned where it goes to u4, u8 or u, and else as signed (III.3.27)
abbrev pub reads_unsigned : NumKind → Bool
reads_unsigned U4 = true
reads_unsigned U8 = true
reads_unsigned U = true
reads_unsigned _ = false

-- z fits the width, as a signed number where the flag is set
abbrev pub FitsBy : Bool → Width → ℤ → Type 0
FitsBy true w z = FitsSigned w z
FitsBy false w z = FitsUnsigned w z

-- z is a number of the kind
abbrev pub Holds : NumKind → ℤ → Type 0
Holds kind z = FitsBy (is_signed kind) (width kind) z

-- the number of the kind that has the lowest bits of z
abbrev pub low_bits : NumKind → ℤ → ℤ
low_bits kind z =
    if is_signed kind then int_wrap (width kind) z else int_rem_euclid z (pos (2 ^ bits (width kind)))
