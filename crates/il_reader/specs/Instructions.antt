-- Instructions in a list of bytes (ECMA-335 III.1.2, VI.C.2). A byte past the list's end counts as
-- 0; an instruction stands there whole only where the list goes on to its end.
use Rattle.std.specs.Prelude.{ℕ, ◌+◌, ◌*◌, ◌==◌, if◌then◌else◌, nat_le, List, length, slice_index}
use Rattle.std.specs.Prelude.{Option, Some, None, pos}
use Rattle.std.specs.Int.{w8, w16, w32, w64, cast_signed}
use Rattle.std.specs.Option.{option_and_then}
use Rattle.cli_words.specs.Number.{number_at}
use Rattle.il_reader.specs.declared.opcode.Form.{Form}
use Rattle.il_reader.specs.declared.opcode.Form.TheVariants.{Bare, Int8, UInt8, UInt16, Int32}
use Rattle.il_reader.specs.declared.opcode.Form.TheVariants.{Int64, TokenWord, ShortBranch}
use Rattle.il_reader.specs.declared.opcode.Form.TheVariants.{LongBranch, Distances}
use Rattle.il_reader.specs.declared.instruction.Operand.{Operand}
use Rattle.il_reader.specs.declared.instruction.Operand.TheVariants.{Nothing, Number, Branch}
use Rattle.il_reader.specs.declared.instruction.Operand.TheVariants.{Token, Switch}
use Rattle.il_reader.specs.declared.instruction.Instr.{Instr}
use Rattle.il_reader.specs.Opcodes.{form_of}

-- the first byte of an opcode of two bytes, and that opcode where the second is 0 (III.1.2.1)
abbrev pub prefix : ℕ
prefix = 0xFE

abbrev pub long_opcodes : ℕ
long_opcodes = 0xFE00

-- how many bytes a distance has, and the count before distances
abbrev pub distance_len : ℕ
distance_len = 4

-- an opcode is one byte, or FE and a second byte (III.1.2.1)
unfoldable pub opcode_len : List ℕ → ℕ → ℕ
opcode_len code at = if slice_index code at == prefix then 2 else 1

unfoldable pub opcode_at : List ℕ → ℕ → ℕ
opcode_at code at =
    if slice_index code at == prefix then long_opcodes + slice_index code (at + 1)
    else slice_index code at

-- how many bytes an operand at a place takes
unfoldable pub operand_len : List ℕ → ℕ → Form → ℕ
operand_len code at Bare = 0
operand_len code at Int8 = 1
operand_len code at UInt8 = 1
operand_len code at UInt16 = 2
operand_len code at Int32 = 4
operand_len code at Int64 = 8
operand_len code at TokenWord = 4
operand_len code at ShortBranch = 1
operand_len code at LongBranch = 4
operand_len code at Distances = distance_len + distance_len * number_at w32 code at

-- what it says; the distances of a switch stand after their count
unfoldable pub operand_at : List ℕ → ℕ → Form → Operand
operand_at code at Bare = Nothing
operand_at code at Int8 = Number (cast_signed w8 (slice_index code at))
operand_at code at UInt8 = Number (pos (slice_index code at))
operand_at code at UInt16 = Number (pos (number_at w16 code at))
operand_at code at Int32 = Number (cast_signed w32 (number_at w32 code at))
operand_at code at Int64 = Number (cast_signed w64 (number_at w64 code at))
operand_at code at TokenWord = Token (number_at w32 code at)
operand_at code at ShortBranch = Branch (cast_signed w8 (slice_index code at))
operand_at code at LongBranch = Branch (cast_signed w32 (number_at w32 code at))
operand_at code at Distances =
    Switch (record { at = at + distance_len; len = distance_len * number_at w32 code at })

-- an instruction whose operand has a form, with the place after it, where the code goes on to there
unfoldable pub whole : List ℕ → ℕ → Form → Option (Instr × ℕ)
whole code at form =
    let from = at + opcode_len code at in
    let end = from + operand_len code from form in
    if nat_le end (length code) then
    Some (record { code = opcode_at code at; operand = operand_at code from form }, end)
    else None

-- the instruction that stands whole at a place, with the place after it
unfoldable pub instruction_at : List ℕ → ℕ → Option (Instr × ℕ)
instruction_at code at = option_and_then (whole code at) (form_of (opcode_at code at))
