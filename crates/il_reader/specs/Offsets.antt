-- The places at which the instructions of a code begin (ECMA-335 III.1.2).
use Rattle.std.specs.Prelude.{◌≡◌, ℕ, ◌<◌, List, [], ◌∷◌, length, Some, None}
use Rattle.il_reader.specs.declared.fault.IlFault.{IlFault}
use Rattle.il_reader.specs.declared.fault.IlFault.TheVariants.{Bad, OutOfMemory}
use Rattle.il_reader.specs.declared.instruction.Instr.{Instr}
use Rattle.il_reader.specs.Instructions.{instruction_at}

-- the instruction at a place ends where the next one begins
abbrev pub IsNext : List ℕ → ℕ → ℕ → Type 0
IsNext code at end = (instr : Instr) × (instruction_at code at ≡ Some (instr, end))

-- going on from a place to another, instructions begin at just these places, in this order
abbrev pub IsPath : List ℕ → ℕ → List ℕ → ℕ → Type 0
IsPath code from [] to = from ≡ to
IsPath code from (at ∷ places) to =
    (at ≡ from) × (end : ℕ) × IsNext code at end × IsPath code end places to

-- going on from the first byte, instructions begin at just these places, and the last one ends
-- where the code does
abbrev pub AreBoundaries : List ℕ → List ℕ → Type 0
AreBoundaries code places = IsPath code 0 places (length code)

-- going on from the first byte, a place before the code's end is come to at which no instruction
-- stands whole
abbrev pub IsBroken : List ℕ → ℕ → Type 0
IsBroken code at =
    (places : List ℕ) × IsPath code 0 places at
    × (at < length code) × (instruction_at code at ≡ None)

-- a fault that a code has; want of memory is none
abbrev pub HasFault : List ℕ → IlFault → Type 0
HasFault code (Bad at) = IsBroken code at
HasFault code OutOfMemory = Unit {0}
