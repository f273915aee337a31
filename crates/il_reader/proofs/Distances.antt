-- The distances of a switch.
use Rattle.std.proofs.Common.{◌≡◌, ℕ, ◌+◌, ◌≤◌, ◌*◌, List, length, Option, Some, None, nat_le, ap, subst, arith, leb-true}
use Rattle.std.specs.Int.{w32}
use Rattle.std.specs.Option.{option_and_then}
use Rattle.cli_words.specs.Number.{number_at}
use Rattle.std.proofs.lemmas.Option.{cond_some}
use Rattle.cli_words.specs.declared.span.Span.{Span}
use Rattle.il_reader.specs.declared.instruction.Instr.{Instr}
use Rattle.il_reader.specs.declared.instruction.Operand.{Operand}
use Rattle.il_reader.specs.declared.instruction.Operand.TheVariants.{Switch}
use Rattle.il_reader.specs.declared.opcode.Form.{Form}
use Rattle.il_reader.specs.declared.opcode.Form.TheVariants.{Bare, Int8, UInt8, UInt16, Int32, Int64, TokenWord, ShortBranch, LongBranch, Distances}
use Rattle.il_reader.specs.Opcodes.{form_of}
use Rattle.il_reader.specs.Instructions.{opcode_len, opcode_at, operand_len, operand_at, whole, instruction_at}

abbrev Lie : List ℕ → Operand → Type 0
Lie code operand = (span : Span) → operand ≡ Switch span → span.at + span.len ≤ length code

by-form : (code : List ℕ) (at from : ℕ) (form : Form) → from + operand_len code from form ≤ length code →
    Lie code (operand_at code from form)
unfolding operand_len operand_at
by-form code at from Bare within = λ span is. absurd (cc is)
by-form code at from Int8 within = λ span is. absurd (cc is)
by-form code at from UInt8 within = λ span is. absurd (cc is)
by-form code at from UInt16 within = λ span is. absurd (cc is)
by-form code at from Int32 within = λ span is. absurd (cc is)
by-form code at from Int64 within = λ span is. absurd (cc is)
by-form code at from TokenWord within = λ span is. absurd (cc is)
by-form code at from ShortBranch within = λ span is. absurd (cc is)
by-form code at from LongBranch within = λ span is. absurd (cc is)
by-form code at from Distances within = λ span is.
    let ats : from + 4 ≡ span.at = cc is in
    let lens : 4 * number_at w32 code from ≡ span.len = cc is in
    omega (arith, within, ats, lens)

of-whole : (code : List ℕ) (at : ℕ) (form : Form) (found : Instr × ℕ) → whole code at form ≡ Some found →
    Lie code found.0.operand
unfolding whole
of-whole code at form found is =
    let from : ℕ = at + opcode_len code at in
    let end : ℕ = from + operand_len code from form in
    let instr : Instr = record { code = opcode_at code at; operand = operand_at code from form } in
    let read = cond_some (nat_le end (length code)) (instr, end) found is in
    let operands : operand_at code from form ≡ found.0.operand =
    ap (λ (f : Instr × ℕ). f.0.operand) read.1 in
    subst (λ (o : Operand). Lie code o) operands
    (by-form code at from form (leb-true end (length code) read.0))

-- the distances of a switch stand in the code with it
pub distances_lie : (code : List ℕ) (at : ℕ) (found : Instr × ℕ) → instruction_at code at ≡ Some found →
    Lie code found.0.operand
unfolding instruction_at
distances_lie code at found is = by (form_of (opcode_at code at)) is
  where
    by : (form : Option Form) → option_and_then (whole code at) form ≡ Some found → Lie code found.0.operand
    by None is = absurd (cc is)
    by (Some form) is = of-whole code at form found is
