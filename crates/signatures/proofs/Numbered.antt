-- How great the numbers are that are spelled.
use Rattle.std.proofs.Common.{◌≡◌, ℕ, ◌%◌, ◌^◌, ◌<◌, ◌≤◌, inl, inr, List, [], ◌∷◌, Option, Some, None, arith}
use Rattle.std.specs.Prelude.{IfSome}
use Rattle.std.specs.List.{AllByRecursion}
use Rattle.cli_words.specs.Compressed.{Spells}
use Rattle.signatures.specs.declared.sig.SigPart.{SigPart}
use Rattle.signatures.specs.declared.sig.SigPart.TheVariants.{Prim, Class, Var, Inst, Vector}
use Rattle.signatures.specs.declared.sig.MethodSig.{MethodSig}
use Rattle.signatures.specs.Grammar.{no_table}
use Rattle.signatures.specs.Spelling.{SpellsClass, SpellsPart, SpellsParts, SpellsTypes, SpellsResult, SpellsMethod}
use Rattle.signatures.specs.Laws.{IsNumbered, AreNumbered, IsMethodNumbered}

number-small : (bytes : List ℕ) (n : ℕ) → Spells bytes n → n < 2 ^ 29
number-small bytes n (inl s) = omega (arith, s.0)
number-small bytes n (inr (inl s)) = omega (arith, s.2, s.3, s.5)
number-small bytes n (inr (inr s)) = omega (arith, s.4, s.5, s.6, s.7, s.9)

class-small : (bytes : List ℕ) (n : ℕ) → SpellsClass bytes n → (n < 2 ^ 29) × (n % 4 < no_table)
class-small bytes n s = (number-small bytes n s.0, omega (arith, s.1))

part-numbered : (part : SigPart) (bytes : List ℕ) → SpellsPart part bytes → IsNumbered part
part-numbered (Prim prim) bytes h = tt
part-numbered (Class class) bytes h = class-small h.1 class h.3
part-numbered (Var n) bytes h = number-small h.1 n h.3
part-numbered (Inst class args) bytes h =
    let c = class-small h.1 class h.4 in
    (c.0, c.1, number-small h.2 args h.5)
part-numbered Vector bytes h = tt

pub parts-numbered : (parts : List SigPart) (bytes : List ℕ) → SpellsParts parts bytes → AreNumbered parts
parts-numbered [] bytes h = tt
parts-numbered (part ∷ parts) bytes h = (part-numbered part h.1 h.4, parts-numbered parts h.2 h.5)

pub types-numbered : (sigs : List (List SigPart)) (bytes : List ℕ) → SpellsTypes sigs bytes → AllByRecursion AreNumbered sigs
types-numbered [] bytes h = tt
types-numbered (sig ∷ sigs) bytes h = (parts-numbered sig h.0 h.2.1, types-numbered sigs h.1 h.3)

result-numbered : (result : Option (List SigPart)) (bytes : List ℕ) → SpellsResult result bytes → IfSome result AreNumbered
result-numbered None bytes h = tt
result-numbered (Some sig) bytes h = parts-numbered sig bytes h.1

pub method-numbered : (sig : MethodSig) (bytes : List ℕ) → SpellsMethod sig bytes → IsMethodNumbered sig
method-numbered sig bytes h = (result-numbered sig.result h.1 h.4, types-numbered sig.params h.2 h.5)
