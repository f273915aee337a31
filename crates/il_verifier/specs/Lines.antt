-- A body as lines: for each instruction what it does to the stack, and where control may pass to (own;
-- after ECMA-335 III.1.5, III.1.7, III.3, III.4).
use Rattle.std.specs.Prelude.{◌≡◌, ℕ, ◌+◌, ◌-◌, ◌*◌, ◌/◌, ◌==◌, ◌≤◌, ◌&&◌, nat_lt, Bool, true, false, not, if◌then◌else◌, List, [], ◌∷◌, ◌++◌, map, length, slice_get, slice_index_or}
use Rattle.std.specs.Prelude.{ℤ, pos, negsuc, ◌+ℤ◌, Option, Some, None, option_map, option_to_list, unwrap_or}
use Rattle.std.specs.List.{list_any, range_with_len}
use Rattle.std.specs.Option.{option_and_then}
use Rattle.std.specs.Int.{w32, cast_signed}
use Rattle.cli_words.specs.Number.{number_at}
use Rattle.signatures.specs.declared.sig.Primitive.TheVariants as prim
use Rattle.signatures.specs.declared.key.KeyPart.{KeyPart}
use Rattle.signatures.specs.declared.key.KeyPart.TheVariants as part
use Rattle.il_reader.specs.declared.instruction.Operand.{Operand}
use Rattle.il_reader.specs.declared.instruction.Operand.TheVariants.{Nothing, Number as Count, Branch, Switch}
use Rattle.il_reader.specs.declared.instruction.Instr.{Instr}
use Rattle.il_reader.specs.Instructions.{instruction_at}
use Rattle.il_reader.specs.Offsets.{AreBoundaries}
use Rattle.il_flow.specs.declared.stack.StackType.{StackType}
use Rattle.il_flow.specs.declared.stack.StackType.TheVariants.{Int32, Int64, Native, Null as NullType, Ref}
use Rattle.il_flow.specs.StackTypes.{is_reference, stack_of}
use Rattle.il_flow.specs.Families.{object}
use Rattle.il_verifier.specs.declared.kind.Number.{Number}
use Rattle.il_verifier.specs.declared.kind.Number.TheVariants as number
use Rattle.il_verifier.specs.declared.kind.Width.{Width}
use Rattle.il_verifier.specs.declared.kind.Width.TheVariants as width
use Rattle.il_verifier.specs.declared.kind.Simple.{Simple}
use Rattle.il_verifier.specs.declared.kind.Simple.TheVariants.{Idle, Null, Constant, Text, Duplicate, Discard}
use Rattle.il_verifier.specs.declared.kind.Computing.{Computing}
use Rattle.il_verifier.specs.declared.kind.Computing.TheVariants.{Arithmetic, Shift, Negation, Conversion, Order, Sameness}
use Rattle.il_verifier.specs.declared.kind.Flow.{Flow}
use Rattle.il_verifier.specs.declared.kind.Flow.TheVariants.{Jump, Test, Comparison, SameComparison, Choice, Return, Throw}
use Rattle.il_verifier.specs.declared.kind.Place.{Place}
use Rattle.il_verifier.specs.declared.kind.Place.TheVariants.{Argument, ArgumentStore, Local, LocalStore}
use Rattle.il_verifier.specs.declared.kind.Naming.{Naming}
use Rattle.il_verifier.specs.declared.kind.Naming.TheVariants.{Call, VirtualCall, Creation, Cast, Field, FieldStore, Static, StaticStore, Array, Element, ElementStore}
use Rattle.il_verifier.specs.declared.kind.Vector.{Vector}
use Rattle.il_verifier.specs.declared.kind.Vector.TheVariants.{Length, NumberElement, NumberStore, ReferenceElement, ReferenceStore}
use Rattle.il_verifier.specs.declared.kind.Kind.{Kind}
use Rattle.il_verifier.specs.declared.kind.Kind.TheVariants.{OfValue, OfNumbers, OfFlow, OfPlace, OfMember, OfArray}
use Rattle.il_verifier.specs.declared.effect.Elements.TheVariants.{Any, Numbers, References, ReadAs, WrittenAs}
use Rattle.il_verifier.specs.declared.effect.Want.{Want}
use Rattle.il_verifier.specs.declared.effect.Want.TheVariants as want
use Rattle.il_verifier.specs.declared.effect.Operands.TheVariants.{Each, Agreeing, Returned}
use Rattle.il_verifier.specs.declared.effect.Gift.{Gift}
use Rattle.il_verifier.specs.declared.effect.Gift.TheVariants as gift
use Rattle.il_verifier.specs.declared.effect.Effect.{Effect}
use Rattle.il_verifier.specs.declared.facts.MethodFacts.{MethodFacts}
use Rattle.il_verifier.specs.declared.facts.Use.{Use}
use Rattle.il_verifier.specs.declared.facts.Use.TheVariants.{Plain, OfType, OfField, OfMethod}
use Rattle.il_verifier.specs.declared.facts.BodyFacts.{BodyFacts}
use Rattle.il_verifier.specs.declared.line.Line.{Line}
use Rattle.il_verifier.specs.Kinds.{run_of}

abbrev pub number_type : Number → StackType
number_type number.Int32 = Int32
number_type number.Int64 = Int64
number_type number.Native = Native

-- the number that a width is on the stack
abbrev pub width_type : Width → StackType
width_type width.One = Int32
width_type width.Two = Int32
width_type width.Four = Int32
width_type width.Eight = Int64
width_type width.Native = Native

abbrev pub does : List Want → List Gift → Effect
does wants gifts = record { operands = Each wants; gives = gifts }

abbrev pub two_agree : Bool → List Gift → Effect
two_agree references gifts = record { operands = Agreeing references; gives = gifts }

abbrev pub into_key : List KeyPart → Want
into_key key = want.Into (stack_of key)

abbrev pub give_key : List KeyPart → Gift
give_key key = gift.Is (stack_of key)

-- what copies, drops or makes a value
abbrev pub effect_on_value : Simple → Effect
effect_on_value Idle = does [] []
effect_on_value Null = does [] (gift.Is NullType ∷ [])
effect_on_value (Constant number) = does [] (gift.Is (number_type number) ∷ [])
effect_on_value Text = does [] (gift.Is (Ref (part.Prim prim.Text ∷ [])) ∷ [])
effect_on_value Duplicate = does (want.Anything ∷ []) (gift.Again ∷ gift.Again ∷ [])
effect_on_value Discard = does (want.Anything ∷ []) []

abbrev pub effect_on_numbers : Computing → Effect
effect_on_numbers Arithmetic = two_agree false (gift.Sum ∷ [])
effect_on_numbers Shift = does (want.Numeric ∷ want.Size ∷ []) (gift.Same ∷ [])
effect_on_numbers Negation = does (want.Numeric ∷ []) (gift.Same ∷ [])
effect_on_numbers (Conversion number) = does (want.Numeric ∷ []) (gift.Is (number_type number) ∷ [])
effect_on_numbers Order = two_agree false (gift.Is Int32 ∷ [])
effect_on_numbers Sameness = two_agree true (gift.Is Int32 ∷ [])

abbrev pub effect_of_flow : BodyFacts → Flow → Effect
effect_of_flow facts Jump = does [] []
effect_of_flow facts Test = does (want.Anything ∷ []) []
effect_of_flow facts Comparison = two_agree false []
effect_of_flow facts SameComparison = two_agree true []
effect_of_flow facts Choice = does (want.Int32 ∷ []) []
effect_of_flow facts Return = record { operands = Returned (option_map stack_of facts.result); gives = [] }
effect_of_flow facts Throw = does (want.Reference ∷ []) []

-- the arguments or the locals. A local is there where the body sets its locals to zeros and nulls
abbrev pub places : BodyFacts → Place → List (List KeyPart)
places facts Argument = facts.args
places facts ArgumentStore = facts.args
places facts Local = if facts.init_locals then facts.locals else []
places facts LocalStore = if facts.init_locals then facts.locals else []

abbrev pub stores : Place → Bool
stores Argument = false
stores ArgumentStore = true
stores Local = false
stores LocalStore = true

-- an instruction on the argument or local of a key, or of one that is not there
abbrev pub effect_on_key : Bool → Option (List KeyPart) → Effect
effect_on_key true (Some key) = does (into_key key ∷ []) []
effect_on_key true None = does (want.Anything ∷ []) []
effect_on_key false (Some key) = does [] (give_key key ∷ [])
effect_on_key false None = does [] (gift.Is Int32 ∷ [])

abbrev pub effect_on_place : BodyFacts → Place → ℕ → Effect
effect_on_place facts place n = effect_on_key (stores place) (slice_get (places facts place) n)

-- the object that a method is called on, where it is not static, and its arguments
abbrev pub call_on : MethodFacts → List Want
call_on called =
    (if called.is_static then [] else want.Into (Ref called.owner) ∷ []) ++ map into_key called.params

abbrev pub give_result : Option (List KeyPart) → List Gift
give_result result = map give_key (option_to_list result)

-- by the member or type that its token names, which is one that the instruction takes
abbrev pub effect_of_member : Naming → Use → Effect
effect_of_member Call (OfMethod called) = does (call_on called) (give_result called.result)
effect_of_member VirtualCall (OfMethod called) = does (call_on called) (give_result called.result)
effect_of_member Creation (OfMethod called) =
    does (map into_key called.params) (gift.Is (Ref called.owner) ∷ [])
effect_of_member Field (OfField kept) = does (want.Into (Ref kept.owner) ∷ []) (give_key kept.holds ∷ [])
effect_of_member FieldStore (OfField kept) = does (want.Into (Ref kept.owner) ∷ into_key kept.holds ∷ []) []
effect_of_member Static (OfField kept) = does [] (give_key kept.holds ∷ [])
effect_of_member StaticStore (OfField kept) = does (into_key kept.holds ∷ []) []
effect_of_member Cast (OfType key) = does (want.Reference ∷ []) (gift.Is (Ref key) ∷ [])
effect_of_member Array (OfType key) = does (want.Size ∷ []) (gift.Is (Ref (part.Vector ∷ key)) ∷ [])
effect_of_member Element (OfType key) = does (want.ArrayOf (ReadAs key) ∷ want.Size ∷ []) (give_key key ∷ [])
effect_of_member ElementStore (OfType key) =
    does (want.ArrayOf (WrittenAs key) ∷ want.Size ∷ into_key key ∷ []) []
effect_of_member _ named = does [] []

abbrev pub effect_on_array : Vector → Effect
effect_on_array Length = does (want.ArrayOf Any ∷ []) (gift.Is Native ∷ [])
effect_on_array (NumberElement width) =
    does (want.ArrayOf (Numbers width) ∷ want.Size ∷ []) (gift.Is (width_type width) ∷ [])
effect_on_array (NumberStore width) =
    does (want.ArrayOf (Numbers width) ∷ want.Size ∷ want.Into (width_type width) ∷ []) []
effect_on_array ReferenceElement = does (want.ArrayOf References ∷ want.Size ∷ []) (gift.Element ∷ [])
effect_on_array ReferenceStore = does (want.ArrayOf References ∷ want.Size ∷ want.Into (Ref object) ∷ []) []

-- what an instruction of a kind does, with the number of the argument or local that it names
abbrev pub effect_of : BodyFacts → Kind → ℕ → Use → Effect
effect_of facts (OfValue simple) n named = effect_on_value simple
effect_of facts (OfNumbers computing) n named = effect_on_numbers computing
effect_of facts (OfFlow flow) n named = effect_of_flow facts flow
effect_of facts (OfPlace place) n named = effect_on_place facts place n
effect_of facts (OfMember member) n named = effect_of_member member named
effect_of facts (OfArray vector) n named = effect_on_array vector

-- the argument or local that an instruction of a kind names is there
abbrev pub is_there : BodyFacts → Kind → ℕ → Bool
is_there facts (OfPlace place) n = nat_lt n (length (places facts place))
is_there facts _ n = true

-- a method is static exactly where it is not called on an object
abbrev pub is_whole : MethodFacts → Bool
is_whole called = if called.is_static then not called.has_this else called.has_this

-- a member may be used as an instruction uses it
abbrev pub is_used_well : Naming → Use → Bool
is_used_well Call (OfMethod called) = is_whole called
is_used_well VirtualCall (OfMethod called) = is_whole called && not called.is_static
is_used_well Creation (OfMethod called) = is_whole called && (not called.is_static && called.makes)
is_used_well Field (OfField kept) = not kept.is_static && kept.in_class
is_used_well FieldStore (OfField kept) = not kept.is_static && kept.in_class
is_used_well Static (OfField kept) = kept.is_static
is_used_well StaticStore (OfField kept) = kept.is_static
is_used_well Cast (OfType key) = is_reference key
is_used_well _ named = true

abbrev pub is_proper : Kind → Use → Bool
is_proper (OfMember member) named = is_used_well member named
is_proper _ named = true

-- control may pass to the instruction that follows
abbrev pub falls : Kind → Bool
falls (OfFlow Return) = false
falls (OfFlow Jump) = false
falls (OfFlow Throw) = false
falls _ = true

-- the number of the argument or local in an operand, or in the opcode: the first one of its run has 0
abbrev pub number_in : ℕ → Operand → ℕ
number_in n Nothing = n
number_in n (Count (pos m)) = m
number_in n _ = 0

abbrev pub place_number : ℕ → Instr → ℕ
place_number first instr = number_in (instr.code - first) instr.operand

-- the distances to which an operand may lead
abbrev pub distances : List ℕ → Operand → List ℤ
distances code (Branch distance) = distance ∷ []
distances code (Switch span) =
    map (λ n. cast_signed w32 (number_at w32 code (span.at + 4 * n))) (range_with_len 0 (span.len / 4))
distances code _ = []

-- the distances of a switch stand in the code
abbrev pub HasDistances : List ℕ → Operand → Type 0
HasDistances code (Switch span) = span.at + span.len ≤ length code
HasDistances code _ = Unit {0}

-- an instruction of the body begins at a place
abbrev pub is_begun : List ℕ → ℕ → Bool
is_begun begins at = list_any (λ begin. begin == at) begins

-- a place, where an instruction begins at it
abbrev pub begun : List ℕ → ℤ → Option ℕ
begun begins (pos at) = if is_begun begins at then Some at else None
begun begins (negsuc n) = None

abbrev pub leads_to : List ℕ → List ℕ → Kind → Operand → ℕ → List (Option ℕ)
leads_to code begins kind operand end =
    map (λ distance. begun begins (pos end +ℤ distance))
    ((if falls kind then pos 0 ∷ [] else []) ++ distances code operand)

-- what the token of the instruction at a place names
abbrev pub use_at : BodyFacts → ℕ → Use
use_at facts at = unwrap_or (slice_get facts.uses at) Plain

-- the line of an instruction of a kind, with the first opcode of its run, the place after it, and what
-- its token names
abbrev pub line_of : BodyFacts → List ℕ → Instr → ℕ → ℕ × Kind → Use → Line
line_of facts begins instr end run named =
    let n = place_number run.0 instr in
    record {
      effect = effect_of facts run.1 n named;
      goes = leads_to facts.code begins run.1 instr.operand end;
      is_there = is_there facts run.1 n;
      is_proper = is_proper run.1 named;
    }

-- the line of the instruction that begins at a place, where one of a kind begins there
abbrev pub line_from : BodyFacts → List ℕ → ℕ → Option Line
line_from facts begins at =
    if is_begun begins at then
    option_and_then
    (λ found. option_map (λ run. line_of facts begins found.0 found.1 (run.0, run.2) (use_at facts at))
    (run_of found.0.code))
    (instruction_at facts.code at)
    else None

-- the lines of a body, by the bytes of its code
abbrev pub AreLines : BodyFacts → List (Option Line) → Type 0
AreLines facts lines =
    (begins : List ℕ) × AreBoundaries facts.code begins
    × (lines ≡ map (line_from facts begins) (range_with_len 0 (length facts.code)))

-- the line at a place
abbrev pub line_at : List (Option Line) → ℕ → Option Line
line_at lines at = slice_index_or lines at None
