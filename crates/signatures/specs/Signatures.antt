-- What a blob is as a signature (ECMA-335 II.23.2).
use Rattle.std.specs.Prelude.{◌≡◌, ℕ, ◌+◌, ◌-◌, ◌≤◌, List, [], ◌∷◌, Result, Ok, Err}
use Rattle.cli_words.specs.declared.span.Span.{Span}
use Rattle.cli_words.specs.Span.{cut}
use Rattle.signatures.specs.declared.fault.Stop.{Stop}
use Rattle.signatures.specs.declared.fault.Stop.TheVariants as stop
use Rattle.signatures.specs.declared.fault.SigFault.{SigFault}
use Rattle.signatures.specs.declared.fault.SigFault.TheVariants as fault
use Rattle.signatures.specs.declared.fault.ReadFault.{ReadFault}
use Rattle.signatures.specs.declared.fault.ReadFault.TheVariants.{Stopped, OutOfMemory}
use Rattle.signatures.specs.declared.sig.SigPart.{SigPart}
use Rattle.signatures.specs.declared.sig.MethodSig.{MethodSig}
use Rattle.signatures.specs.Grammar.{Reading, ◌>>=◌, nothing_at, field_at, method_at, locals_at, type_at}

abbrev pub ended : {A : Type 0} → A → List ℕ → Result A Stop
ended value [] = Ok value
ended value (byte ∷ rest) = nothing_at (byte ∷ rest)

-- a reading that takes its bytes whole
abbrev pub whole : {A : Type 0} → Reading A → Result A Stop
whole reading = reading >>= λ read. ended read.0 read.1

-- the place of a stop in a blob, counted from the start of the bytes
abbrev pub told_stop : Span → Stop → SigFault
told_stop blob (stop.Bad left) = fault.Bad (blob.at + blob.len - left)
told_stop blob (stop.Feature feature) = fault.Feature feature

-- the same where memory may have been wanting
abbrev pub told_fault : Span → ReadFault → SigFault
told_fault blob (Stopped end) = told_stop blob end
told_fault blob OutOfMemory = fault.OutOfMemory

abbrev pub placed : {A : Type 0} → Span → Result A Stop → Result A SigFault
placed blob (Ok value) = Ok value
placed blob (Err end) = Err (told_stop blob end)

-- the reading of a blob by its bytes: the signature that they are, and else where it stops
abbrev pub field_reading : List ℕ → Result (List SigPart) Stop
field_reading blob = whole (field_at blob)

abbrev pub method_reading : List ℕ → Result MethodSig Stop
method_reading blob = whole (method_at blob)

abbrev pub locals_reading : List ℕ → Result (List (List SigPart)) Stop
locals_reading blob = whole (locals_at blob)

-- of a TypeSpec (II.23.2.14); that any type may stand in one is own
abbrev pub type_reading : List ℕ → Result (List SigPart) Stop
type_reading blob = whole (type_at blob)

-- the same for the blob that a span of the bytes has, where the place of a stop is counted from their start
abbrev pub field_of : List ℕ → Span → Result (List SigPart) SigFault
field_of bytes blob = placed blob (field_reading (cut bytes blob))

abbrev pub method_of : List ℕ → Span → Result MethodSig SigFault
method_of bytes blob = placed blob (method_reading (cut bytes blob))

abbrev pub locals_of : List ℕ → Span → Result (List (List SigPart)) SigFault
locals_of bytes blob = placed blob (locals_reading (cut bytes blob))

abbrev pub type_of : List ℕ → Span → Result (List SigPart) SigFault
type_of bytes blob = placed blob (type_reading (cut bytes blob))

-- what a call answered, seen by view, is the reading
abbrev pub Agrees : {X Y F : Type 0} → (X → Y) → Result X F → Result Y F → Type 0
Agrees view (Ok value) reading = reading ≡ Ok (view value)
Agrees view (Err end) reading = reading ≡ Err end

-- the same, unless memory was wanting
abbrev pub GaveUp : {Y : Type 0} → ReadFault → Result Y Stop → Type 0
GaveUp (Stopped end) reading = reading ≡ Err end
GaveUp OutOfMemory reading = Unit {0}

abbrev pub Gives : {X Y : Type 0} → (X → Y) → Result X ReadFault → Result Y Stop → Type 0
Gives view (Ok value) reading = reading ≡ Ok (view value)
Gives view (Err fault) reading = GaveUp fault reading

-- a call refused with this fault
abbrev pub Refuses : {Y : Type 0} → SigFault → Result Y SigFault → Type 0
Refuses (fault.Bad at) reading = reading ≡ Err (fault.Bad at)
Refuses (fault.Feature feature) reading = reading ≡ Err (fault.Feature feature)
Refuses fault.OutOfMemory reading = Unit {0}

-- what a call answered, seen by view, is the reading, unless memory was wanting
abbrev pub GivesReading : {X Y : Type 0} → (X → Y) → Result X SigFault → Result Y SigFault → Type 0
GivesReading view (Ok value) reading = reading ≡ Ok (view value)
GivesReading view (Err why) reading = Refuses why reading

-- the place of a fault is in the blob, or right after its last byte
abbrev pub IsIn : Span → SigFault → Type 0
IsIn blob (fault.Bad at) = (blob.at ≤ at) × (at ≤ blob.at + blob.len)
IsIn blob (fault.Feature feature) = Unit {0}
IsIn blob fault.OutOfMemory = Unit {0}
