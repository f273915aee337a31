-- What is read, or the cause for which nothing is (own).
use Rattle.std.specs.Prelude.{◌≡◌, Bool, Result, Ok, Err, if◌then◌else◌}
use Rattle.host_script.specs.declared.cause.LineCause.{LineCause}
use Rattle.host_script.specs.declared.cause.LineFault.{LineFault}
use Rattle.host_script.specs.declared.cause.LineFault.TheVariants.{Cause, OutOfMemory}

-- the first is tried first; what it gives is handed on
abbrev pub and_then : {A B : Type 0} → Result A LineCause → (A → Result B LineCause) → Result B LineCause
and_then (Ok value) next = next value
and_then (Err cause) next = Err cause

-- the cause comes unless the test passes
abbrev pub unless : {A : Type 0} → Bool → LineCause → Result A LineCause → Result A LineCause
unless passes cause next = if passes then next else Err cause

-- a fault is want of memory or the cause
abbrev pub GivesFault : {A : Type 0} → LineFault → Result A LineCause → Type 0
GivesFault (Cause cause) reading = reading ≡ Err cause
GivesFault OutOfMemory reading = Unit {0}

-- the result is what is read, unless memory is wanting
abbrev pub Gives : {A : Type 0} → Result A LineFault → Result A LineCause → Type 0
Gives (Ok value) reading = reading ≡ Ok value
Gives (Err fault) reading = GivesFault fault reading
