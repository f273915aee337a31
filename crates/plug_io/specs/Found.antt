-- What a read of a file answers (own).
use Rattle.std.specs.Prelude.{◌≡◌, ℕ, ◌≤◌, ◌<◌, List, length, Bool, true, false}
use Rattle.std.specs.Prelude.{Option, Some, None, IsSomeAnd}
use Rattle.plug_io.specs.declared.reading.Found.{Found}
use Rattle.plug_io.specs.declared.reading.Found.TheVariants.{Bytes, Absent, TooLong}
use Rattle.plug_io.specs.declared.reading.Found.TheVariants.{Failed, OutOfMemory}

-- a fact of the bytes, where there are any
abbrev pub IfBytes : Found → (List ℕ → Type 0) → Type 0
IfBytes (Bytes bytes) P = P bytes.items
IfBytes Absent P = Unit {0}
IfBytes TooLong P = Unit {0}
IfBytes Failed P = Unit {0}
IfBytes OutOfMemory P = Unit {0}

-- a fact of a read that failed
abbrev pub OnFailed : Found → Type 0 → Type 0
OnFailed (Bytes _) P = Unit {0}
OnFailed Absent P = Unit {0}
OnFailed TooLong P = Unit {0}
OnFailed Failed P = P
OnFailed OutOfMemory P = Unit {0}

abbrev pub is_failed : Found → Bool
is_failed (Bytes _) = false
is_failed Absent = false
is_failed TooLong = false
is_failed Failed = true
is_failed OutOfMemory = false

-- what is answered where the content at the path is known: the content itself if it is no longer
-- than the limit, Absent exactly where there is none, TooLong exactly where it is longer; a fault and
-- want of memory tell nothing
abbrev pub IsAnswer : Option (List ℕ) → ℕ → Found → Type 0
IsAnswer content limit (Bytes bytes) = (content ≡ Some bytes.items) × (length bytes.items ≤ limit)
IsAnswer content limit Absent = content ≡ None
IsAnswer content limit TooLong = IsSomeAnd content (λ bytes. limit < length bytes)
IsAnswer content limit Failed = Unit {0}
IsAnswer content limit OutOfMemory = Unit {0}
