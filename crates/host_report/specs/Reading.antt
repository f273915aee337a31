-- What a call reads at the front of a text (own: the reader's view, which no promise cites).
use Rattle.std.specs.Prelude.{ℕ, ◌≡◌, List, [], ◌∷◌, Option, Some, None, Result, Ok, Err}
use Rattle.host_report.specs.declared.unread.Unread.{Unread}
use Rattle.host_report.specs.declared.unread.Unread.TheVariants.{Differs, OutOfMemory}

-- what a call read is what is there to be read, unless memory was wanting
abbrev pub Reads : {T V : Type 0} → (T → V) → Result T Unread → Option V → Type 0
Reads view (Ok x) there = there ≡ Some (view x)
Reads view (Err Differs) there = there ≡ None
Reads view (Err OutOfMemory) there = Unit {0}

-- what can stand behind a field: nothing, or a space and more
abbrev pub IsTail : List ℕ → Type 0
IsTail [] = Unit {0}
IsTail (byte ∷ bytes) = byte ≡ 32

-- what is read after another reading, from where that one ended
abbrev pub then_read : {T V : Type 0} → Option (T × List ℕ) → (T → List ℕ → Option V) → Option V
then_read None next = None
then_read (Some read) next = next read.0 read.1
