-- Turns by a schedule (own). Threads are counted from 1, and turns from 0.
use Rattle.std.specs.Prelude.{ℕ, Bool, ◌≡◌, ◌≤◌, ◌-◌, ◌%◌, ◌==◌, ◌&&◌, List, ◌∷◌, ◌++◌, length, Some, slice_get, slice_index, IsTrue, nat_le}
use Rattle.std.specs.Char.{is_ascii_digit}
use Rattle.std.specs.List.{filter, list_all, list_any, range_with_len}
use Rattle.host_events.specs.declared.journal.Entry.{Entry}

-- a schedule: 1 to 64 digits
abbrev pub is_schedule : List ℕ → Bool
is_schedule digits = nat_le 1 (length digits) && nat_le (length digits) 64 && list_all is_ascii_digit digits

abbrev pub IsSchedule : List ℕ → Type 0
IsSchedule digits = IsTrue (is_schedule digits)

-- t is one of so many threads
abbrev pub IsThread : ℕ → ℕ → Type 0
IsThread threads t = (1 ≤ t) × (t ≤ threads)

-- every entry is of one of so many threads
abbrev pub IsOfThreads : ℕ → List Entry → Type 0
IsOfThreads threads journal =
    (before : List Entry) (entry : Entry) (after : List Entry) → journal ≡ before ++ entry ∷ after →
    IsThread threads entry.thread

-- the threads, in rising order, that have an entry among these
abbrev pub unfinished : ℕ → List Entry → List ℕ
unfinished threads entries = filter (λ t. list_any (λ entry. entry.thread == t) entries) (range_with_len 1 threads)

-- the number that the schedule has for the turn j: the digit there modulo its length
abbrev pub digit_at : List ℕ → ℕ → ℕ
digit_at schedule j = slice_index schedule (j % length schedule) - 48

-- Each entry is of the thread whose turn it is. Of the threads that have an entry then or later, in rising order,
-- it is the turn of the one at the place that is the turn's digit modulo their count.
abbrev pub TakesTurns : ℕ → List Entry → List ℕ → Type 0
TakesTurns threads journal schedule =
    (before : List Entry) (entry : Entry) (after : List Entry) → journal ≡ before ++ entry ∷ after →
    let waiting = unfinished threads (entry ∷ after) in
    slice_get waiting (digit_at schedule (length before) % length waiting) ≡ Some entry.thread
