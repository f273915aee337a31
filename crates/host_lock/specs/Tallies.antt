-- The two small states of the tests: one that counts, and one in which each of two threads has a share (own).
use Rattle.std.specs.Prelude.{ℕ, ◌≡◌, ◌+◌, ◌<◌, ◌≤◌, ◌^◌, ◌==◌, if◌then◌else◌, List, length, map}
use Rattle.std.specs.List.{range_with_len}
use Rattle.host_events.specs.declared.event.Event.TheVariants.{Collect}
use Rattle.host_events.specs.declared.reply.Reply.TheVariants.{Made}
use Rattle.host_events.specs.declared.journal.Entry.{Entry}
use Rattle.host_events.specs.Journal.{own_entries}
use Rattle.host_events.specs.Steps.{entry_of}

-- thread 1 made so many entries, each of which replies its number
abbrev pub ticks : ℕ → List Entry
ticks count = map (λ n. entry_of 1 Collect (Made n)) (range_with_len 1 count)

-- a journal of the state that counts
abbrev pub IsCounted : List Entry → Type 0
IsCounted entries = (entries ≡ ticks (length entries)) × (length entries < 2 ^ 32)

-- thread 1 may count on
abbrev pub MayCount : List Entry → ℕ → Type 0
MayCount entries thread = (thread ≡ 1) × (length (own_entries entries 1) + 1 < 2 ^ 32)

-- how many entries a thread may make: threads 1 and 2 have a share
abbrev pub share_of : ℕ × ℕ → ℕ → ℕ
share_of shares thread = if thread == 1 then shares.0 else (if thread == 2 then shares.1 else 0)

-- no thread has more entries than its share
pub record IsTallied (shares : ℕ × ℕ) (entries : List Entry) : Type 0 where
  pub within : (thread : ℕ) → length (own_entries entries thread) ≤ share_of shares thread
  pub few : shares.0 + shares.1 < 2 ^ 32
  pub short : length entries < 2 ^ 32

-- the thread has not used up its share
abbrev pub MayTick : ℕ × ℕ → List Entry → ℕ → Type 0
MayTick shares entries thread = length (own_entries entries thread) < share_of shares thread

-- the shares, and the entries so far
pub record Tallied : Type 0 where
  pub shares : ℕ × ℕ
  pub entries : List Entry
