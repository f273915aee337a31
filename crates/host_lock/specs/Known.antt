-- A lock and its seats as contracts see them, and what a call tells of the one history (own).
use Rattle.std.specs.Prelude.{◌≡◌, ℕ, List, [], ◌∷◌, ◌++◌, map, All, Contains, Option, None, Some}
use mathlib.Core.List.{IsPrefix}
use Rattle.atomic_table.specs.Seated.{TableId}
use Rattle.host_events.specs.declared.event.Event.{Event}
use Rattle.host_events.specs.declared.reply.Reply.{Reply}
use Rattle.host_events.specs.declared.journal.Entry.{Entry}
use Rattle.host_events.specs.Journal.{own_entries}
use Rattle.host_events.specs.Steps.{entry_of}
use Rattle.host_lock.specs.declared.view.Begun.{Begun}
use Rattle.host_lock.specs.declared.view.Own.{Own}
use Rattle.host_lock.specs.declared.view.View.{View}
use Rattle.host_lock.specs.Views.{Pair, own, seated}
use Rattle.host_lock.specs.Steps.{Seated}

-- which lock it is, the state that it began with, and how many threads it has
pub record LockId (S : Type 0) : Type 0 where
  pub table : TableId
  pub begun : S
  pub threads : ℕ

-- the lock of a table that began so
abbrev pub lock_of : {S : Type 0} → TableId → Begun S → LockId S
lock_of table begun = record { table = table; begun = begun.state.value; threads = begun.threads }

-- a seat: its lock, its thread, the journal that it has seen, and its own events with their replies
pub record SeatView (S : Type 0) : Type 0 where
  pub lock : Option (LockId S)
  pub thread : ℕ
  pub seen : List Entry
  pub mine : List Pair

-- the pairs of the first thread
abbrev pub first_mine : List Own → List Pair
first_mine [] = []
first_mine (o ∷ os) = o.mine

-- a seat that has seen nothing
abbrev pub new_seat : {S : Type 0} → LockId S → ℕ → SeatView S
new_seat lock thread = record { lock = Some lock; thread = thread; seen = []; mine = [] }

-- the lock that a seat of the table knows
abbrev pub known_lock : {S : Type 0} → TableId → Option (Begun S) → Option (LockId S)
known_lock table None = None
known_lock table (Some begun) = Some (lock_of table begun)

-- what contracts see of a thread's seat at the table
abbrev pub seat_view : {S : Type 0} → TableId → ℕ → View S → SeatView S
seat_view table thread v = record {
  lock = known_lock table v.begun;
  thread = thread;
  seen = v.seen;
  mine = first_mine v.threads;
}

-- the seat is of this thread alone, and waits for nothing
abbrev pub IsSeated : {S : Type 0} → ℕ → Seated S → Type 0
IsSeated {S} thread m =
    (begun : Begun S) × (m ≡ (seated begun thread m.0.seen (first_mine m.0.threads) m.0.handed, []))

module _ {S F : Type 0} (fixed : S → F) (Allows : F → List Entry → Type 0) where
  -- The journal may be the lock's as far as the seat knows: the state's type allows it, it begins with what
  -- the seat has seen, and the entries of the seat's thread are just its own.
  pub record IsPossible (lock : LockId S) (seat : SeatView S) (journal : List Entry) : Type 0 where
    pub allowed : Allows (fixed lock.begun) journal
    pub begins : IsPrefix seat.seen journal
    pub own : own_entries journal seat.thread ≡ seat.mine

  -- An event with its reply came after a possible journal. The seat has then seen that journal and the new
  -- entry, which is one more of its own, and this is again possible.
  pub record HasHappened (lock : LockId S) (before : SeatView S) (journal : List Entry) (event : Event) (reply : Reply) (after : SeatView S) : Type 0 where
    pub possible : IsPossible lock before journal
    pub seat : (after.lock ≡ before.lock) × (after.thread ≡ before.thread)
    pub seen : after.seen ≡ journal ++ entry_of before.thread event reply ∷ []
    pub mine : after.mine ≡ before.mine ++ (event, reply) ∷ []
    pub allowed : IsPossible lock after after.seen

module _ {S : Type 0} where
  -- The journal is the one history of these seats: it begins with what each has seen, the entries of each
  -- seat's thread are exactly its own, and each entry is of the thread of a seat.
  pub record IsHistory (seats : List (SeatView S)) (journal : List Entry) : Type 0 where
    pub begins : All (λ seat. IsPrefix seat.seen journal) seats
    pub own : All (λ seat. own_entries journal seat.thread ≡ seat.mine) seats
    pub threads : All (λ entry. Contains (map (λ seat. seat.thread) seats) entry.thread) journal

  -- these seats were joined into one, which has their threads and knows what each has seen
  pub record Gathers (seats : List (SeatView S)) (v : View S) : Type 0 where
    pub threads : v.threads ≡ map (λ seat. own seat.thread seat.mine) seats
    pub seen : All (λ seat. Contains (v.seen ∷ v.known) seat.seen) seats
    pub idle : (v.ticket ≡ None) × (v.taken ≡ None)
