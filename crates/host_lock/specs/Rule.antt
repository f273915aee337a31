-- The rule of the lock, which holds between any two steps (own).
use Rattle.std.specs.Prelude.{◌≡◌, ◌≢◌, ℕ, ◌+◌, ◌<◌, ◌≤◌, ◌^◌, ◌==◌, if◌then◌else◌, List, [], ◌∷◌, length, All, sum_by, Option, Some, None}
use mathlib.Core.Option.{some, none}
use mathlib.Core.List.{IsPrefix}
use lib.ListN.{get_elem?}
use Rattle.atomic_table.specs.Table.{State}
use Rattle.host_events.specs.declared.journal.Entry.{Entry}
use Rattle.host_events.specs.Journal.{own_entries}
use Rattle.host_lock.specs.declared.view.Begun.{Begun}
use Rattle.host_lock.specs.declared.view.View.{View}
use Rattle.host_lock.specs.Views.{has_ticket, places, thread_count}

-- the thread is one of the first so many, counted from 1
abbrev pub IsHandedOut : ℕ → ℕ → Type 0
IsHandedOut handed thread = (1 ≤ thread) × (thread ≤ handed)

-- the numbers of the rule: the ticket word, how many threads were handed out, the seat that has that
-- count, and the seat of each ticket
pub record Counts : Type 0 where
  pub ticket : ℕ
  pub handed : ℕ
  pub keeper : ℕ
  pub seat_of : ℕ → ℕ

module _ {S F : Type 0} (journal : S → List Entry) (fixed : S → F) (allows : F → List Entry → Type 0) where
  -- Where the state is. At home it has the counted journal and the fixed part that the lock began with.
  -- While it is out, just one seat is in its turn, which has the ticket that is served and keeps the
  -- counted journal.
  pub data Place (begun : Begun S) (counted : List Entry) (homes : List (mathlib.Core.Option.Option (Option S))) (views : List (View S)) : Type 0 where
    at_home : (state : S) → homes ≡ some (Some state) ∷ [] → journal state ≡ counted →
        fixed state ≡ fixed begun.state.value →
        ((seat : ℕ) (v : View S) → get_elem? views seat ≡ some v → v.taken ≡ None) → Place begun counted homes views
    out : (seat : ℕ) (v : View S) → homes ≡ none ∷ [] → get_elem? views seat ≡ some v →
        v.ticket ≡ Some (length counted) → v.taken ≡ Some counted →
        ((other : ℕ) (w : View S) → get_elem? views other ≡ some w → w.taken ≢ None → other ≡ seat) → Place begun counted homes views

  -- what holds of each seat, by its number
  pub record Sits (begun : Begun S) (counted : List Entry) (counts : Counts) (seat : ℕ) (v : View S) : Type 0 where
    -- a seat that is not spent knows what the lock was made with
    pub begins : 0 < thread_count v → v.begun ≡ Some begun
    pub seen : IsPrefix v.seen counted
    pub known : All (λ xs. IsPrefix xs v.seen) v.known
    -- the entries of its threads in the counted journal are exactly their own
    pub mine : All (λ o. own_entries counted o.thread ≡ o.mine) v.threads
    -- tickets differ, and lie from serving up to the ticket word
    pub ticket : (n : ℕ) → v.ticket ≡ Some n → (length counted ≤ n) × (n < counts.ticket) × (counts.seat_of n ≡ seat)
    pub waits : has_ticket v ≤ thread_count v
    -- just one seat has the count of threads handed out
    pub handed : v.handed ≡ (if seat == counts.keeper then Some counts.handed else None)

  pub record IsOneHistory (begun : Begun S) (s : State (Option S) (View S)) : Type 0 where
    pub counted : List Entry
    pub counts : Counts
    -- serving is the number of entries that count
    pub words : s.words ≡ counts.ticket ∷ length counted ∷ []
    -- the ticket word is serving and the seats with a ticket
    pub ticket : counts.ticket ≡ length counted + sum_by has_ticket s.views
    pub place : Place begun counted s.homes s.views
    pub allowed : allows (fixed begun.state.value) counted
    pub seats : (seat : ℕ) (v : View S) → get_elem? s.views seat ≡ some v → Sits begun counted counts seat v
    -- each thread that was handed out stands in one seat, in one place, and no other thread stands in any
    pub once : (thread : ℕ) → IsHandedOut counts.handed thread → sum_by (places thread) s.views ≡ 1
    pub never : (thread : ℕ) → ¬ IsHandedOut counts.handed thread → sum_by (places thread) s.views ≡ 0
    pub all : sum_by thread_count s.views ≡ counts.handed
    -- an entry is of a thread that was handed out
    pub entries : All (λ entry. IsHandedOut counts.handed entry.thread) counted
    pub keeper : counts.keeper < length s.views
    pub few : (counts.handed ≤ begun.threads) × (begun.threads < 2 ^ 32)
