-- What each kind of step at the lock's table tells its seat (own).
use Rattle.std.specs.Prelude.{◌≡◌, ◌≢◌, ℕ, List, [], ◌∷◌, ◌++◌, All, Option, Some, None}
use mathlib.Core.List.{IsPrefix}
use Rattle.atomic_table.specs.Table.{Me}
use Rattle.host_events.specs.declared.journal.Entry.{Entry}
use Rattle.host_events.specs.Journal.{own_entries}
use Rattle.host_lock.specs.declared.view.Begun.{Begun}
use Rattle.host_lock.specs.declared.view.View.{View}
use Rattle.host_lock.specs.Views.{Pair, seated, with_ticket, in_turn, after_turn}

-- a seat's view, and the slot that it holds
abbrev pub Seated : Type 0 → Type 0
Seated S = Me (Option S) (View S)

module _ {S : Type 0} where
  -- fetch_add on the ticket: the ticket is the old word
  abbrev pub draws : Seated S → ℕ → Seated S → Type 0
  draws m found after = after ≡ (with_ticket found m.0, m.1)

  -- exchange out: the state comes out of the slot that the seat holds, and nothing goes in
  abbrev pub takes_out : S → Seated S → Seated S → Type 0
  takes_out state m after = (m.1 ≡ (0, Some state) ∷ []) × (after ≡ (m.0, (0, None) ∷ []))

  -- exchange in: the slot that the seat holds has the state
  abbrev pub puts_in : S → Seated S → Seated S → Type 0
  puts_in state m after = after ≡ (m.0, (0, Some state) ∷ [])

  -- fetch_add on serving: the seat gives the slot back, in which the state has one entry more
  abbrev pub passes : (S → List Entry) → Seated S → Seated S → Type 0
  passes journal m after =
      (state : S) (before : List Entry) (entry : Entry) → m.1 ≡ (0, Some state) ∷ [] → m.0.taken ≡ Some before →
      journal state ≡ before ++ entry ∷ [] → after ≡ (after_turn before entry m.0, [])

  -- a seat of one thread, which waits for nothing
  pub record IsIdle (m : Seated S) : Type 0 where
    pub begun : Begun S
    pub thread : ℕ
    pub seen : List Entry
    pub mine : List Pair
    pub handed : Option ℕ
    pub is : m ≡ (seated begun thread seen mine handed, [])

  -- a seat of one thread, which waits with this ticket
  pub record IsWaiting (ticket : ℕ) (m : Seated S) : Type 0 where
    pub begun : Begun S
    pub thread : ℕ
    pub seen : List Entry
    pub mine : List Pair
    pub handed : Option ℕ
    pub is : m ≡ (with_ticket ticket (seated begun thread seen mine handed), [])

module _ {S F : Type 0} (journal : S → List Entry) (fixed : S → F) (allows : F → List Entry → Type 0) where
  -- what a seat knows of the state that it took
  pub record Takes (m after : Seated S) : Type 0 where
    pub state : S
    pub begun : Begun S
    pub begins : m.0.begun ≡ Some begun
    pub fixed_part : fixed state ≡ fixed begun.state.value
    pub allowed : allows (fixed begun.state.value) (journal state)
    pub seen : IsPrefix m.0.seen (journal state)
    pub mine : All (λ o. own_entries (journal state) o.thread ≡ o.mine) m.0.threads
    pub takes : after ≡ (in_turn (journal state) m.0, (0, Some state) ∷ m.1)

  -- load of serving: where the word is the seat's ticket, it takes the state, else nothing changes
  abbrev pub looks : Seated S → ℕ → Seated S → Type 0
  looks m found after = (m.0.ticket ≡ Some found → Takes m after) × (m.0.ticket ≢ Some found → after ≡ m)

  -- A seat in its turn may end it: the state that it holds has one entry of the seat's thread more than the
  -- journal that was taken, and the type allows that.
  pub record MayPass (m : Seated S) : Type 0 where
    pub state : S
    pub before : List Entry
    pub entry : Entry
    pub ticket : ℕ
    pub begun : Begun S
    pub thread : ℕ
    pub seen : List Entry
    pub mine : List Pair
    pub handed : Option ℕ
    pub is : m ≡ (in_turn before (with_ticket ticket (seated begun thread seen mine handed)), (0, Some state) ∷ [])
    pub by : entry.thread ≡ thread
    pub grew : journal state ≡ before ++ entry ∷ []
    pub fixed_part : fixed state ≡ fixed begun.state.value
    pub allowed : allows (fixed begun.state.value) (before ++ entry ∷ [])
