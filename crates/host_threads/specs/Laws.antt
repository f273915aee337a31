-- Laws over turns (own).
use Rattle.std.specs.Prelude.{ℕ, ◌≡◌, List, ◌∷◌, ◌++◌, Option, Some, None}
use Rattle.host_events.specs.declared.event.Event.{Event}
use Rattle.host_events.specs.declared.reply.Reply.{Reply}
use Rattle.host_events.specs.declared.journal.Entry.{Entry}
use Rattle.host_events.specs.Files.{Files}
use Rattle.host_events.specs.Journal.{IsLegal, own_entries}
use Rattle.host_threads.specs.Turns.{IsThread, IsOfThreads, TakesTurns}

-- Threads ran, in the turns of a schedule, to their ends: the journal is legal and takes the turns; each entry's
-- event is one that follows, for its thread, its thread's events before it with their replies; and all that each
-- thread has is a whole run of it.
pub record IsRunBy (follows : ℕ → List (Event × Reply) → Event → Type 0) (is_whole : ℕ → List (Event × Reply) → Type 0)
    (files : Files) (threads : ℕ) (schedule : List ℕ) (journal : List Entry) : Type 0 where
  pub legal : IsLegal files journal
  pub turns : TakesTurns threads journal schedule
  pub of_threads : IsOfThreads threads journal
  pub followed : (before : List Entry) (entry : Entry) (after : List Entry) → journal ≡ before ++ entry ∷ after →
      follows entry.thread (own_entries before entry.thread) entry.event
  pub whole : (t : ℕ) → IsThread threads t → is_whole t (own_entries journal t)

-- Where a thread's next event, or that it has none, is a function of its events so far with their replies, the
-- threads have one journal at most in the turns of a schedule.
abbrev pub HasOneJournal : Type 0
HasOneJournal =
    (next : ℕ → List (Event × Reply) → Option Event) (files : Files) (threads : ℕ) (schedule : List ℕ)
    (journal other : List Entry) →
    IsRunBy (λ t own event. next t own ≡ Some event) (λ t own. next t own ≡ None) files threads schedule journal →
    IsRunBy (λ t own event. next t own ≡ Some event) (λ t own. next t own ≡ None) files threads schedule other →
    journal ≡ other
