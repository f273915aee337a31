-- When flows can be driven over a state that keeps a journal (own).
use Rattle.std.specs.Prelude.{ℕ, ◌≡◌, List, [], ◌∷◌, ◌++◌, Option}
use Rattle.host_events.specs.declared.event.Event.{Event}
use Rattle.host_events.specs.declared.reply.Reply.{Reply}
use Rattle.host_events.specs.declared.journal.Entry.{Entry}
use Rattle.host_events.specs.declared.order.CodeOf.{CodeOf}
use Rattle.host_events.specs.Steps.{Step, entry_of, own_steps}

-- The journal suits the thread and a trace: it is allowed, and the trace is just what the thread has in it, with the
-- code that comes at each entry's place.
pub record Suits (allows : List Entry → Type 0) (code_of : List Entry → Entry → Option CodeOf) (thread : ℕ) (trace : List Step) (journal : List Entry) : Type 0 where
  pub allowed : allows journal
  pub own : own_steps code_of journal thread ≡ trace

-- A thread's flow can be driven over a state, on each journal that suits the thread and a trace of the flow: the state
-- takes what the flow may ask after the trace, and the order by which it leaves its operation; and whatever is
-- answered there, with a journal that is allowed again, the flow takes.
pub record CanDrive
    {Order : Type 0} (event : Order → Event)
    (allows : List Entry → Type 0) (accepts : List Entry → ℕ → Order → Type 0)
    (code_of : List Entry → Entry → Option CodeOf)
    (asks leaves : List Step → Order → Type 0) (takes : List Step → Order → Reply → Option CodeOf → Type 0)
    (thread : ℕ) : Type 0 where
  pub asked : (trace : List Step) (journal : List Entry) (order : Order) →
      Suits allows code_of thread trace journal → asks trace order → accepts journal thread order
  pub left : (trace : List Step) (journal : List Entry) (order : Order) →
      Suits allows code_of thread trace journal → leaves trace order → accepts journal thread order
  pub taken : (trace : List Step) (journal : List Entry) (order : Order) (reply : Reply) →
      Suits allows code_of thread trace journal → asks trace order →
      allows (journal ++ entry_of thread (event order) reply ∷ []) →
      takes trace order reply (code_of journal (entry_of thread (event order) reply))
