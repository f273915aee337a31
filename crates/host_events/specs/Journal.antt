-- Which journals a host can have, and what a thread has in one (own).
use Rattle.std.specs.Prelude.{ℕ, ◌≡◌, ◌==◌, List, [], ◌∷◌, ◌++◌, map, Contains}
use Rattle.std.specs.List.{filter}
use Rattle.host_events.specs.declared.event.Candidate.{Candidate}
use Rattle.host_events.specs.declared.event.Candidate.TheVariants as candidates
use Rattle.host_events.specs.declared.event.Event.{Event}
use Rattle.host_events.specs.declared.event.Event.TheVariants as events
use Rattle.host_events.specs.declared.reply.Reply.{Reply}
use Rattle.host_events.specs.declared.journal.Entry.{Entry}
use Rattle.host_events.specs.Files.{Files}
use Rattle.host_events.specs.Operations.{open_operations, IsWithin, told_assemblies, told_contexts}
use Rattle.host_events.specs.Reply.{IsReply}

-- each reply is the one that the entries before it determine
abbrev pub IsLegal : Files → List Entry → Type 0
IsLegal files journal =
    (before : List Entry) (entry : Entry) (after : List Entry) →
    journal ≡ before ++ entry ∷ after → IsReply files before entry.event entry.reply

-- the thread is within no operation
abbrev pub HasNoOpen : List Entry → ℕ → Type 0
HasNoOpen journal thread = open_operations journal thread ≡ []

-- the thread is within an operation that was told of the context
abbrev pub IsToldContext : List Entry → ℕ → ℕ → Type 0
IsToldContext journal thread c = (k : ℕ) × IsWithin journal thread k × Contains (told_contexts journal k) c

-- the thread is within an operation that was told of the assembly, if the candidate is one
abbrev pub IsToldCandidate : List Entry → ℕ → Candidate → Type 0
IsToldCandidate journal thread (candidates.Image image) = Unit {0}
IsToldCandidate journal thread (candidates.Assembly a) =
    (k : ℕ) × IsWithin journal thread k × Contains (told_assemblies journal k) a

-- The thread may ask for the event after the journal. An event that is a command by itself, or that begins an
-- operation, comes where the thread is within none. Other events come within its own operation, and name only
-- what that was told of. An event that is not built fits nowhere.
abbrev pub Fits : List Entry → ℕ → Event → Type 0
Fits journal thread (events.New name kind) = HasNoOpen journal thread
Fits journal thread (events.Rule place name answer) = HasNoOpen journal thread
Fits journal thread (events.Enter name) = HasNoOpen journal thread
Fits journal thread (events.EnterHandle handle) = ⊥
Fits journal thread (events.Lookup context name version) = IsToldContext journal thread context
Fits journal thread (events.Ask step context name) = IsToldContext journal thread context
Fits journal thread (events.Publish context name candidate) = IsToldContext journal thread context × IsToldCandidate journal thread candidate
Fits journal thread (events.Place user key) = ⊥
Fits journal thread (events.LoadStatic key field kind) = ⊥
Fits journal thread (events.StoreStatic key field value) = ⊥
Fits journal thread (events.Hold handle assembly method) = ⊥
Fits journal thread (events.DropHandle handle) = ⊥
Fits journal thread (events.Weak handle name) = HasNoOpen journal thread
Fits journal thread (events.Alive handle) = HasNoOpen journal thread
Fits journal thread (events.Unload name) = HasNoOpen journal thread
Fits journal thread events.Collect = HasNoOpen journal thread
Fits journal thread (events.Leave operation) = IsWithin journal thread operation

-- a legal journal, each entry of which came where it fits
pub record IsProper (files : Files) (journal : List Entry) : Type 0 where
  pub legal : IsLegal files journal
  pub fits : (before : List Entry) (entry : Entry) (after : List Entry) →
      journal ≡ before ++ entry ∷ after → Fits before entry.thread entry.event

-- the events of a thread with their replies, in their order
abbrev pub own_entries : List Entry → ℕ → List (Event × Reply)
own_entries journal thread =
    map (λ entry. (entry.event, entry.reply)) (filter (λ entry. entry.thread == thread) journal)
