-- Laws over the definitions of this crate (own).
use Rattle.std.specs.Prelude.{ℕ, ◌≡◌, ◌⊎◌, List, [], ◌∷◌, ◌++◌, Some}
use Rattle.host_events.specs.declared.event.Event.{Event}
use Rattle.host_events.specs.declared.reply.Reply.{Reply}
use Rattle.host_events.specs.declared.journal.Entry.{Entry}
use Rattle.host_events.specs.declared.order.CodeOf.{CodeOf}
use Rattle.host_events.specs.Assemblies.{assembly_in, assembly_of}
use Rattle.host_events.specs.Files.{Files}
use Rattle.host_events.specs.Journal.{HasNoOpen, IsProper, own_entries}
use Rattle.host_events.specs.Operations.{IsWithin, open_in, open_operations, replies_from, replies_since}
use Rattle.host_events.specs.Reply.{IsReply}

-- an event has at most one reply after a journal
abbrev pub HasOneReply : Type 0
HasOneReply =
    (files : Files) (journal : List Entry) (event : Event) (first second : Reply) →
    IsReply files journal event first → IsReply files journal event second → first ≡ second

-- a thread whose own entries leave no operation open is within none
abbrev pub OwnEntriesTellOpen : Type 0
OwnEntriesTellOpen =
    (journal : List Entry) (thread : ℕ) → open_in (own_entries journal thread) ≡ [] → HasNoOpen journal thread

-- what a thread has open follows from its own entries: no other thread ends an operation of its own
abbrev pub OwnEntriesTellWithin : Type 0
OwnEntriesTellWithin =
    (files : Files) (journal : List Entry) (thread : ℕ) → IsProper files journal →
    open_operations journal thread ≡ open_in (own_entries journal thread)

-- the replies of a thread's open operation are those to its own entries since it began
abbrev pub OwnEntriesTellReplies : Type 0
OwnEntriesTellReplies =
    (files : Files) (journal : List Entry) (thread k : ℕ) → IsProper files journal → IsWithin journal thread k →
    replies_since k journal ≡ replies_from k (own_entries journal thread)

-- an assembly that a reply names is the platform, or was made
abbrev pub NamedAreMade : Type 0
NamedAreMade =
    (files : Files) (journal before : List Entry) (entry : Entry) (after : List Entry) (a : ℕ) → IsProper files journal →
    journal ≡ before ++ entry ∷ after → assembly_in entry.reply ≡ Some a →
    (a ≡ 0) ⊎ ((code : CodeOf) × (assembly_of (before ++ entry ∷ []) a ≡ Some code))

-- an assembly stays what it was made of
abbrev pub AssembliesStay : Type 0
AssembliesStay =
    (journal later : List Entry) (a : ℕ) (code : CodeOf) →
    assembly_of journal a ≡ Some code → assembly_of (journal ++ later) a ≡ Some code
