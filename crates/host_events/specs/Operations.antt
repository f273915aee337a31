-- The operations that are open after a journal (own).
use Rattle.std.specs.Prelude.{ℕ, ◌≡◌, Bool, true, false, not, ◌&&◌, ◌==◌, if◌then◌else◌, List, [], ◌∷◌, ◌++◌, length, map, Option, Some, None, IsTrue}
use Rattle.std.specs.List.{filter, filter_map, flat_map, list_any}
use Rattle.std.specs.Option.{option_and_then, option_to_list}
use Rattle.host_events.specs.declared.event.Event.{Event}
use Rattle.host_events.specs.declared.event.Event.TheVariants as events
use Rattle.host_events.specs.declared.reply.Reply.{Reply}
use Rattle.host_events.specs.declared.reply.Reply.TheVariants as replies
use Rattle.host_events.specs.declared.journal.Entry.{Entry}
use Rattle.host_events.specs.Assemblies.{assembly_in, context_of}
use Rattle.host_events.specs.Contexts.{is_number}

-- the operation that a reply says was begun
abbrev pub begun_operation : Reply → Option ℕ
begun_operation (replies.Exists c) = None
begun_operation (replies.Made c) = None
begun_operation replies.NoContext = None
begun_operation (replies.Unloading c) = None
begun_operation (replies.Set c) = None
begun_operation (replies.Entered k c) = Some k
begun_operation replies.NoHandle = None
begun_operation (replies.EnteredAt k c a m) = Some k
begun_operation replies.Miss = None
begun_operation (replies.Hit a) = None
begun_operation (replies.Low a) = None
begun_operation (replies.Image i) = None
begun_operation (replies.Foreign a) = None
begun_operation replies.Nothing = None
begun_operation (replies.Lost a) = None
begun_operation (replies.NotCollectible a) = None
begun_operation (replies.Shared a) = None
begun_operation (replies.Bound a) = None
begun_operation (replies.Placed c) = None
begun_operation (replies.Value value) = None
begun_operation replies.Stored = None
begun_operation replies.InUse = None
begun_operation (replies.Held c) = None
begun_operation replies.Dropped = None
begun_operation (replies.Weakly c) = None
begun_operation (replies.Alive c) = None
begun_operation (replies.Gone c) = None
begun_operation (replies.Fixed c) = None
begun_operation (replies.Already c) = None
begun_operation (replies.Freed contexts) = None
begun_operation replies.Left = None

-- a test of whether the event ends the operation k
abbrev pub ends : ℕ → Event → Bool
ends k (events.New name kind) = false
ends k (events.Rule place name answer) = false
ends k (events.Enter name) = false
ends k (events.EnterHandle handle) = false
ends k (events.Lookup context name version) = false
ends k (events.Ask step context name) = false
ends k (events.Publish context name candidate) = false
ends k (events.Place user key) = false
ends k (events.LoadStatic key field kind) = false
ends k (events.StoreStatic key field value) = false
ends k (events.Hold handle assembly method) = false
ends k (events.DropHandle handle) = false
ends k (events.Weak handle name) = false
ends k (events.Alive handle) = false
ends k (events.Unload name) = false
ends k events.Collect = false
ends k (events.Leave operation) = operation == k

-- the operations that entries of the thread began and that no entry ended
abbrev pub open_operations : List Entry → ℕ → List ℕ
open_operations journal thread =
    filter (λ k. not (list_any (λ entry. ends k entry.event) journal))
    (filter_map (λ entry. if entry.thread == thread then begun_operation entry.reply else None) journal)

-- the operations that events with these replies began and none of them ended
abbrev pub open_in : List (Event × Reply) → List ℕ
open_in steps =
    filter (λ k. not (list_any (λ step. ends k step.0) steps))
    (filter_map (λ step. begun_operation step.1) steps)

-- a test of whether the event is a command by itself, and no part of an operation
abbrev pub is_command : Event → Bool
is_command (events.New name kind) = true
is_command (events.Rule place name answer) = true
is_command (events.Enter name) = false
is_command (events.EnterHandle handle) = false
is_command (events.Lookup context name version) = false
is_command (events.Ask step context name) = false
is_command (events.Publish context name candidate) = false
is_command (events.Place user key) = false
is_command (events.LoadStatic key field kind) = false
is_command (events.StoreStatic key field value) = false
is_command (events.Hold handle assembly method) = false
is_command (events.DropHandle handle) = true
is_command (events.Weak handle name) = true
is_command (events.Alive handle) = true
is_command (events.Unload name) = true
is_command events.Collect = true
is_command (events.Leave operation) = false

-- how many operations were begun
abbrev pub begun_count : List Entry → ℕ
begun_count journal = length (filter_map (λ entry. begun_operation entry.reply) journal)

-- an entry began the operation, and none ended it
abbrev pub is_open : List Entry → ℕ → Bool
is_open journal k =
    list_any (λ entry. is_number k (begun_operation entry.reply)) journal && not (list_any (λ entry. ends k entry.event) journal)

abbrev pub IsOpen : List Entry → ℕ → Type 0
IsOpen journal k = IsTrue (is_open journal k)

-- the thread is within the operation k, and within no other
abbrev pub IsWithin : List Entry → ℕ → ℕ → Type 0
IsWithin journal thread k = open_operations journal thread ≡ k ∷ []

-- the replies to a thread
abbrev pub replies_to : ℕ → List Entry → List Reply
replies_to thread entries = map (λ entry. entry.reply) (filter (λ entry. entry.thread == thread) entries)

-- The replies of the operation k, while it is open: the one that began it, and those to its thread since.
abbrev pub replies_since : ℕ → List Entry → List Reply
replies_since k [] = []
replies_since k (entry ∷ rest) =
    if is_number k (begun_operation entry.reply) then entry.reply ∷ replies_to entry.thread rest
    else replies_since k rest

-- the context in which a reply says that an operation began
abbrev pub entered_context : Reply → Option ℕ
entered_context (replies.Entered k c) = Some c
entered_context (replies.EnteredAt k c a m) = Some c
entered_context _ = None

-- the context of an assembly that rules named
abbrev pub foreign_context : List Entry → Reply → Option ℕ
foreign_context journal (replies.Foreign a) = context_of journal a
foreign_context journal _ = None

-- what the first of an operation's replies pins, and what the others do
abbrev pub pinned_in : List Entry → List Reply → List ℕ
pinned_in journal [] = []
pinned_in journal (first ∷ rest) = option_to_list (entered_context first) ++ filter_map (foreign_context journal) rest

-- the contexts that the open operation k pins: the one in which it began, and those of assemblies that rules named
abbrev pub pinned_contexts : List Entry → ℕ → List ℕ
pinned_contexts journal k = pinned_in journal (replies_since k journal)

-- the contexts that a reply names by their numbers
abbrev pub contexts_in : Reply → List ℕ
contexts_in (replies.Exists c) = c ∷ []
contexts_in (replies.Made c) = c ∷ []
contexts_in replies.NoContext = []
contexts_in (replies.Unloading c) = c ∷ []
contexts_in (replies.Set c) = c ∷ []
contexts_in (replies.Entered k c) = c ∷ []
contexts_in replies.NoHandle = []
contexts_in (replies.EnteredAt k c a m) = c ∷ []
contexts_in replies.Miss = []
contexts_in (replies.Hit a) = []
contexts_in (replies.Low a) = []
contexts_in (replies.Image i) = []
contexts_in (replies.Foreign a) = []
contexts_in replies.Nothing = []
contexts_in (replies.Lost a) = []
contexts_in (replies.NotCollectible a) = []
contexts_in (replies.Shared a) = []
contexts_in (replies.Bound a) = []
contexts_in (replies.Placed c) = c ∷ []
contexts_in (replies.Value value) = []
contexts_in replies.Stored = []
contexts_in replies.InUse = []
contexts_in (replies.Held c) = c ∷ []
contexts_in replies.Dropped = []
contexts_in (replies.Weakly c) = c ∷ []
contexts_in (replies.Alive c) = c ∷ []
contexts_in (replies.Gone c) = c ∷ []
contexts_in (replies.Fixed c) = c ∷ []
contexts_in (replies.Already c) = c ∷ []
contexts_in (replies.Freed contexts) = contexts.list
contexts_in replies.Left = []

-- the contexts that a reply names, by their numbers or by an assembly that lives there
abbrev pub contexts_told : List Entry → Reply → List ℕ
contexts_told journal reply =
    contexts_in reply ++ option_to_list (option_and_then (context_of journal) (assembly_in reply))

-- The contexts that the open operation k may name: context 0, and those that its replies named.
abbrev pub told_contexts : List Entry → ℕ → List ℕ
told_contexts journal k = 0 ∷ flat_map (contexts_told journal) (replies_since k journal)

-- The assemblies that the open operation k may name: the platform, and those that its replies named.
abbrev pub told_assemblies : List Entry → ℕ → List ℕ
told_assemblies journal k = 0 ∷ filter_map assembly_in (replies_since k journal)

-- the replies of a thread's own events from the one on by which the operation k began
abbrev pub replies_from : ℕ → List (Event × Reply) → List Reply
replies_from k [] = []
replies_from k (step ∷ rest) =
    if is_number k (begun_operation step.1) then map (λ each. each.1) (step ∷ rest) else replies_from k rest
