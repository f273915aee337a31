-- The assemblies of a journal: from which image each one comes, and in which context it lives (own).
use Rattle.std.specs.Prelude.{ℕ, List, [], ◌∷◌, ◌++◌, length, Option, Some, None, zero, suc, if◌then◌else◌}
use Rattle.std.specs.List.{filter_map, slice_get}
use Rattle.std.specs.Option.{option_map, option_and_then}
use Rattle.host_events.specs.declared.event.Candidate.{Candidate}
use Rattle.host_events.specs.declared.event.Candidate.TheVariants as candidates
use Rattle.host_events.specs.declared.event.Event.{Event}
use Rattle.host_events.specs.declared.event.Event.TheVariants as events
use Rattle.host_events.specs.declared.journal.Entry.{Entry}
use Rattle.host_events.specs.declared.order.CodeOf.{CodeOf}
use Rattle.host_events.specs.declared.reply.Reply.{Reply}
use Rattle.host_events.specs.declared.reply.Reply.TheVariants as replies
use Rattle.host_events.specs.Contexts.{is_number}

-- the assembly that a reply says was made of an image
abbrev pub bound_assembly : Reply → Option ℕ
bound_assembly (replies.Exists c) = None
bound_assembly (replies.Made c) = None
bound_assembly replies.NoContext = None
bound_assembly (replies.Unloading c) = None
bound_assembly (replies.Set c) = None
bound_assembly (replies.Entered k c) = None
bound_assembly replies.NoHandle = None
bound_assembly (replies.EnteredAt k c a m) = None
bound_assembly replies.Miss = None
bound_assembly (replies.Hit a) = None
bound_assembly (replies.Low a) = None
bound_assembly (replies.Image i) = None
bound_assembly (replies.Foreign a) = None
bound_assembly replies.Nothing = None
bound_assembly (replies.Lost a) = None
bound_assembly (replies.NotCollectible a) = None
bound_assembly (replies.Shared a) = None
bound_assembly (replies.Bound a) = Some a
bound_assembly (replies.Placed c) = None
bound_assembly (replies.Value value) = None
bound_assembly replies.Stored = None
bound_assembly replies.InUse = None
bound_assembly (replies.Held c) = None
bound_assembly replies.Dropped = None
bound_assembly (replies.Weakly c) = None
bound_assembly (replies.Alive c) = None
bound_assembly (replies.Gone c) = None
bound_assembly (replies.Fixed c) = None
bound_assembly (replies.Already c) = None
bound_assembly (replies.Freed contexts) = None
bound_assembly replies.Left = None

-- the assembly that a reply names
abbrev pub assembly_in : Reply → Option ℕ
assembly_in (replies.Exists c) = None
assembly_in (replies.Made c) = None
assembly_in replies.NoContext = None
assembly_in (replies.Unloading c) = None
assembly_in (replies.Set c) = None
assembly_in (replies.Entered k c) = None
assembly_in replies.NoHandle = None
assembly_in (replies.EnteredAt k c a m) = Some a
assembly_in replies.Miss = None
assembly_in (replies.Hit a) = Some a
assembly_in (replies.Low a) = Some a
assembly_in (replies.Image i) = None
assembly_in (replies.Foreign a) = Some a
assembly_in replies.Nothing = None
assembly_in (replies.Lost a) = Some a
assembly_in (replies.NotCollectible a) = Some a
assembly_in (replies.Shared a) = Some a
assembly_in (replies.Bound a) = Some a
assembly_in (replies.Placed c) = None
assembly_in (replies.Value value) = None
assembly_in replies.Stored = None
assembly_in replies.InUse = None
assembly_in (replies.Held c) = None
assembly_in replies.Dropped = None
assembly_in (replies.Weakly c) = None
assembly_in (replies.Alive c) = None
assembly_in (replies.Gone c) = None
assembly_in (replies.Fixed c) = None
assembly_in (replies.Already c) = None
assembly_in (replies.Freed contexts) = None
assembly_in replies.Left = None

-- an image that is published in a context
abbrev pub code_in : ℕ → Candidate → Option CodeOf
code_in context (candidates.Image image) = Some (record { image = image; context = context })
code_in context (candidates.Assembly a) = None

-- the image that an event publishes, and the context in which it does
abbrev pub code_published : Event → Option CodeOf
code_published (events.New name kind) = None
code_published (events.Rule place name answer) = None
code_published (events.Enter name) = None
code_published (events.EnterHandle handle) = None
code_published (events.Lookup context name version) = None
code_published (events.Ask step context name) = None
code_published (events.Publish context name candidate) = code_in context candidate
code_published (events.Place user key) = None
code_published (events.LoadStatic key field kind) = None
code_published (events.StoreStatic key field value) = None
code_published (events.Hold handle assembly method) = None
code_published (events.DropHandle handle) = None
code_published (events.Weak handle name) = None
code_published (events.Alive handle) = None
code_published (events.Unload name) = None
code_published events.Collect = None
code_published (events.Leave operation) = None

-- the image and the context of which an event with its reply made the assembly a
abbrev pub code_bound : ℕ → Event → Reply → Option CodeOf
code_bound a event reply = if is_number a (bound_assembly reply) then code_published event else None

-- how many assemblies were made
abbrev pub bound_count : List Entry → ℕ
bound_count journal = length (filter_map (λ entry. bound_assembly entry.reply) journal)

-- the image and the context of an assembly; none for assembly 0, the platform, and where no such one was made
abbrev pub assembly_of : List Entry → ℕ → Option CodeOf
assembly_of journal zero = None
assembly_of journal (suc a) =
    slice_get (filter_map (λ entry. code_bound (suc a) entry.event entry.reply) journal) 0

-- the context in which an assembly lives: the platform lives in context 0
abbrev pub context_of : List Entry → ℕ → Option ℕ
context_of journal zero = Some 0
context_of journal (suc a) = option_map (λ code. code.context) (assembly_of journal (suc a))

-- where the code of the assembly comes from that the reply of an entry names, after the journal before it
abbrev pub code_of : List Entry → Entry → Option CodeOf
code_of journal entry = option_and_then (assembly_of (journal ++ entry ∷ [])) (assembly_in entry.reply)
