-- What handles hold after a journal (own). Strong and weak handles have names of their own.
use Rattle.std.specs.Prelude.{ℕ, if◌then◌else◌, false, List, Option, Some, None}
use Rattle.std.specs.List.{filter_map, slice_get}
use Rattle.std.specs.Option.{option_map_or}
use Rattle.std.specs.Str.{bytes_eq}
use Rattle.host_events.specs.declared.event.Event.{Event}
use Rattle.host_events.specs.declared.event.Event.TheVariants as events
use Rattle.host_events.specs.declared.reply.Reply.{Reply}
use Rattle.host_events.specs.declared.reply.Reply.TheVariants as replies
use Rattle.host_events.specs.declared.journal.Entry.{Entry}

-- the name of the weak handle that an event asks to make
abbrev pub weak_name : Event → Option (List ℕ)
weak_name (events.New name kind) = None
weak_name (events.Rule place name answer) = None
weak_name (events.Enter name) = None
weak_name (events.EnterHandle handle) = None
weak_name (events.Lookup context name version) = None
weak_name (events.Ask step context name) = None
weak_name (events.Publish context name candidate) = None
weak_name (events.Place user key) = None
weak_name (events.LoadStatic key field kind) = None
weak_name (events.StoreStatic key field value) = None
weak_name (events.Hold handle assembly method) = None
weak_name (events.DropHandle handle) = None
weak_name (events.Weak handle name) = Some handle
weak_name (events.Alive handle) = None
weak_name (events.Unload name) = None
weak_name events.Collect = None
weak_name (events.Leave operation) = None

-- the context of which a reply says that a weak handle was made
abbrev pub weak_context : Reply → Option ℕ
weak_context (replies.Exists c) = None
weak_context (replies.Made c) = None
weak_context replies.NoContext = None
weak_context (replies.Unloading c) = None
weak_context (replies.Set c) = None
weak_context (replies.Entered k c) = None
weak_context replies.NoHandle = None
weak_context (replies.EnteredAt k c a m) = None
weak_context replies.Miss = None
weak_context (replies.Hit a) = None
weak_context (replies.Low a) = None
weak_context (replies.Image i) = None
weak_context (replies.Foreign a) = None
weak_context replies.Nothing = None
weak_context (replies.Lost a) = None
weak_context (replies.NotCollectible a) = None
weak_context (replies.Shared a) = None
weak_context (replies.Bound a) = None
weak_context (replies.Placed c) = None
weak_context (replies.Value value) = None
weak_context replies.Stored = None
weak_context replies.InUse = None
weak_context (replies.Held c) = None
weak_context replies.Dropped = None
weak_context (replies.Weakly c) = Some c
weak_context (replies.Alive c) = None
weak_context (replies.Gone c) = None
weak_context (replies.Fixed c) = None
weak_context (replies.Already c) = None
weak_context (replies.Freed contexts) = None
weak_context replies.Left = None

-- the context of which an event with its reply made this weak handle
abbrev pub weak_of : List ℕ → Event → Reply → Option ℕ
weak_of handle event reply =
    if option_map_or (λ other. bytes_eq other handle) (weak_name event) false then weak_context reply else None

-- the context of a weak handle, from its making on; none where it was not made
abbrev pub weakly : List Entry → List ℕ → Option ℕ
weakly journal handle = slice_get (filter_map (λ entry. weak_of handle entry.event entry.reply) journal) 0
