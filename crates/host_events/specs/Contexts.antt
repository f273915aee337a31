-- Which contexts there are after a journal: the live, unloaded and collectible ones, and what a name
-- means (own). A journal is the list of its entries, the oldest first.
use Rattle.std.specs.Prelude.{ℕ, Bool, true, false, not, ◌&&◌, ◌||◌, ◌==◌, if◌then◌else◌, List, [], length, Option, Some, None, codes, IsTrue}
use Rattle.std.specs.List.{filter, filter_map, last_or, list_any}
use Rattle.std.specs.Option.{option_map_or}
use Rattle.std.specs.Str.{bytes_eq}
use Rattle.host_events.specs.declared.event.ContextKind.{ContextKind}
use Rattle.host_events.specs.declared.event.ContextKind.TheVariants as kinds
use Rattle.host_events.specs.declared.event.Event.{Event}
use Rattle.host_events.specs.declared.event.Event.TheVariants as events
use Rattle.host_events.specs.declared.reply.Reply.{Reply}
use Rattle.host_events.specs.declared.reply.Reply.TheVariants as replies
use Rattle.host_events.specs.declared.journal.Entry.{Entry}

-- the context that a reply says was made
abbrev pub made_context : Reply → Option ℕ
made_context (replies.Exists c) = None
made_context (replies.Made c) = Some c
made_context replies.NoContext = None
made_context (replies.Unloading c) = None
made_context (replies.Set c) = None
made_context (replies.Entered k c) = None
made_context replies.NoHandle = None
made_context (replies.EnteredAt k c a m) = None
made_context replies.Miss = None
made_context (replies.Hit a) = None
made_context (replies.Low a) = None
made_context (replies.Image i) = None
made_context (replies.Foreign a) = None
made_context replies.Nothing = None
made_context (replies.Lost a) = None
made_context (replies.NotCollectible a) = None
made_context (replies.Shared a) = None
made_context (replies.Bound a) = None
made_context (replies.Placed c) = None
made_context (replies.Value value) = None
made_context replies.Stored = None
made_context replies.InUse = None
made_context (replies.Held c) = None
made_context replies.Dropped = None
made_context (replies.Weakly c) = None
made_context (replies.Alive c) = None
made_context (replies.Gone c) = None
made_context (replies.Fixed c) = None
made_context (replies.Already c) = None
made_context (replies.Freed contexts) = None
made_context replies.Left = None

-- the contexts that a reply says were freed
abbrev pub freed_contexts : Reply → List ℕ
freed_contexts (replies.Exists c) = []
freed_contexts (replies.Made c) = []
freed_contexts replies.NoContext = []
freed_contexts (replies.Unloading c) = []
freed_contexts (replies.Set c) = []
freed_contexts (replies.Entered k c) = []
freed_contexts replies.NoHandle = []
freed_contexts (replies.EnteredAt k c a m) = []
freed_contexts replies.Miss = []
freed_contexts (replies.Hit a) = []
freed_contexts (replies.Low a) = []
freed_contexts (replies.Image i) = []
freed_contexts (replies.Foreign a) = []
freed_contexts replies.Nothing = []
freed_contexts (replies.Lost a) = []
freed_contexts (replies.NotCollectible a) = []
freed_contexts (replies.Shared a) = []
freed_contexts (replies.Bound a) = []
freed_contexts (replies.Placed c) = []
freed_contexts (replies.Value value) = []
freed_contexts replies.Stored = []
freed_contexts replies.InUse = []
freed_contexts (replies.Held c) = []
freed_contexts replies.Dropped = []
freed_contexts (replies.Weakly c) = []
freed_contexts (replies.Alive c) = []
freed_contexts (replies.Gone c) = []
freed_contexts (replies.Fixed c) = []
freed_contexts (replies.Already c) = []
freed_contexts (replies.Freed contexts) = contexts.list
freed_contexts replies.Left = []

-- the context of which a reply says that it is unloading
abbrev pub unloading_context : Reply → Option ℕ
unloading_context (replies.Exists c) = None
unloading_context (replies.Made c) = None
unloading_context replies.NoContext = None
unloading_context (replies.Unloading c) = Some c
unloading_context (replies.Set c) = None
unloading_context (replies.Entered k c) = None
unloading_context replies.NoHandle = None
unloading_context (replies.EnteredAt k c a m) = None
unloading_context replies.Miss = None
unloading_context (replies.Hit a) = None
unloading_context (replies.Low a) = None
unloading_context (replies.Image i) = None
unloading_context (replies.Foreign a) = None
unloading_context replies.Nothing = None
unloading_context (replies.Lost a) = None
unloading_context (replies.NotCollectible a) = None
unloading_context (replies.Shared a) = None
unloading_context (replies.Bound a) = None
unloading_context (replies.Placed c) = None
unloading_context (replies.Value value) = None
unloading_context replies.Stored = None
unloading_context replies.InUse = None
unloading_context (replies.Held c) = None
unloading_context replies.Dropped = None
unloading_context (replies.Weakly c) = None
unloading_context (replies.Alive c) = None
unloading_context (replies.Gone c) = None
unloading_context (replies.Fixed c) = None
unloading_context (replies.Already c) = None
unloading_context (replies.Freed contexts) = None
unloading_context replies.Left = None

-- the name and the kind of a context that an event asks to make
abbrev pub new_of : Event → Option (List ℕ × ContextKind)
new_of (events.New name kind) = Some (name, kind)
new_of (events.Rule place name answer) = None
new_of (events.Enter name) = None
new_of (events.EnterHandle handle) = None
new_of (events.Lookup context name version) = None
new_of (events.Ask step context name) = None
new_of (events.Publish context name candidate) = None
new_of (events.Place user key) = None
new_of (events.LoadStatic key field kind) = None
new_of (events.StoreStatic key field value) = None
new_of (events.Hold handle assembly method) = None
new_of (events.DropHandle handle) = None
new_of (events.Weak handle name) = None
new_of (events.Alive handle) = None
new_of (events.Unload name) = None
new_of events.Collect = None
new_of (events.Leave operation) = None

-- a test of whether the event gives a context up
abbrev pub is_unload : Event → Bool
is_unload (events.New name kind) = false
is_unload (events.Rule place name answer) = false
is_unload (events.Enter name) = false
is_unload (events.EnterHandle handle) = false
is_unload (events.Lookup context name version) = false
is_unload (events.Ask step context name) = false
is_unload (events.Publish context name candidate) = false
is_unload (events.Place user key) = false
is_unload (events.LoadStatic key field kind) = false
is_unload (events.StoreStatic key field value) = false
is_unload (events.Hold handle assembly method) = false
is_unload (events.DropHandle handle) = false
is_unload (events.Weak handle name) = false
is_unload (events.Alive handle) = false
is_unload (events.Unload name) = true
is_unload events.Collect = false
is_unload (events.Leave operation) = false

abbrev pub is_collectible_kind : ContextKind → Bool
is_collectible_kind kinds.Collectible = true
is_collectible_kind kinds.Fixed = false

-- a test of whether there is a number, and it is this one
abbrev pub is_number : ℕ → Option ℕ → Bool
is_number c found = option_map_or (λ d. d == c) found false

-- a test of whether the event asks to make a context under this name
abbrev pub is_new_of : List ℕ → Event → Bool
is_new_of name event = option_map_or (λ new. bytes_eq new.0 name) (new_of event) false

-- a test of whether the event asks to make a collectible context
abbrev pub is_new_collectible : Event → Bool
is_new_collectible event = option_map_or (λ new. is_collectible_kind new.1) (new_of event) false

-- the context that a `New` of this name made
abbrev pub made_under : List ℕ → Event → Reply → Option ℕ
made_under name event reply = if is_new_of name event then made_context reply else None

-- a test of whether the reply says that c was made
abbrev pub makes : ℕ → Reply → Bool
makes c reply = is_number c (made_context reply)

-- a test of whether c was made as a collectible context
abbrev pub makes_collectible : ℕ → Event → Reply → Bool
makes_collectible c event reply = is_new_collectible event && makes c reply

-- a test of whether c was given up by an `Unload`
abbrev pub unloads : ℕ → Event → Reply → Bool
unloads c event reply = is_unload event && is_number c (unloading_context reply)

-- how many contexts were made
abbrev pub made_count : List Entry → ℕ
made_count journal = length (filter_map (λ entry. made_context entry.reply) journal)

-- a reply says that c was made
abbrev pub is_made : List Entry → ℕ → Bool
is_made journal c = list_any (λ entry. makes c entry.reply) journal

-- a reply says that c was freed
abbrev pub is_freed : List Entry → ℕ → Bool
is_freed journal c = list_any (λ entry. list_any (λ d. d == c) (freed_contexts entry.reply)) journal

-- context 0 is always live, another one from its making until it is freed
abbrev pub is_live : List Entry → ℕ → Bool
is_live journal c = (c == 0) || (is_made journal c && not (is_freed journal c))

abbrev pub IsLive : List Entry → ℕ → Type 0
IsLive journal c = IsTrue (is_live journal c)

-- an entry gave c up
abbrev pub is_unloaded : List Entry → ℕ → Bool
is_unloaded journal c = list_any (λ entry. unloads c entry.event entry.reply) journal

abbrev pub IsUnloaded : List Entry → ℕ → Type 0
IsUnloaded journal c = IsTrue (is_unloaded journal c)

-- a context that was made, and not with `fixed`
abbrev pub is_collectible : List Entry → ℕ → Bool
is_collectible journal c = list_any (λ entry. makes_collectible c entry.event entry.reply) journal

abbrev pub IsCollectible : List Entry → ℕ → Type 0
IsCollectible journal c = IsTrue (is_collectible journal c)

-- what a name means: context 0 for `default`, else the live context that was made last under the name
abbrev pub named : List Entry → List ℕ → Option ℕ
named journal name =
    if bytes_eq name (codes "default") then Some 0
    else last_or None (filter (is_live journal) (filter_map (λ entry. made_under name entry.event entry.reply) journal))
