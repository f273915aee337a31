-- Which contexts are kept: those to which a path leads from a root (after dotnet/runtime,
-- docs/design/features/unloadability).
use Rattle.std.specs.Prelude.{ℕ, Bool, false, ◌&&◌, ◌==◌, List, Contains, IsTrue, Option, Some, None}
use Rattle.std.specs.List.{list_any}
use Rattle.std.specs.Option.{option_and_then}
use Rattle.host_events.specs.declared.event.Event.{Event}
use Rattle.host_events.specs.declared.event.Event.TheVariants as events
use Rattle.host_events.specs.declared.reply.Reply.{Reply}
use Rattle.host_events.specs.declared.journal.Entry.{Entry}
use Rattle.host_events.specs.declared.reply.Reply.TheVariants as replies
use Rattle.host_events.specs.Assemblies.{context_of}
use Rattle.host_events.specs.Contexts.{IsLive, IsUnloaded, is_number}
use Rattle.host_events.specs.Operations.{IsOpen, pinned_contexts}

-- the assembly of which a reply says that it is shared
abbrev pub shared_assembly : Reply → Option ℕ
shared_assembly (replies.Exists c) = None
shared_assembly (replies.Made c) = None
shared_assembly replies.NoContext = None
shared_assembly (replies.Unloading c) = None
shared_assembly (replies.Set c) = None
shared_assembly (replies.Entered k c) = None
shared_assembly replies.NoHandle = None
shared_assembly (replies.EnteredAt k c a m) = None
shared_assembly replies.Miss = None
shared_assembly (replies.Hit a) = None
shared_assembly (replies.Low a) = None
shared_assembly (replies.Image i) = None
shared_assembly (replies.Foreign a) = None
shared_assembly replies.Nothing = None
shared_assembly (replies.Lost a) = None
shared_assembly (replies.NotCollectible a) = None
shared_assembly (replies.Shared a) = Some a
shared_assembly (replies.Bound a) = None
shared_assembly (replies.Placed c) = None
shared_assembly (replies.Value value) = None
shared_assembly replies.Stored = None
shared_assembly replies.InUse = None
shared_assembly (replies.Held c) = None
shared_assembly replies.Dropped = None
shared_assembly (replies.Weakly c) = None
shared_assembly (replies.Alive c) = None
shared_assembly (replies.Gone c) = None
shared_assembly (replies.Fixed c) = None
shared_assembly (replies.Already c) = None
shared_assembly (replies.Freed contexts) = None
shared_assembly replies.Left = None

-- A test of whether an event of the journal, with its reply, makes an edge from x to y: a context refers to
-- that of an assembly which it shares.
abbrev pub makes_edge : List Entry → ℕ → ℕ → Event → Reply → Bool
makes_edge journal x y (events.New name kind) reply = false
makes_edge journal x y (events.Rule place name answer) reply = false
makes_edge journal x y (events.Enter name) reply = false
makes_edge journal x y (events.EnterHandle handle) reply = false
makes_edge journal x y (events.Lookup context name version) reply = false
makes_edge journal x y (events.Ask step context name) reply = false
makes_edge journal x y (events.Publish context name candidate) reply =
    context == x && is_number y (option_and_then (context_of journal) (shared_assembly reply))
makes_edge journal x y (events.Place user key) reply = false
makes_edge journal x y (events.LoadStatic key field kind) reply = false
makes_edge journal x y (events.StoreStatic key field value) reply = false
makes_edge journal x y (events.Hold handle assembly method) reply = false
makes_edge journal x y (events.DropHandle handle) reply = false
makes_edge journal x y (events.Weak handle name) reply = false
makes_edge journal x y (events.Alive handle) reply = false
makes_edge journal x y (events.Unload name) reply = false
makes_edge journal x y events.Collect reply = false
makes_edge journal x y (events.Leave operation) reply = false

-- context x refers to context y
abbrev pub IsEdge : List Entry → ℕ → ℕ → Type 0
IsEdge journal x y = IsTrue (list_any (λ entry. makes_edge journal x y entry.event entry.reply) journal)

-- why a live context is kept by itself
pub data HasCause (journal : List Entry) (x : ℕ) : Type 0 where
  -- it was not given up
  loaded : ¬ IsUnloaded journal x → HasCause journal x
  -- an open operation pins it
  pinned : (k : ℕ) → IsOpen journal k → Contains (pinned_contexts journal k) x → HasCause journal x

-- a live context that something keeps by itself
pub record IsRoot (journal : List Entry) (x : ℕ) : Type 0 where
  pub live : IsLive journal x
  pub cause : HasCause journal x

-- edges lead from one context to another, in no step or more
pub data IsPath (journal : List Entry) : ℕ → ℕ → Type 0 where
  here : {x : ℕ} → IsPath journal x x
  along : {x y z : ℕ} → IsEdge journal x y → IsPath journal y z → IsPath journal x z

-- a path leads to the context from a root
abbrev pub IsKept : List Entry → ℕ → Type 0
IsKept journal x = (root : ℕ) × IsRoot journal root × IsPath journal root x
