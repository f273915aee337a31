-- The reply to each event, which the journal before it determines (own).
use Rattle.std.specs.Prelude.{ℕ, ◌+◌, ◌≡◌, ◌↔◌, if◌then◌else◌, not, ◌&&◌, Bool, false, List, Option, Some, None, Contains}
use Rattle.std.specs.Option.{option_map_or}
use Rattle.std.specs.List.Sorted.{IsStrictlyIncreasing}
use Rattle.assembly_name.specs.declared.version.Version.{Version}
use Rattle.host_events.specs.declared.event.Candidate.{Candidate}
use Rattle.host_events.specs.declared.event.Candidate.TheVariants as candidates
use Rattle.host_events.specs.declared.event.Event.{Event}
use Rattle.host_events.specs.declared.event.Event.TheVariants as events
use Rattle.host_events.specs.declared.event.RuleAt.{RuleAt}
use Rattle.host_events.specs.declared.event.RuleAt.TheVariants as places
use Rattle.host_events.specs.declared.reply.Reply.{Reply}
use Rattle.host_events.specs.declared.reply.Reply.TheVariants as replies
use Rattle.host_events.specs.declared.journal.Entry.{Entry}
use Rattle.host_events.specs.Assemblies.{bound_count, context_of}
use Rattle.host_events.specs.Bindings.{binding, is_good}
use Rattle.host_events.specs.Contexts.{made_count, IsLive, is_live, is_unloaded, is_collectible, named}
use Rattle.host_events.specs.Files.{Files}
use Rattle.host_events.specs.Handles.{weakly}
use Rattle.host_events.specs.Operations.{begun_count}
use Rattle.host_events.specs.Reachable.{IsKept}
use Rattle.host_events.specs.Reserved.{sealed}
use Rattle.host_events.specs.Rules.{reply_to_ask}

-- A `New` of a name that a live context has makes nothing. Else it makes the context whose number is one
-- more than the count of those made before.
abbrev pub reply_to_new : List Entry → Option ℕ → Reply
reply_to_new journal None = replies.Made (made_count journal + 1)
reply_to_new journal (Some c) = replies.Exists c

-- A rule is set in the context that its place names, if that wasn't given up.
abbrev pub reply_to_rule_in : List Entry → Option ℕ → Reply
reply_to_rule_in journal None = replies.NoContext
reply_to_rule_in journal (Some c) = if is_unloaded journal c then replies.Unloading c else replies.Set c

-- Rules of AssemblyResolve are those of all contexts: they are set, always, in context 0.
abbrev pub reply_to_rule : List Entry → RuleAt → Reply
reply_to_rule journal (places.On name) = reply_to_rule_in journal (named journal name)
reply_to_rule journal (places.Resolving name) = reply_to_rule_in journal (named journal name)
reply_to_rule journal places.Resolve = replies.Set 0

-- An operation begins in the context that its name means, if that wasn't given up. Its number is one more than
-- the count of those begun before.
abbrev pub reply_to_enter : List Entry → Option ℕ → Reply
reply_to_enter journal None = replies.NoContext
reply_to_enter journal (Some c) =
    if is_unloaded journal c then replies.Unloading c else replies.Entered (begun_count journal + 1) c

-- An assembly is bound to the name or not; if one is, its version serves or is too low.
abbrev pub reply_to_lookup : Files → List Entry → Version → Option ℕ → Reply
reply_to_lookup files journal version None = replies.Miss
reply_to_lookup files journal version (Some a) =
    if is_good files journal a version then replies.Hit a else replies.Low a

-- a test of whether an assembly lives in a collectible context
abbrev pub is_of_collectible : List Entry → ℕ → Bool
is_of_collectible journal a = option_map_or (is_collectible journal) (context_of journal a) false

-- A candidate is bound where nothing is. A context that isn't collectible is never bound to an assembly of one
-- that is. An image becomes the assembly whose number is one more than the count of those made before.
abbrev pub reply_to_publish : List Entry → ℕ → Candidate → Option ℕ → Reply
reply_to_publish journal c candidate (Some a) = replies.Lost a
reply_to_publish journal c (candidates.Assembly a) None =
    if is_of_collectible journal a && not (is_collectible journal c) then replies.NotCollectible a else replies.Shared a
reply_to_publish journal c (candidates.Image image) None = replies.Bound (bound_count journal + 1)

-- A weak handle is made of the context that a name means, if its own name isn't in use.
abbrev pub reply_to_weak : Option ℕ → Option ℕ → Reply
reply_to_weak (Some used) context = replies.InUse
reply_to_weak None None = replies.NoContext
reply_to_weak None (Some c) = replies.Weakly c

-- The context of a weak handle is there or was freed.
abbrev pub reply_to_alive : List Entry → Option ℕ → Reply
reply_to_alive journal None = replies.NoHandle
reply_to_alive journal (Some c) = if is_live journal c then replies.Alive c else replies.Gone c

-- An `Unload` gives up the context that its name means, if that is collectible and wasn't given up before.
abbrev pub reply_to_unload : List Entry → Option ℕ → Reply
reply_to_unload journal None = replies.NoContext
reply_to_unload journal (Some c) =
    if not (is_collectible journal c) then replies.Fixed c
    else if is_unloaded journal c then replies.Already c
    else replies.Unloading c

-- the live contexts that aren't kept, in rising order
pub record ListsUnkept (journal : List Entry) (contexts : List ℕ) : Type 0 where
  pub rising : IsStrictlyIncreasing contexts
  pub each : (c : ℕ) → Contains contexts c ↔ (IsLive journal c × ¬ IsKept journal c)

-- This is the reply to the event after the journal, among these files. An event that is not built has none.
abbrev pub IsReply : Files → List Entry → Event → Reply → Type 0
IsReply files journal (events.New name kind) reply = reply ≡ reply_to_new journal (named journal name)
IsReply files journal (events.Rule place name answer) reply = reply ≡ reply_to_rule journal place
IsReply files journal (events.Enter name) reply = reply ≡ reply_to_enter journal (named journal name)
IsReply files journal (events.EnterHandle handle) reply = ⊥
IsReply files journal (events.Lookup context name version) reply =
    reply ≡ reply_to_lookup files journal version (binding journal context name)
IsReply files journal (events.Ask step context name) reply = reply ≡ reply_to_ask files journal step context name
IsReply files journal (events.Publish context name candidate) reply =
    reply ≡ reply_to_publish journal context candidate (binding journal context name)
IsReply files journal (events.Place user key) reply = ⊥
IsReply files journal (events.LoadStatic key field kind) reply = ⊥
IsReply files journal (events.StoreStatic key field value) reply = ⊥
IsReply files journal (events.Hold handle assembly method) reply = ⊥
IsReply files journal (events.DropHandle handle) reply = ⊥
IsReply files journal (events.Weak handle name) reply = reply ≡ reply_to_weak (weakly journal handle) (named journal name)
IsReply files journal (events.Alive handle) reply = reply ≡ reply_to_alive journal (weakly journal handle)
IsReply files journal (events.Unload name) reply = reply ≡ reply_to_unload journal (named journal name)
IsReply files journal events.Collect reply =
    (contexts : List ℕ) × ListsUnkept journal contexts × (reply ≡ replies.Freed (sealed contexts))
IsReply files journal (events.Leave operation) reply = reply ≡ replies.Left
