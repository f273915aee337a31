-- Which journals the host allows (own).
use Rattle.std.specs.Prelude.{ℕ, ◌≡◌, ◌≤◌, ◌<◌, ◌^◌, ◌==◌, ◌&&◌, Bool, true, false, not, List, length, is_some, IsTrue}
use Rattle.std.specs.List.{filter, list_all}
use Rattle.host_events.specs.declared.event.Event.{Event}
use Rattle.host_events.specs.declared.event.Event.TheVariants as events
use Rattle.host_events.specs.declared.journal.Entry.{Entry}
use Rattle.host_events.specs.declared.reply.Reply.{Reply}
use Rattle.host_events.specs.declared.reply.Reply.TheVariants as replies
use Rattle.host_events.specs.Contexts.{made_context}
use Rattle.host_events.specs.Files.{Files}
use Rattle.host_events.specs.Images.{KnowsImages}
use Rattle.host_events.specs.Journal.{IsProper}
use Rattle.host_core.specs.declared.bounds.Bounds.{Bounds}
use Rattle.host_core.specs.Bounds.{bounds_of, part_of}
use Rattle.host_events.specs.Rooms.{most_contexts}

-- what a run of the host never changes
pub record Fixed : Type 0 where
  pub bounds : Bounds
  pub files : Files
  -- contexts are collected; else operations begin. There is no run with both yet.
  pub collects : Bool

-- a test of whether the reply says that a handle was made, a strong one or a weak one
abbrev pub makes_handle : Reply → Bool
makes_handle (replies.Exists c) = false
makes_handle (replies.Made c) = false
makes_handle replies.NoContext = false
makes_handle (replies.Unloading c) = false
makes_handle (replies.Set c) = false
makes_handle (replies.Entered k c) = false
makes_handle replies.NoHandle = false
makes_handle (replies.EnteredAt k c a m) = false
makes_handle replies.Miss = false
makes_handle (replies.Hit a) = false
makes_handle (replies.Low a) = false
makes_handle (replies.Image i) = false
makes_handle (replies.Foreign a) = false
makes_handle replies.Nothing = false
makes_handle (replies.Lost a) = false
makes_handle (replies.NotCollectible a) = false
makes_handle (replies.Shared a) = false
makes_handle (replies.Bound a) = false
makes_handle (replies.Placed c) = false
makes_handle (replies.Value value) = false
makes_handle replies.Stored = false
makes_handle replies.InUse = false
makes_handle (replies.Held c) = true
makes_handle replies.Dropped = false
makes_handle (replies.Weakly c) = true
makes_handle (replies.Alive c) = false
makes_handle (replies.Gone c) = false
makes_handle (replies.Fixed c) = false
makes_handle (replies.Already c) = false
makes_handle (replies.Freed contexts) = false
makes_handle replies.Left = false

-- a test of whether the reply says that a rule was set
abbrev pub sets_rule : Reply → Bool
sets_rule (replies.Exists c) = false
sets_rule (replies.Made c) = false
sets_rule replies.NoContext = false
sets_rule (replies.Unloading c) = false
sets_rule (replies.Set c) = true
sets_rule (replies.Entered k c) = false
sets_rule replies.NoHandle = false
sets_rule (replies.EnteredAt k c a m) = false
sets_rule replies.Miss = false
sets_rule (replies.Hit a) = false
sets_rule (replies.Low a) = false
sets_rule (replies.Image i) = false
sets_rule (replies.Foreign a) = false
sets_rule replies.Nothing = false
sets_rule (replies.Lost a) = false
sets_rule (replies.NotCollectible a) = false
sets_rule (replies.Shared a) = false
sets_rule (replies.Bound a) = false
sets_rule (replies.Placed c) = false
sets_rule (replies.Value value) = false
sets_rule replies.Stored = false
sets_rule replies.InUse = false
sets_rule (replies.Held c) = false
sets_rule replies.Dropped = false
sets_rule (replies.Weakly c) = false
sets_rule (replies.Alive c) = false
sets_rule (replies.Gone c) = false
sets_rule (replies.Fixed c) = false
sets_rule (replies.Already c) = false
sets_rule (replies.Freed contexts) = false
sets_rule replies.Left = false

-- a test of whether the event can make a context
abbrev pub makes_context_by : Event → Bool
makes_context_by (events.New name kind) = true
makes_context_by (events.Rule place name answer) = false
makes_context_by (events.Enter name) = false
makes_context_by (events.EnterHandle handle) = false
makes_context_by (events.Lookup context name version) = false
makes_context_by (events.Ask step context name) = false
makes_context_by (events.Publish context name candidate) = false
makes_context_by (events.Place user key) = false
makes_context_by (events.LoadStatic key field kind) = false
makes_context_by (events.StoreStatic key field value) = false
makes_context_by (events.Hold handle assembly method) = false
makes_context_by (events.DropHandle handle) = false
makes_context_by (events.Weak handle name) = false
makes_context_by (events.Alive handle) = false
makes_context_by (events.Unload name) = false
makes_context_by events.Collect = false
makes_context_by (events.Leave operation) = false

-- a test of whether the event can make a handle
abbrev pub makes_handle_by : Event → Bool
makes_handle_by (events.New name kind) = false
makes_handle_by (events.Rule place name answer) = false
makes_handle_by (events.Enter name) = false
makes_handle_by (events.EnterHandle handle) = false
makes_handle_by (events.Lookup context name version) = false
makes_handle_by (events.Ask step context name) = false
makes_handle_by (events.Publish context name candidate) = false
makes_handle_by (events.Place user key) = false
makes_handle_by (events.LoadStatic key field kind) = false
makes_handle_by (events.StoreStatic key field value) = false
makes_handle_by (events.Hold handle assembly method) = true
makes_handle_by (events.DropHandle handle) = false
makes_handle_by (events.Weak handle name) = true
makes_handle_by (events.Alive handle) = false
makes_handle_by (events.Unload name) = false
makes_handle_by events.Collect = false
makes_handle_by (events.Leave operation) = false

-- a test of whether the event can set a rule
abbrev pub sets_rule_by : Event → Bool
sets_rule_by (events.New name kind) = false
sets_rule_by (events.Rule place name answer) = true
sets_rule_by (events.Enter name) = false
sets_rule_by (events.EnterHandle handle) = false
sets_rule_by (events.Lookup context name version) = false
sets_rule_by (events.Ask step context name) = false
sets_rule_by (events.Publish context name candidate) = false
sets_rule_by (events.Place user key) = false
sets_rule_by (events.LoadStatic key field kind) = false
sets_rule_by (events.StoreStatic key field value) = false
sets_rule_by (events.Hold handle assembly method) = false
sets_rule_by (events.DropHandle handle) = false
sets_rule_by (events.Weak handle name) = false
sets_rule_by (events.Alive handle) = false
sets_rule_by (events.Unload name) = false
sets_rule_by events.Collect = false
sets_rule_by (events.Leave operation) = false

-- how many entries a thread has
abbrev pub used_events : List Entry → ℕ → ℕ
used_events journal thread = length (filter (λ entry. entry.thread == thread) journal)

-- how many entries of a thread have a reply that passes a test
abbrev pub used : (Reply → Bool) → List Entry → ℕ → ℕ
used test journal thread = length (filter (λ entry. entry.thread == thread && test entry.reply) journal)

-- how many contexts a thread made
abbrev pub used_contexts : List Entry → ℕ → ℕ
used_contexts journal thread = used (λ reply. is_some (made_context reply)) journal thread

-- how many handles a thread made
abbrev pub used_handles : List Entry → ℕ → ℕ
used_handles journal thread = used makes_handle journal thread

-- how many rules a thread set
abbrev pub used_rules : List Entry → ℕ → ℕ
used_rules journal thread = used sets_rule journal thread

-- a test of whether the event is one of a run that collects, or of one that does not
abbrev pub keeps_to : Bool → Event → Bool
keeps_to collects (events.New name kind) = true
keeps_to collects (events.Rule place name answer) = true
keeps_to collects (events.Enter name) = not collects
keeps_to collects (events.EnterHandle handle) = not collects
keeps_to collects (events.Lookup context name version) = true
keeps_to collects (events.Ask step context name) = true
keeps_to collects (events.Publish context name candidate) = true
keeps_to collects (events.Place user key) = true
keeps_to collects (events.LoadStatic key field kind) = true
keeps_to collects (events.StoreStatic key field value) = true
keeps_to collects (events.Hold handle assembly method) = true
keeps_to collects (events.DropHandle handle) = true
keeps_to collects (events.Weak handle name) = true
keeps_to collects (events.Alive handle) = true
keeps_to collects (events.Unload name) = true
keeps_to collects events.Collect = collects
keeps_to collects (events.Leave operation) = true

-- A proper journal of fewer than 2^32 entries in which no thread has more than its share, and which names images
-- that there are. A thread without a share has no entry.
pub record IsAllowed (fixed : Fixed) (journal : List Entry) : Type 0 where
  pub proper : IsProper fixed.files journal
  pub images : KnowsImages fixed.files journal
  pub kind : IsTrue (list_all (λ entry. keeps_to fixed.collects entry.event) journal)
  pub made_up : fixed.bounds ≡ bounds_of fixed.bounds.shares
  pub numbered : fixed.bounds.contexts ≤ most_contexts
  pub few : length journal < 2 ^ 32
  pub events : (thread : ℕ) →
      used_events journal thread ≤ part_of (λ share. share.events) fixed.bounds.shares thread
  pub contexts : (thread : ℕ) →
      used_contexts journal thread ≤ part_of (λ share. share.contexts) fixed.bounds.shares thread
  pub handles : (thread : ℕ) →
      used_handles journal thread ≤ part_of (λ share. share.handles) fixed.bounds.shares thread
  pub rules : (thread : ℕ) →
      used_rules journal thread ≤ part_of (λ share. share.rules) fixed.bounds.shares thread
