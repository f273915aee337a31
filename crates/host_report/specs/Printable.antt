-- The ends and the journals that a report can tell (own).
use Rattle.std.specs.Prelude.{ℕ, ◌≡◌, ◌^◌, ◌<◌, List, length, Bool, true, false, not, IsTrue}
use Rattle.std.specs.List.{AllByRecursion}
use Rattle.cli_words.specs.Text.{AreUnits}
use Rattle.host_events.specs.declared.event.Datum.{Datum}
use Rattle.host_events.specs.declared.event.Datum.TheVariants as values
use Rattle.host_events.specs.declared.event.Event.{Event}
use Rattle.host_events.specs.declared.event.Event.TheVariants as events
use Rattle.host_events.specs.declared.journal.Entry.{Entry}
use Rattle.host_events.specs.declared.outcome.CommandEnd.{CommandEnd}
use Rattle.host_events.specs.declared.outcome.Outcome.{Outcome}
use Rattle.host_events.specs.declared.outcome.Outcome.TheVariants as outcomes
use Rattle.host_events.specs.declared.reply.Reply.{Reply}
use Rattle.host_events.specs.declared.reply.Reply.TheVariants as replies
use Rattle.host_events.specs.Reserved.{Reserved}
use Rattle.host_report.specs.Fields.{AreFields}
use Rattle.host_report.specs.Table.{event_fields, reply_fields, outcome_fields}

-- a value that is no reference to something else than a string, and whose text is as wanted
abbrev pub IsStored : {T : Type 0} → (T → Type 0) → Datum T → Type 0
IsStored IsText (values.I4 number) = Unit {0}
IsStored IsText (values.I8 number) = Unit {0}
IsStored IsText (values.N number) = Unit {0}
IsStored IsText (values.S text) = IsText text
IsStored IsText values.Null = Unit {0}
IsStored IsText values.Ref = ⊥

-- no element is added any more
abbrev pub IsSealed : {T : Type 0} → Reserved T → Type 0
IsSealed list = list.spare ≡ 0

-- an event stores no reference
abbrev pub StoresText : Event → Type 0
StoresText (events.StoreStatic key field value) = IsStored (λ units. Unit {0}) value
StoresText _ = Unit {0}

-- a reply gives no reference, and its lists and texts are sealed
abbrev pub GivesText : Reply → Type 0
GivesText (replies.Value value) = IsStored IsSealed value
GivesText (replies.Freed contexts) = IsSealed contexts
GivesText _ = Unit {0}

-- a reply that is the outcome of a command: one to the event of a command that is a single event, or to
-- the first event of an operation that did not begin
abbrev pub ends_command : Reply → Bool
ends_command (replies.Exists c) = true
ends_command (replies.Made c) = true
ends_command replies.NoContext = true
ends_command (replies.Unloading c) = true
ends_command (replies.Set c) = true
ends_command (replies.Entered k c) = false
ends_command replies.NoHandle = true
ends_command (replies.EnteredAt k c a m) = false
ends_command replies.Miss = false
ends_command (replies.Hit a) = false
ends_command (replies.Low a) = false
ends_command (replies.Image i) = false
ends_command (replies.Foreign a) = false
ends_command replies.Nothing = false
ends_command (replies.Lost a) = false
ends_command (replies.NotCollectible a) = false
ends_command (replies.Shared a) = false
ends_command (replies.Bound a) = false
ends_command (replies.Placed c) = false
ends_command (replies.Value value) = false
ends_command replies.Stored = false
ends_command replies.InUse = true
ends_command (replies.Held c) = true
ends_command replies.Dropped = true
ends_command (replies.Weakly c) = true
ends_command (replies.Alive c) = true
ends_command (replies.Gone c) = true
ends_command (replies.Fixed c) = true
ends_command (replies.Already c) = true
ends_command (replies.Freed contexts) = true
ends_command replies.Left = false

abbrev pub EndsCommand : Outcome → Type 0
EndsCommand (outcomes.Replied reply) = IsTrue (ends_command reply) × GivesText reply
EndsCommand _ = Unit {0}

abbrev pub IsPrintableEvent : Event → Type 0
IsPrintableEvent event = AreFields (event_fields event) × StoresText event

abbrev pub IsPrintableReply : Reply → Type 0
IsPrintableReply reply = AreFields (reply_fields reply) × GivesText reply

abbrev pub IsPrintableOutcome : Outcome → Type 0
IsPrintableOutcome outcome = AreFields (outcome_fields outcome) × EndsCommand outcome

abbrev pub IsPrintableCommand : CommandEnd → Type 0
IsPrintableCommand end = AllByRecursion AreUnits end.lines × IsPrintableOutcome end.outcome

abbrev pub IsPrintableEntry : Entry → Type 0
IsPrintableEntry entry =
    (entry.thread < 2 ^ 32) × IsPrintableEvent entry.event × IsPrintableReply entry.reply

-- what a report says reads back: each field has a value that it can have, replies are sealed and are none that
-- end no command where they are outcomes, references stand in outcomes alone, and threads and entries are
-- fewer than 2^32
pub record IsPrintable (ends : List (List CommandEnd)) (journal : List Entry) : Type 0 where
  pub commands : AllByRecursion (AllByRecursion IsPrintableCommand) ends
  pub entries : AllByRecursion IsPrintableEntry journal
  pub few_threads : length ends < 2 ^ 32
  pub few_entries : length journal < 2 ^ 32
