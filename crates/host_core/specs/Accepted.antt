-- Which orders the host takes (own).
use Rattle.std.specs.Prelude.{ℕ, ◌≡◌, ◌<◌, ◌≤◌, List, [], Option, Some, IsSome, IsTrue}
use Rattle.host_events.specs.declared.event.Candidate.{Candidate}
use Rattle.host_events.specs.declared.event.Candidate.TheVariants as candidates
use Rattle.host_events.specs.declared.event.Event.{Event}
use Rattle.host_events.specs.declared.event.Event.TheVariants as events
use Rattle.host_events.specs.declared.journal.Entry.{Entry}
use Rattle.host_events.specs.declared.order.Order.{Order}
use Rattle.host_events.specs.declared.order.Room.{Room}
use Rattle.host_events.specs.Files.{Files, IsImage, version_of}
use Rattle.host_events.specs.Images.{image_ruled}
use Rattle.host_events.specs.Journal.{Fits}
use Rattle.host_events.specs.Rooms.{numbers_due}
use Rattle.host_core.specs.declared.bounds.Bounds.{Bounds}
use Rattle.host_core.specs.Allowed.{Fixed, keeps_to, used_events, used_contexts, used_handles, used_rules}
use Rattle.host_core.specs.Bounds.{part_of}

abbrev pub IsEmptyRoom : Room → Type 0
IsEmptyRoom room =
    (room.numbers.list ≡ []) × (room.first.list ≡ []) × (room.second.list ≡ []) × (room.third.list ≡ [])

-- The lists and texts are empty, and there is room for the numbers that the reply may list.
abbrev pub HasRoom : ℕ → Event → Room → Type 0
HasRoom contexts event room = IsEmptyRoom room × (numbers_due contexts event ≤ room.numbers.spare)

-- The thread has not used up its part of what the event may make: a context, a handle or a rule.
abbrev pub MayMake : Bounds → List Entry → ℕ → Event → Type 0
MayMake bounds journal thread (events.New name kind) =
    used_contexts journal thread < part_of (λ share. share.contexts) bounds.shares thread
MayMake bounds journal thread (events.Rule place name answer) =
    used_rules journal thread < part_of (λ share. share.rules) bounds.shares thread
MayMake bounds journal thread (events.Enter name) = Unit {0}
MayMake bounds journal thread (events.EnterHandle handle) = Unit {0}
MayMake bounds journal thread (events.Lookup context name version) = Unit {0}
MayMake bounds journal thread (events.Ask step context name) = Unit {0}
MayMake bounds journal thread (events.Publish context name candidate) = Unit {0}
MayMake bounds journal thread (events.Place user key) = Unit {0}
MayMake bounds journal thread (events.LoadStatic key field kind) = Unit {0}
MayMake bounds journal thread (events.StoreStatic key field value) = Unit {0}
MayMake bounds journal thread (events.Hold handle assembly method) =
    used_handles journal thread < part_of (λ share. share.handles) bounds.shares thread
MayMake bounds journal thread (events.DropHandle handle) = Unit {0}
MayMake bounds journal thread (events.Weak handle name) =
    used_handles journal thread < part_of (λ share. share.handles) bounds.shares thread
MayMake bounds journal thread (events.Alive handle) = Unit {0}
MayMake bounds journal thread (events.Unload name) = Unit {0}
MayMake bounds journal thread events.Collect = Unit {0}
MayMake bounds journal thread (events.Leave operation) = Unit {0}

-- The order publishes an image that has a version, and brings its code.
abbrev pub BringsCode : {C : Type 0} → (C → ℕ) → Files → Candidate → Option C → Type 0
BringsCode {C} image files (candidates.Image i) code =
    IsSome (version_of files i) × (brought : C) × (code ≡ Some brought) × (image brought ≡ i)
BringsCode image files (candidates.Assembly a) code = Unit {0}

-- what the order of an event has to bring: a publication of an image its code
abbrev pub Brings : {C : Type 0} → (C → ℕ) → Files → Event → Option C → Type 0
Brings image files (events.New name kind) code = Unit {0}
Brings image files (events.Rule place name answer) code = Unit {0}
Brings image files (events.Enter name) code = Unit {0}
Brings image files (events.EnterHandle handle) code = Unit {0}
Brings image files (events.Lookup context name version) code = Unit {0}
Brings image files (events.Ask step context name) code = Unit {0}
Brings image files (events.Publish context name candidate) code = BringsCode image files candidate code
Brings image files (events.Place user key) code = Unit {0}
Brings image files (events.LoadStatic key field kind) code = Unit {0}
Brings image files (events.StoreStatic key field value) code = Unit {0}
Brings image files (events.Hold handle assembly method) code = Unit {0}
Brings image files (events.DropHandle handle) code = Unit {0}
Brings image files (events.Weak handle name) code = Unit {0}
Brings image files (events.Alive handle) code = Unit {0}
Brings image files (events.Unload name) code = Unit {0}
Brings image files events.Collect code = Unit {0}
Brings image files (events.Leave operation) code = Unit {0}

-- The thread may give this order after the journal. What image a code is of is told by `image`.
pub record IsAccepted {C : Type 0} (image : C → ℕ) (fixed : Fixed) (journal : List Entry) (thread : ℕ) (order : Order C) : Type 0 where
  pub fits : Fits journal thread order.event
  pub same : order.again ≡ order.event
  pub events : used_events journal thread < part_of (λ share. share.events) fixed.bounds.shares thread
  pub makes : MayMake fixed.bounds journal thread order.event
  pub room_brought : HasRoom fixed.bounds.contexts order.event order.room
  pub kind : IsTrue (keeps_to fixed.collects order.event)
  pub ruled : (i : ℕ) → image_ruled order.event ≡ Some i → IsImage fixed.files.versions i
  pub coded : Brings image fixed.files order.event order.code
  pub copy_brought : HasRoom fixed.bounds.contexts order.event order.copy
