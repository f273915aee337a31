-- The meanings of the flow of a bind (own).
use Rattle.std.specs.Prelude.{ℕ, ◌≡◌, List, [], ◌++◌, Option, Some, None}
use Rattle.host_events.specs.declared.event.Candidate.{Candidate}
use Rattle.host_events.specs.declared.event.Candidate.TheVariants as candidates
use Rattle.host_events.specs.declared.event.Event.{Event}
use Rattle.host_events.specs.declared.event.Event.TheVariants as events
use Rattle.host_events.specs.declared.journal.Entry.{Entry}
use Rattle.host_events.specs.declared.order.CodeOf.{CodeOf}
use Rattle.host_events.specs.declared.order.Order.{Order}
use Rattle.host_events.specs.declared.order.Room.{Room}
use Rattle.host_events.specs.declared.outcome.Outcome.{Outcome}
use Rattle.host_events.specs.declared.reply.Reply.{Reply}
use Rattle.assembly_image.specs.Reading.{FileReading, module_of}
use Rattle.assembly_image.specs.Reading.FileReading.{Good}
use Rattle.std.specs.Arc.{arc_value}
use Rattle.host_events.specs.Asking.{IsDue}
use Rattle.host_events.specs.Assemblies.{code_of}
use Rattle.host_events.specs.Files.{Files}
use Rattle.host_events.specs.Images.{KnowsImages}
use Rattle.host_events.specs.Journal.{IsProper}
use Rattle.host_events.specs.Reply.{IsReply}
use Rattle.host_events.specs.Reserved.{sealed}
use Rattle.host_events.specs.Steps.{Step, AgreeWith, entry_of, own_steps, without_codes}
use Rattle.bind_flow.specs.declared.images.ImageCode.{ImageCode}
use Rattle.bind_flow.specs.Binds.{Binds, Wanted, binds}
use Rattle.bind_flow.specs.Images.{World, reading_at, versions_of}

-- what a bind is to do: what is to be bound, and how the images read
pub record Plan : Type 0 where
  pub wanted : Wanted
  pub images : List FileReading

-- what the assemblies are, with the images of a plan
abbrev pub world_of : (ℕ → Option CodeOf) → List FileReading → World
world_of assemblies images = record { assemblies = assemblies; images = images }

-- no room for a list or a text
abbrev pub no_room : Room
no_room = record { numbers = sealed []; first = sealed []; second = sealed []; third = sealed [] }

-- The code that a publication brings is of its image, for its context, and shares what the image's file reads as.
abbrev pub IsCodeFor : List FileReading → ℕ → Candidate → Option ImageCode → Type 0
IsCodeFor images context (candidates.Image image) code =
    (brought : ImageCode) × (code ≡ Some brought) × (brought.image ≡ image) × (brought.context ≡ context)
    × (reading_at images image ≡ Some (Good (module_of (arc_value brought.shared))))
IsCodeFor images context (candidates.Assembly a) code = code ≡ None

-- what the order of an event brings as code
abbrev pub BringsCode : List FileReading → Event → Option ImageCode → Type 0
BringsCode images (events.Publish context name candidate) code = IsCodeFor images context candidate code
BringsCode images _ code = code ≡ None

-- an order that brings what an event within an operation needs: the event twice, and the code of what it publishes
pub record IsOrder (images : List FileReading) (event : Event) (order : Order ImageCode) : Type 0 where
  pub asked : order.event ≡ event
  pub same : order.again ≡ event
  pub coded : BringsCode images event order.code
  pub room : order.room ≡ no_room
  pub copy : order.copy ≡ no_room

-- After the trace the order is that of the event that is due, whatever the assemblies are that the codes tell.
pub record IsAsked (plan : Plan) (trace : List Step) (order : Order ImageCode) : Type 0 where
  pub due : (assemblies : ℕ → Option CodeOf) → AgreeWith assemblies trace →
      IsDue (binds (world_of assemblies plan.images) plan.wanted) (without_codes trace) order.event
  pub brings : IsOrder plan.images order.event order

-- The trace is a whole bind with this outcome, whatever the assemblies are that the codes tell.
abbrev pub IsEnd : Plan → List Step → Outcome → Type 0
IsEnd plan trace outcome =
    (assemblies : ℕ → Option CodeOf) → AgreeWith assemblies trace →
    Binds (world_of assemblies plan.images) plan.wanted (without_codes trace) outcome

-- The thread's last entries in the proper journal are the trace. Its files have the versions of these images.
pub record IsFitting (images : List FileReading) (trace : List Step) (thread : ℕ) (files : Files) (journal : List Entry) : Type 0 where
  pub proper : IsProper files journal
  pub versions : files.versions ≡ versions_of images
  pub known : KnowsImages files journal
  pub before : List Step
  pub own : own_steps code_of journal thread ≡ before ++ trace

-- the reply and the code come for the order on a journal that fits the trace
pub record CanCome (images : List FileReading) (trace : List Step) (order : Order ImageCode) (reply : Reply) (code : Option CodeOf) : Type 0 where
  pub thread : ℕ
  pub files : Files
  pub journal : List Entry
  pub fitting : IsFitting images trace thread files journal
  pub replied : IsReply files journal order.event reply
  pub coded : code ≡ code_of journal (entry_of thread order.event reply)
