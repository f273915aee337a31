-- What a journal tells of the images of its run (own).
use Rattle.std.specs.Prelude.{ℕ, ◌≡◌, List, Option, Some, None, IsSome}
use Rattle.std.specs.List.{AllByRecursion}
use Rattle.host_events.specs.declared.event.Event.{Event}
use Rattle.host_events.specs.declared.event.Event.TheVariants as events
use Rattle.host_events.specs.declared.event.RuleAnswer.{RuleAnswer}
use Rattle.host_events.specs.declared.event.RuleAnswer.TheVariants as answers
use Rattle.host_events.specs.declared.journal.Entry.{Entry}
use Rattle.host_events.specs.declared.order.CodeOf.{CodeOf}
use Rattle.host_events.specs.Assemblies.{bound_assembly, code_published}
use Rattle.host_events.specs.Files.{Files, IsImage, IsNumbered, version_of}

-- the image that a rule answers
abbrev pub image_answered : RuleAnswer → Option ℕ
image_answered (answers.Image image) = Some image
image_answered (answers.Share context) = None
image_answered answers.Nothing = None

-- the image that the rule of an event answers
abbrev pub image_ruled : Event → Option ℕ
image_ruled (events.New name kind) = None
image_ruled (events.Rule place name answer) = image_answered answer
image_ruled (events.Enter name) = None
image_ruled (events.EnterHandle handle) = None
image_ruled (events.Lookup context name version) = None
image_ruled (events.Ask step context name) = None
image_ruled (events.Publish context name candidate) = None
image_ruled (events.Place user key) = None
image_ruled (events.LoadStatic key field kind) = None
image_ruled (events.StoreStatic key field value) = None
image_ruled (events.Hold handle assembly method) = None
image_ruled (events.DropHandle handle) = None
image_ruled (events.Weak handle name) = None
image_ruled (events.Alive handle) = None
image_ruled (events.Unload name) = None
image_ruled events.Collect = None
image_ruled (events.Leave operation) = None

-- What an entry says of images: a rule answers one that there is, and one that became an assembly has a version.
pub record IsOfImages (files : Files) (entry : Entry) : Type 0 where
  pub ruled : (image : ℕ) → image_ruled entry.event ≡ Some image → IsImage files.versions image
  pub bound : (a : ℕ) (code : CodeOf) → bound_assembly entry.reply ≡ Some a → code_published entry.event ≡ Some code →
      IsSome (version_of files code.image)

-- each file that every context finds by itself has the number of an image, and so has what each entry names
pub record KnowsImages (files : Files) (journal : List Entry) : Type 0 where
  pub numbered : IsNumbered files.app files.versions
  pub each : AllByRecursion (IsOfImages files) journal
