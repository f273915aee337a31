-- What it means to bind a name in a context (after Microsoft's "Managed assembly loading algorithm" and "About
-- AssemblyLoadContext"; the rules, and the version that serves, are this project's own). Names are compared
-- without regard to ASCII case.
use Rattle.std.specs.Prelude.{ℕ, ◌≡◌, ◌==◌, if◌then◌else◌, List, [], ◌∷◌, Option, Some, Ok, Err}
use Rattle.cli_words.specs.declared.check.CheckCode.TheVariants as code
use Rattle.cli_words.specs.Text.{are_alike}
use Rattle.assembly_name.specs.declared.version.Version.{Version}
use Rattle.assembly_name.specs.Version.{is_at_least}
use Rattle.assembly_image.specs.Module.{Module}
use Rattle.assembly_image.specs.Names.{assembly_name, assembly_version}
use Rattle.assembly_image.specs.Reading.{FileReading, image_limit}
use Rattle.assembly_image.specs.Reading.FileReading.{Absent, TooLong, Refused as NoImage, Good}
use Rattle.host_events.specs.declared.event.AskStep.{AskStep}
use Rattle.host_events.specs.declared.event.AskStep.TheVariants.{Load, Default, Resolving, Resolve}
use Rattle.host_events.specs.declared.event.Candidate.{Candidate}
use Rattle.host_events.specs.declared.event.Candidate.TheVariants as candidates
use Rattle.host_events.specs.declared.event.Event.{Event}
use Rattle.host_events.specs.declared.event.Event.TheVariants.{Lookup, Ask, Publish}
use Rattle.host_events.specs.declared.outcome.Outcome.{Outcome}
use Rattle.host_events.specs.declared.outcome.Outcome.TheVariants.{Assembly, NotFound, VersionLow, BadImage, NameMismatch, NotCollectible}
use Rattle.host_events.specs.declared.reply.Reply.{Reply}
use Rattle.host_events.specs.declared.reply.Reply.TheVariants as replies
use Rattle.host_events.specs.Asking.{Asking, Ending, asks, refuses, IsWay}
use Rattle.host_events.specs.Task.Why.{Refused, Stopped}
use Rattle.host_events.specs.Task.{never, give, pick, if_some, ◌>>=◌}
use Rattle.bind_flow.specs.Images.{World, reading_at, assembly_version_in}

-- what is to be bound: a name in a context, and the version that is wanted
pub record Wanted : Type 0 where
  pub context : ℕ
  pub name : List ℕ
  pub version : Version

-- The version serves, or it is too low. There always is one: an assembly that a reply names was
-- made of an image.
abbrev pub if_serves : {A : Type 0} → Wanted → Asking A → Option Version → Asking A
if_serves wanted next found =
    if_some found
    (λ version. pick (is_at_least version wanted.version) next (refuses (VersionLow wanted.name version)))
    never

-- the version of an assembly serves, or is too low
abbrev pub if_assembly_serves : {A : Type 0} → World → Wanted → ℕ → Asking A → Asking A
if_assembly_serves world wanted a next = if_serves wanted next (assembly_version_in world a)

-- What a reply to a publication gives: an assembly that was there before may have a version that is too low.
abbrev pub published : World → Wanted → Reply → Asking ℕ
published world wanted (replies.Bound a) = give a
published world wanted (replies.Shared a) = give a
published world wanted (replies.Lost a) = if_assembly_serves world wanted a (give a)
published world wanted (replies.NotCollectible a) = refuses (NotCollectible a)
published world wanted _ = never

abbrev pub publishes : World → Wanted → Candidate → Asking ℕ
publishes world wanted candidate = do
  reply ← asks (Publish wanted.context wanted.name candidate)
  published world wanted reply

-- the assembly that a context has under a name once an image was published there
abbrev pub image_published : Reply → Asking ℕ
image_published (replies.Bound a) = give a
image_published (replies.Lost a) = give a
image_published _ = never

-- An image that every context finds by itself is published in context 0, and then what context 0 has under the
-- name is published in the context, if its version serves.
abbrev pub publishes_default : World → Wanted → ℕ → Asking ℕ
publishes_default world wanted image = do
  reply ← asks (Publish 0 wanted.name (candidates.Image image))
  a ← image_published reply
  if_assembly_serves world wanted a (publishes world wanted (candidates.Assembly a))

-- where a candidate image that a step gave is published
abbrev pub publishes_image : World → Wanted → AskStep → ℕ → Asking ℕ
publishes_image world wanted Load image = publishes world wanted (candidates.Image image)
publishes_image world wanted Default image =
    pick (wanted.context == 0) (publishes world wanted (candidates.Image image)) (publishes_default world wanted image)
publishes_image world wanted Resolving image = publishes world wanted (candidates.Image image)
publishes_image world wanted Resolve image = publishes world wanted (candidates.Image image)

-- the module has the name, and its version serves
abbrev pub if_fits : Wanted → Asking ℕ → Module → Asking ℕ
if_fits wanted next m =
    pick (are_alike (assembly_name m) wanted.name)
    (if_serves wanted next (Some (assembly_version m)))
    (refuses (NameMismatch wanted.name))

-- what comes of an image that reads so
abbrev pub if_module : {A : Type 0} → (Module → Asking A) → FileReading → Asking A
if_module next Absent = refuses (BadImage (record { code = code.Absent; at = 0 }))
if_module next TooLong = refuses (BadImage (record { code = code.TooLong; at = image_limit }))
if_module next (NoImage failed) = refuses (BadImage failed)
if_module next (Good m) = next m

-- what comes of an image; a reply names none that is not there
abbrev pub if_image : {A : Type 0} → World → ℕ → (Module → Asking A) → Asking A
if_image world image next = if_some (reading_at world.images image) (if_module next) never

-- The first step that is given a candidate decides: an image that fits, or an assembly whose version serves, is
-- published.
abbrev pub answered : World → Wanted → AskStep → Asking ℕ → Reply → Asking ℕ
answered world wanted step later replies.Nothing = later
answered world wanted step later (replies.Image i) = if_image world i (if_fits wanted (publishes_image world wanted step i))
answered world wanted step later (replies.Foreign a) = if_assembly_serves world wanted a (publishes world wanted (candidates.Assembly a))
answered world wanted step later _ = never

-- the steps in their order; where none gives a candidate the name is not found
abbrev pub asked_in_order : World → Wanted → List AskStep → Asking ℕ
asked_in_order world wanted [] = refuses (NotFound wanted.name)
asked_in_order world wanted (step ∷ steps) = do
  reply ← asks (Ask step wanted.context wanted.name)
  answered world wanted step (asked_in_order world wanted steps) reply

-- Context 0 has no Load step.
abbrev pub steps_in : ℕ → List AskStep
steps_in context =
    if context == 0 then Default ∷ Resolving ∷ Resolve ∷ [] else Load ∷ Default ∷ Resolving ∷ Resolve ∷ []

-- an assembly is bound to the name, and its version is too low
abbrev pub is_low : World → Wanted → ℕ → Asking ℕ
is_low world wanted a =
    if_some (assembly_version_in world a) (λ version. refuses (VersionLow wanted.name version)) never

-- what is bound to the name already, if its version serves, else what the steps give
abbrev pub looked_up : World → Wanted → Reply → Asking ℕ
looked_up world wanted replies.Miss = asked_in_order world wanted (steps_in wanted.context)
looked_up world wanted (replies.Hit a) = give a
looked_up world wanted (replies.Low a) = is_low world wanted a
looked_up world wanted _ = never

-- A bind: what it asks for, and the assembly that it gives, or why not.
unfoldable pub binds : World → Wanted → Asking ℕ
binds world wanted = do
  reply ← asks (Lookup wanted.context wanted.name wanted.version)
  looked_up world wanted reply

-- what comes to an end with an assembly, or is refused, is an outcome; what waits for an event is none
abbrev pub EndsWith : Ending ℕ → Outcome → Type 0
EndsWith (Ok a) outcome = outcome ≡ Assembly a
EndsWith (Err (Refused refusal)) outcome = outcome ≡ refusal
EndsWith (Err (Stopped event)) outcome = ⊥

-- The events with their replies are a whole bind, and this is its outcome.
abbrev pub Binds : World → Wanted → List (Event × Reply) → Outcome → Type 0
Binds world wanted trace outcome = (end : Ending ℕ) × IsWay (binds world wanted) trace end × EndsWith end outcome
