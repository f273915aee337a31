-- What a bind does next (own): where it stands between two events, and where it goes with a reply.
use Rattle.std.specs.Prelude.{ℕ, ◌==◌, if◌then◌else◌, List, [], ◌∷◌, Option, Some, None, IsSome}
use Rattle.std.specs.Option.{option_map, option_and_then}
use Rattle.cli_words.specs.declared.check.CheckCode.TheVariants as code
use Rattle.cli_words.specs.Text.{are_alike}
use Rattle.assembly_name.specs.declared.version.Version.{Version}
use Rattle.assembly_name.specs.Version.{is_at_least}
use Rattle.assembly_image.specs.Module.{Module}
use Rattle.assembly_image.specs.Names.{assembly_name, assembly_version}
use Rattle.assembly_image.specs.Reading.{FileReading, image_limit}
use Rattle.assembly_image.specs.Reading.FileReading.{Absent, TooLong, Refused as NoImage, Good}
use Rattle.host_events.specs.declared.event.AskStep.{AskStep}
use Rattle.host_events.specs.declared.event.AskStep.TheVariants.{Load, Default, Resolving, Resolve}
use Rattle.host_events.specs.declared.event.Candidate.{Candidate}
use Rattle.host_events.specs.declared.event.Candidate.TheVariants as candidates
use Rattle.host_events.specs.declared.event.Event.{Event}
use Rattle.host_events.specs.declared.event.Event.TheVariants as events
use Rattle.host_events.specs.declared.order.CodeOf.{CodeOf}
use Rattle.host_events.specs.declared.outcome.Outcome.TheVariants as outcomes
use Rattle.host_events.specs.declared.reply.Reply.{Reply}
use Rattle.host_events.specs.declared.reply.Reply.TheVariants as replies
use Rattle.host_events.specs.Asking.{Asking, asks, refuses}
use Rattle.host_events.specs.Bindings.{platform_version}
use Rattle.host_events.specs.Task.{give, ◌>>=◌}
use Rattle.bind_flow.specs.declared.turn.Turn.{Turn}
use Rattle.bind_flow.specs.declared.turn.Turn.TheVariants as turns
use Rattle.bind_flow.specs.declared.turn.Wait.{Wait}
use Rattle.bind_flow.specs.declared.turn.Wait.TheVariants as waits
use Rattle.bind_flow.specs.Binds.{Wanted, answered, asked_in_order, if_assembly_serves, image_published, looked_up, published, publishes}
use Rattle.bind_flow.specs.Images.{World, reading_at, version_read}

-- the event that is due
abbrev pub event_at : Wanted → Wait → Event
event_at wanted waits.Lookup = events.Lookup wanted.context wanted.name wanted.version
event_at wanted (waits.Ask step) = events.Ask step wanted.context wanted.name
event_at wanted (waits.PublishDefault image) = events.Publish 0 wanted.name (candidates.Image image)
event_at wanted (waits.Publish candidate) = events.Publish wanted.context wanted.name candidate
event_at wanted (waits.Share a) = events.Publish wanted.context wanted.name (candidates.Assembly a)

-- the version of the image of a number, where it is one
abbrev pub image_version : List FileReading → ℕ → Option Version
image_version images image = option_and_then version_read (reading_at images image)

-- the version of an assembly of this number whose code comes from there
abbrev pub version_told : List FileReading → ℕ → Option CodeOf → Option Version
version_told images a code =
    if a == 0 then Some platform_version else option_and_then (λ from. image_version images from.image) code

-- it goes on so if the version serves
abbrev pub served : Wanted → Turn → Version → Turn
served wanted turn version =
    if is_at_least version wanted.version then turn else turns.Refused (outcomes.VersionLow wanted.name version)

-- it goes on so if the version of the assembly serves
abbrev pub assembly_served : Wanted → List FileReading → Turn → ℕ → Option CodeOf → Option Turn
assembly_served wanted images turn a code = option_map (served wanted turn) (version_told images a code)

-- the first step
abbrev pub first_step : ℕ → AskStep
first_step context = if context == 0 then Default else Load

-- the step after one that gave no candidate; after the last the name is not found
abbrev pub turn_after : Wanted → AskStep → Turn
turn_after wanted Load = turns.Asks (waits.Ask Default)
turn_after wanted Default = turns.Asks (waits.Ask Resolving)
turn_after wanted Resolving = turns.Asks (waits.Ask Resolve)
turn_after wanted Resolve = turns.Refused (outcomes.NotFound wanted.name)

-- an image that every context finds is published in context 0 first
abbrev pub wait_default : Wanted → ℕ → Wait
wait_default wanted image =
    if wanted.context == 0 then waits.Publish (candidates.Image image) else waits.PublishDefault image

abbrev pub wait_image : Wanted → AskStep → ℕ → Wait
wait_image wanted Load image = waits.Publish (candidates.Image image)
wait_image wanted Default image = wait_default wanted image
wait_image wanted Resolving image = waits.Publish (candidates.Image image)
wait_image wanted Resolve image = waits.Publish (candidates.Image image)

-- an image of the name whose version serves
abbrev pub module_turn : Wanted → Turn → Module → Turn
module_turn wanted turn m =
    if are_alike (assembly_name m) wanted.name then served wanted turn (assembly_version m)
    else turns.Refused (outcomes.NameMismatch wanted.name)

abbrev pub reading_turn : Wanted → Turn → FileReading → Turn
reading_turn wanted turn Absent = turns.Refused (outcomes.BadImage (record { code = code.Absent; at = 0 }))
reading_turn wanted turn TooLong = turns.Refused (outcomes.BadImage (record { code = code.TooLong; at = image_limit }))
reading_turn wanted turn (NoImage failed) = turns.Refused (outcomes.BadImage failed)
reading_turn wanted turn (Good m) = module_turn wanted turn m

-- where a bind goes with a reply; there is no such turn where the reply does not come
abbrev pub turn_looked_up : Wanted → List FileReading → Reply → Option CodeOf → Option Turn
turn_looked_up wanted images replies.Miss code = Some (turns.Asks (waits.Ask (first_step wanted.context)))
turn_looked_up wanted images (replies.Hit a) code = Some (turns.Found a)
turn_looked_up wanted images (replies.Low a) code =
    option_map (λ version. turns.Refused (outcomes.VersionLow wanted.name version)) (version_told images a code)
turn_looked_up wanted images _ code = None

abbrev pub turn_answered : Wanted → List FileReading → AskStep → Reply → Option CodeOf → Option Turn
turn_answered wanted images step replies.Nothing code = Some (turn_after wanted step)
turn_answered wanted images step (replies.Image i) code =
    option_map (reading_turn wanted (turns.Asks (wait_image wanted step i))) (reading_at images i)
turn_answered wanted images step (replies.Foreign a) code =
    assembly_served wanted images (turns.Asks (waits.Publish (candidates.Assembly a))) a code
turn_answered wanted images step _ code = None

abbrev pub turn_default : Wanted → List FileReading → Reply → Option CodeOf → Option Turn
turn_default wanted images (replies.Bound a) code = assembly_served wanted images (turns.Asks (waits.Share a)) a code
turn_default wanted images (replies.Lost a) code = assembly_served wanted images (turns.Asks (waits.Share a)) a code
turn_default wanted images _ code = None

abbrev pub turn_published : Wanted → List FileReading → Reply → Option CodeOf → Option Turn
turn_published wanted images (replies.Bound a) code = Some (turns.Found a)
turn_published wanted images (replies.Shared a) code = Some (turns.Found a)
turn_published wanted images (replies.Lost a) code = assembly_served wanted images (turns.Found a) a code
turn_published wanted images (replies.NotCollectible a) code = Some (turns.Refused (outcomes.NotCollectible a))
turn_published wanted images _ code = None

abbrev pub turn_with : Wanted → List FileReading → Wait → Reply → Option CodeOf → Option Turn
turn_with wanted images waits.Lookup reply code = turn_looked_up wanted images reply code
turn_with wanted images (waits.Ask step) reply code = turn_answered wanted images step reply code
turn_with wanted images (waits.PublishDefault image) reply code = turn_default wanted images reply code
turn_with wanted images (waits.Publish candidate) reply code = turn_published wanted images reply code
turn_with wanted images (waits.Share a) reply code = turn_published wanted images reply code

-- the image is one
abbrev pub IsModule : List FileReading → ℕ → Type 0
IsModule images image = IsSome (image_version images image)

abbrev pub IsPublishable : List FileReading → Candidate → Type 0
IsPublishable images (candidates.Image image) = IsModule images image
IsPublishable images (candidates.Assembly a) = Unit {0}

-- what is to be published is an image, if it is not an assembly
abbrev pub IsReady : List FileReading → Wait → Type 0
IsReady images waits.Lookup = Unit {0}
IsReady images (waits.Ask step) = Unit {0}
IsReady images (waits.PublishDefault image) = IsModule images image
IsReady images (waits.Publish candidate) = IsPublishable images candidate
IsReady images (waits.Share a) = Unit {0}

-- the steps after one
abbrev pub steps_after : AskStep → List AskStep
steps_after Load = Default ∷ Resolving ∷ Resolve ∷ []
steps_after Default = Resolving ∷ Resolve ∷ []
steps_after Resolving = Resolve ∷ []
steps_after Resolve = []

-- what is left of a bind once the event that is due has its reply
abbrev pub left_with : World → Wanted → Wait → Reply → Asking ℕ
left_with world wanted waits.Lookup reply = looked_up world wanted reply
left_with world wanted (waits.Ask step) reply =
    answered world wanted step (asked_in_order world wanted (steps_after step)) reply
left_with world wanted (waits.PublishDefault image) reply = do
  a ← image_published reply
  if_assembly_serves world wanted a (publishes world wanted (candidates.Assembly a))
left_with world wanted (waits.Publish candidate) reply = published world wanted reply
left_with world wanted (waits.Share a) reply = published world wanted reply

-- what is left of a bind that goes on so
abbrev pub left_of : World → Wanted → Turn → Asking ℕ
left_of world wanted (turns.Asks wait) = do
  reply ← asks (event_at wanted wait)
  left_with world wanted wait reply
left_of world wanted (turns.Found a) = give a
left_of world wanted (turns.Refused outcome) = refuses outcome
