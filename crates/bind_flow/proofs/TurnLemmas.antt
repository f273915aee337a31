-- Each turn of a bind is one that its rules allow.
use Rattle.std.proofs.Common.{◌≡◌, ◌∙◌, ℕ, zero, suc, sym, ap, subst, refl, inl, Bool, true, false, if◌then◌else◌, ◌==◌, List, [], ◌∷◌, Option, Some, None, IsSome, arith}
use Rattle.std.proofs.lemmas.Bool.Decides.{nat_tests}
use Rattle.std.specs.Option.{option_map, option_and_then}
use Rattle.cli_words.specs.Text.{are_alike}
use Rattle.assembly_name.specs.declared.version.Version.{Version}
use Rattle.assembly_name.specs.Version.{is_at_least}
use Rattle.assembly_image.specs.Module.{Module}
use Rattle.assembly_image.specs.Names.{assembly_name, assembly_version}
use Rattle.assembly_image.specs.Reading.{FileReading}
use Rattle.assembly_image.specs.Reading.FileReading.{Absent, TooLong, Refused as NoImage, Good}
use Rattle.host_events.specs.declared.event.AskStep.{AskStep}
use Rattle.host_events.specs.declared.event.AskStep.TheVariants.{Load, Default, Resolving, Resolve}
use Rattle.host_events.specs.declared.event.Candidate.{Candidate}
use Rattle.host_events.specs.declared.event.Candidate.TheVariants as candidates
use Rattle.host_events.specs.declared.order.CodeOf.{CodeOf}
use Rattle.host_events.specs.declared.outcome.Outcome.{Outcome}
use Rattle.host_events.specs.declared.outcome.Outcome.TheVariants as outcomes
use Rattle.host_events.specs.declared.reply.Reply.{Reply}
use Rattle.host_events.specs.declared.reply.Reply.TheVariants as replies
use Rattle.host_events.specs.Asking.{Asking, refuses}
use Rattle.host_events.specs.Assemblies.{assembly_in}
use Rattle.host_events.specs.Bindings.{platform_version}
use Rattle.host_events.specs.Operations.{begun_operation}
use Rattle.host_events.specs.Task.{Task, give, look, never, pick, if_some, ◌>>=◌}
use Rattle.host_events.specs.TaskLaws.{IsWithin}
use Rattle.bind_flow.specs.declared.turn.Turn.{Turn}
use Rattle.bind_flow.specs.declared.turn.Turn.TheVariants as turns
use Rattle.bind_flow.specs.declared.turn.Wait.{Wait}
use Rattle.bind_flow.specs.declared.turn.Wait.TheVariants as waits
use Rattle.bind_flow.specs.Binds.{Wanted, asked_in_order, if_assembly_serves, if_fits, if_module, if_serves, is_low, publishes, publishes_default, publishes_image, steps_in}
use Rattle.bind_flow.specs.Flow.{world_of}
use Rattle.bind_flow.specs.Images.{World, assembly_version_in, reading_at, version_read}
use Rattle.bind_flow.specs.State.{is_second}
use Rattle.bind_flow.specs.Turns.{IsReady, assembly_served, first_step, image_version, left_of, left_with, module_turn, reading_turn, served, steps_after, turn_after, turn_answered, turn_default, turn_looked_up, turn_published, turn_with, version_told, wait_image}

within-same : {S T E A : Type 0} (task : Task S T E A) → IsWithin task task
within-same task = record { ways = λ before after trace end h. h }

within-given : {S T E A B : Type 0} (task : Task S T E B) (next : A → Task S T E B) (value : A) → IsWithin task (next value) → IsWithin task (give value >>= next)
unfolding ◌>>=◌ look
within-given task next value within = record {
  ways = λ before after trace end h. inl (value, before, [], trace, (refl, refl, refl), within.ways before after trace end h, refl);
}

-- the publications before the next event
abbrev pub second_after : Wait → Bool
second_after waits.Lookup = false
second_after (waits.Ask step) = false
second_after (waits.PublishDefault image) = true
second_after (waits.Publish candidate) = true
second_after (waits.Share a) = true

abbrev pub FitsAfter : Bool → List FileReading → Turn → Type 0
FitsAfter second images (turns.Asks wait) = IsReady images wait × (is_second wait ≡ second)
FitsAfter second images (turns.Found a) = Unit {0}
FitsAfter second images (turns.Refused outcome) = Unit {0}

-- what holds of a turn
pub record Goes (wanted : Wanted) (images : List FileReading) (wait : Wait) (reply : Reply) (code : Option CodeOf) (made : Turn) : Type 0 where
  pub within : (assemblies : ℕ → Option CodeOf) → ((a : ℕ) → assembly_in reply ≡ Some a → code ≡ assemblies a) →
      IsWithin (left_of (world_of assemblies images) wanted made) (left_with (world_of assemblies images) wanted wait reply)
  pub fits : FitsAfter (second_after wait) images made
  pub quiet : begun_operation reply ≡ None

within-served : (world : World) (wanted : Wanted) (turn : Turn) (version : Version) (next : Asking ℕ) → IsWithin (left_of world wanted turn) next →
    IsWithin (left_of world wanted (served wanted turn version)) (if_serves wanted next (Some version))
unfolding if_some pick
within-served world wanted turn version next within = by_test (is_at_least version wanted.version)
  where
    low : Outcome
    low = outcomes.VersionLow wanted.name version

    by_test : (serves : Bool) → IsWithin (left_of world wanted (if serves then turn else turns.Refused low)) (pick serves next (refuses low))
    by_test true = within
    by_test false = within-same (refuses low)

fits-served : (second : Bool) (wanted : Wanted) (images : List FileReading) (turn : Turn) (version : Version) → FitsAfter second images turn →
    FitsAfter second images (served wanted turn version)
fits-served second wanted images turn version fits = by_test (is_at_least version wanted.version)
  where
    by_test : (serves : Bool) → FitsAfter second images (if serves then turn else turns.Refused (outcomes.VersionLow wanted.name version))
    by_test true = fits
    by_test false = tt

version-told : (images : List FileReading) (assemblies : ℕ → Option CodeOf) (a : ℕ) (code : Option CodeOf) → code ≡ assemblies a →
    version_told images a code ≡ assembly_version_in (world_of assemblies images) a
version-told images assemblies zero code same = refl
version-told images assemblies (suc a) code same =
    let no : (suc a == 0) ≡ false = grind (arith, nat_tests) in
    ap (λ b. if b then Some platform_version else option_and_then (λ from. image_version images from.image) code) no
    ∙ ap (option_and_then (λ from. image_version images from.image)) same

within-assembly : (wanted : Wanted) (images : List FileReading) (assemblies : ℕ → Option CodeOf) (turn made : Turn) (a : ℕ) (code : Option CodeOf) (next : Asking ℕ) →
    assembly_served wanted images turn a code ≡ Some made → code ≡ assemblies a → IsWithin (left_of (world_of assemblies images) wanted turn) next →
    IsWithin (left_of (world_of assemblies images) wanted made) (if_assembly_serves (world_of assemblies images) wanted a next)
within-assembly wanted images assemblies turn made a code next is same within =
    subst (λ (o : Option Version). IsWithin (left_of (world_of assemblies images) wanted made) (if_serves wanted next o)) (version-told images assemblies a code same)
    (by_version (version_told images a code) is)
  where
    by_version : (found : Option Version) → option_map (served wanted turn) found ≡ Some made →
        IsWithin (left_of (world_of assemblies images) wanted made) (if_serves wanted next found)
    by_version None is = cc
    by_version (Some version) is =
        let same : served wanted turn version ≡ made = cc in
        subst (λ (t : Turn). IsWithin (left_of (world_of assemblies images) wanted t) (if_serves wanted next (Some version))) same
        (within-served (world_of assemblies images) wanted turn version next within)

fits-assembly : (second : Bool) (wanted : Wanted) (images : List FileReading) (turn made : Turn) (found : Option Version) →
    option_map (served wanted turn) found ≡ Some made → FitsAfter second images turn → FitsAfter second images made
fits-assembly second wanted images turn made None is fits = cc
fits-assembly second wanted images turn made (Some version) is fits =
    let same : served wanted turn version ≡ made = cc in
    subst (λ (t : Turn). FitsAfter second images t) same (fits-served second wanted images turn version fits)

within-module : (world : World) (wanted : Wanted) (turn : Turn) (m : Module) (next : Asking ℕ) → IsWithin (left_of world wanted turn) next →
    IsWithin (left_of world wanted (module_turn wanted turn m)) (if_fits wanted next m)
unfolding pick
within-module world wanted turn m next within = by_test (are_alike (assembly_name m) wanted.name)
  where
    other : Outcome
    other = outcomes.NameMismatch wanted.name

    by_test : (alike : Bool) → IsWithin (left_of world wanted (if alike then served wanted turn (assembly_version m) else turns.Refused other))
        (pick alike (if_serves wanted next (Some (assembly_version m))) (refuses other))
    by_test true = within-served world wanted turn (assembly_version m) next within
    by_test false = within-same (refuses other)

within-reading : (world : World) (wanted : Wanted) (turn : Turn) (reading : FileReading) (next : Asking ℕ) → IsWithin (left_of world wanted turn) next →
    IsWithin (left_of world wanted (reading_turn wanted turn reading)) (if_module (if_fits wanted next) reading)
within-reading world wanted turn Absent next within = within-same _
within-reading world wanted turn TooLong next within = within-same _
within-reading world wanted turn (NoImage failed) next within = within-same _
within-reading world wanted turn (Good m) next within = within-module world wanted turn m next within

within-image : (world : World) (wanted : Wanted) (turn made : Turn) (found : Option FileReading) (next : Asking ℕ) →
    option_map (reading_turn wanted turn) found ≡ Some made → IsWithin (left_of world wanted turn) next →
    IsWithin (left_of world wanted made) (if_some found (if_module (if_fits wanted next)) never)
unfolding if_some
within-image world wanted turn made None next is within = cc
within-image world wanted turn made (Some reading) next is within =
    let same : reading_turn wanted turn reading ≡ made = cc in
    subst (λ (t : Turn). IsWithin (left_of world wanted t) (if_module (if_fits wanted next) reading)) same (within-reading world wanted turn reading next within)

-- where an image is published that a step gave
within-wait_image : (world : World) (wanted : Wanted) (step : AskStep) (image : ℕ) →
    IsWithin (left_of world wanted (turns.Asks (wait_image wanted step image))) (publishes_image world wanted step image)
unfolding pick
within-wait_image world wanted Load image = within-same _
within-wait_image world wanted Resolving image = within-same _
within-wait_image world wanted Resolve image = within-same _
within-wait_image world wanted Default image = by_test (wanted.context == 0)
  where
    by_test : (zeroth : Bool) → IsWithin (left_of world wanted (turns.Asks (if zeroth then waits.Publish (candidates.Image image) else waits.PublishDefault image)))
        (pick zeroth (publishes world wanted (candidates.Image image)) (publishes_default world wanted image))
    by_test true = within-same _
    by_test false = within-same _

-- an image that reads so, if it may be published
fits-wait_image : (wanted : Wanted) (images : List FileReading) (step : AskStep) (image : ℕ) → IsSome (image_version images image) →
    FitsAfter false images (turns.Asks (wait_image wanted step image))
fits-wait_image wanted images Load image good = (good, refl)
fits-wait_image wanted images Resolving image good = (good, refl)
fits-wait_image wanted images Resolve image good = (good, refl)
fits-wait_image wanted images Default image good = by_test (wanted.context == 0)
  where
    by_test : (zeroth : Bool) → FitsAfter false images (turns.Asks (if zeroth then waits.Publish (candidates.Image image) else waits.PublishDefault image))
    by_test true = (good, refl)
    by_test false = (good, refl)

fits-module : (second : Bool) (wanted : Wanted) (images : List FileReading) (turn : Turn) (m : Module) → FitsAfter second images turn →
    FitsAfter second images (module_turn wanted turn m)
fits-module second wanted images turn m fits = by_test (are_alike (assembly_name m) wanted.name)
  where
    by_test : (alike : Bool) → FitsAfter second images (if alike then served wanted turn (assembly_version m) else turns.Refused (outcomes.NameMismatch wanted.name))
    by_test true = fits-served second wanted images turn (assembly_version m) fits
    by_test false = tt

fits-made : (wanted : Wanted) (images : List FileReading) (step : AskStep) (image : ℕ) (reading : FileReading) (made : Turn) →
    option_map (reading_turn wanted (turns.Asks (wait_image wanted step image))) (Some reading) ≡ Some made →
    FitsAfter false images (reading_turn wanted (turns.Asks (wait_image wanted step image)) reading) → FitsAfter false images made
fits-made wanted images step image reading made is fits =
    let same : reading_turn wanted (turns.Asks (wait_image wanted step image)) reading ≡ made = cc in
    subst (λ (t : Turn). FitsAfter false images t) same fits

fits-image : (wanted : Wanted) (images : List FileReading) (step : AskStep) (image : ℕ) (found : Option FileReading) (made : Turn) → reading_at images image ≡ found →
    option_map (reading_turn wanted (turns.Asks (wait_image wanted step image))) found ≡ Some made → FitsAfter false images made
fits-image wanted images step image None made at is = cc
fits-image wanted images step image (Some Absent) made at is = fits-made wanted images step image Absent made is tt
fits-image wanted images step image (Some TooLong) made at is = fits-made wanted images step image TooLong made is tt
fits-image wanted images step image (Some (NoImage failed)) made at is = fits-made wanted images step image (NoImage failed) made is tt
fits-image wanted images step image (Some (Good m)) made at is =
    fits-made wanted images step image (Good m) made is
    (fits-module false wanted images (turns.Asks (wait_image wanted step image)) m
    (fits-wait_image wanted images step image (subst IsSome (sym (ap (option_and_then version_read) at)) refl)))

within-first : (world : World) (wanted : Wanted) →
    IsWithin (left_of world wanted (turns.Asks (waits.Ask (first_step wanted.context)))) (asked_in_order world wanted (steps_in wanted.context))
within-first world wanted = by_test (wanted.context == 0)
  where
    by_test : (zeroth : Bool) → IsWithin (left_of world wanted (turns.Asks (waits.Ask (if zeroth then Default else Load))))
        (asked_in_order world wanted (if zeroth then Default ∷ Resolving ∷ Resolve ∷ [] else Load ∷ Default ∷ Resolving ∷ Resolve ∷ []))
    by_test true = within-same _
    by_test false = within-same _

within-low : (wanted : Wanted) (images : List FileReading) (assemblies : ℕ → Option CodeOf) (made : Turn) (a : ℕ) (code : Option CodeOf) →
    option_map (λ version. turns.Refused (outcomes.VersionLow wanted.name version)) (version_told images a code) ≡ Some made → code ≡ assemblies a →
    IsWithin (left_of (world_of assemblies images) wanted made) (is_low (world_of assemblies images) wanted a)
unfolding if_some
within-low wanted images assemblies made a code is same =
    subst (λ (o : Option Version). IsWithin (left_of (world_of assemblies images) wanted made) (if_some o (λ version. refuses (outcomes.VersionLow wanted.name version)) never))
    (version-told images assemblies a code same) (by_version (version_told images a code) is)
  where
    by_version : (found : Option Version) → option_map (λ version. turns.Refused (outcomes.VersionLow wanted.name version)) found ≡ Some made →
        IsWithin (left_of (world_of assemblies images) wanted made) (if_some found (λ version. refuses (outcomes.VersionLow wanted.name version)) never)
    by_version None is = cc
    by_version (Some version) is =
        let same : turns.Refused (outcomes.VersionLow wanted.name version) ≡ made = cc in
        subst (λ (t : Turn). IsWithin (left_of (world_of assemblies images) wanted t) (refuses (outcomes.VersionLow wanted.name version))) same (within-same _)

fits-low : (wanted : Wanted) (images : List FileReading) (made : Turn) (found : Option Version) →
    option_map (λ version. turns.Refused (outcomes.VersionLow wanted.name version)) found ≡ Some made → FitsAfter false images made
fits-low wanted images made None is = cc
fits-low wanted images made (Some version) is =
    let same : turns.Refused (outcomes.VersionLow wanted.name version) ≡ made = cc in
    subst (λ (t : Turn). FitsAfter false images t) same tt

within-after : (world : World) (wanted : Wanted) (step : AskStep) →
    IsWithin (left_of world wanted (turn_after wanted step)) (asked_in_order world wanted (steps_after step))
within-after world wanted Load = within-same _
within-after world wanted Default = within-same _
within-after world wanted Resolving = within-same _
within-after world wanted Resolve = within-same _

fits-after : (wanted : Wanted) (images : List FileReading) (step : AskStep) → FitsAfter false images (turn_after wanted step)
fits-after wanted images Load = (tt, refl)
fits-after wanted images Default = (tt, refl)
fits-after wanted images Resolving = (tt, refl)
fits-after wanted images Resolve = tt

goes_as : (wanted : Wanted) (images : List FileReading) (wait : Wait) (reply : Reply) (code : Option CodeOf) (turn made : Turn) →
    ◌≡◌ {A = Option Turn} (Some turn) (Some made) → Goes wanted images wait reply code turn → Goes wanted images wait reply code made
goes_as wanted images wait reply code turn made is goes =
    let same : turn ≡ made = cc in subst (λ (t : Turn). Goes wanted images wait reply code t) same goes

goes_looked_up : (wanted : Wanted) (images : List FileReading) (reply : Reply) (code : Option CodeOf) (made : Turn) →
    turn_looked_up wanted images reply code ≡ Some made → Goes wanted images waits.Lookup reply code made
goes_looked_up wanted images replies.Miss code made is =
    goes_as wanted images waits.Lookup replies.Miss code _ made is (record { within = λ assemblies agree. within-first (world_of assemblies images) wanted; fits = (tt, refl); quiet = refl })
goes_looked_up wanted images (replies.Hit a) code made is =
    goes_as wanted images waits.Lookup (replies.Hit a) code _ made is (record { within = λ assemblies agree. within-same _; fits = tt; quiet = refl })
goes_looked_up wanted images (replies.Low a) code made is =
    record { within = λ assemblies agree. within-low wanted images assemblies made a code is (agree a refl); fits = fits-low wanted images made (version_told images a code) is; quiet = refl }
goes_looked_up wanted images reply code made is = cc

goes_answered : (wanted : Wanted) (images : List FileReading) (step : AskStep) (reply : Reply) (code : Option CodeOf) (made : Turn) →
    turn_answered wanted images step reply code ≡ Some made → Goes wanted images (waits.Ask step) reply code made
goes_answered wanted images step (replies.Image i) code made is =
    record { within = λ assemblies agree. within-image (world_of assemblies images) wanted (turns.Asks (wait_image wanted step i)) made (reading_at images i) (publishes_image (world_of assemblies images) wanted step i) is (within-wait_image (world_of assemblies images) wanted step i); fits = fits-image wanted images step i (reading_at images i) made refl is; quiet = refl }
goes_answered wanted images step (replies.Foreign a) code made is =
    record { within = λ assemblies agree. within-assembly wanted images assemblies (turns.Asks (waits.Publish (candidates.Assembly a))) made a code _ is (agree a refl) (within-same _); fits = fits-assembly false wanted images (turns.Asks (waits.Publish (candidates.Assembly a))) made (version_told images a code) is (tt, refl); quiet = refl }
goes_answered wanted images step replies.Nothing code made is =
    goes_as wanted images (waits.Ask step) replies.Nothing code _ made is (record { within = λ assemblies agree. within-after (world_of assemblies images) wanted step; fits = fits-after wanted images step; quiet = refl })
goes_answered wanted images step reply code made is = cc

goes_default : (wanted : Wanted) (images : List FileReading) (image : ℕ) (reply : Reply) (code : Option CodeOf) (made : Turn) →
    turn_default wanted images reply code ≡ Some made → Goes wanted images (waits.PublishDefault image) reply code made
goes_default wanted images image (replies.Lost a) code made is =
    record { within = λ assemblies agree. within-given _ _ a (within-assembly wanted images assemblies (turns.Asks (waits.Share a)) made a code _ is (agree a refl) (within-same _)); fits = fits-assembly true wanted images (turns.Asks (waits.Share a)) made (version_told images a code) is (tt, refl); quiet = refl }
goes_default wanted images image (replies.Bound a) code made is =
    record { within = λ assemblies agree. within-given _ _ a (within-assembly wanted images assemblies (turns.Asks (waits.Share a)) made a code _ is (agree a refl) (within-same _)); fits = fits-assembly true wanted images (turns.Asks (waits.Share a)) made (version_told images a code) is (tt, refl); quiet = refl }
goes_default wanted images image reply code made is = cc

goes_published : (wanted : Wanted) (images : List FileReading) (candidate : Candidate) (reply : Reply) (code : Option CodeOf) (made : Turn) →
    turn_published wanted images reply code ≡ Some made → Goes wanted images (waits.Publish candidate) reply code made
goes_published wanted images candidate (replies.Lost a) code made is =
    record { within = λ assemblies agree. within-assembly wanted images assemblies (turns.Found a) made a code _ is (agree a refl) (within-same _); fits = fits-assembly true wanted images (turns.Found a) made (version_told images a code) is tt; quiet = refl }
goes_published wanted images candidate (replies.NotCollectible a) code made is =
    goes_as wanted images (waits.Publish candidate) (replies.NotCollectible a) code _ made is (record { within = λ assemblies agree. within-same _; fits = tt; quiet = refl })
goes_published wanted images candidate (replies.Shared a) code made is =
    goes_as wanted images (waits.Publish candidate) (replies.Shared a) code _ made is (record { within = λ assemblies agree. within-same _; fits = tt; quiet = refl })
goes_published wanted images candidate (replies.Bound a) code made is =
    goes_as wanted images (waits.Publish candidate) (replies.Bound a) code _ made is (record { within = λ assemblies agree. within-same _; fits = tt; quiet = refl })
goes_published wanted images candidate reply code made is = cc

goes_shared : (wanted : Wanted) (images : List FileReading) (shared : ℕ) (reply : Reply) (code : Option CodeOf) (made : Turn) →
    turn_published wanted images reply code ≡ Some made → Goes wanted images (waits.Share shared) reply code made
goes_shared wanted images shared (replies.Lost a) code made is =
    record { within = λ assemblies agree. within-assembly wanted images assemblies (turns.Found a) made a code _ is (agree a refl) (within-same _); fits = fits-assembly true wanted images (turns.Found a) made (version_told images a code) is tt; quiet = refl }
goes_shared wanted images shared (replies.NotCollectible a) code made is =
    goes_as wanted images (waits.Share shared) (replies.NotCollectible a) code _ made is (record { within = λ assemblies agree. within-same _; fits = tt; quiet = refl })
goes_shared wanted images shared (replies.Shared a) code made is =
    goes_as wanted images (waits.Share shared) (replies.Shared a) code _ made is (record { within = λ assemblies agree. within-same _; fits = tt; quiet = refl })
goes_shared wanted images shared (replies.Bound a) code made is =
    goes_as wanted images (waits.Share shared) (replies.Bound a) code _ made is (record { within = λ assemblies agree. within-same _; fits = tt; quiet = refl })
goes_shared wanted images shared reply code made is = cc

pub goes : (wanted : Wanted) (images : List FileReading) (wait : Wait) (reply : Reply) (code : Option CodeOf) (made : Turn) →
    turn_with wanted images wait reply code ≡ Some made → Goes wanted images wait reply code made
goes wanted images waits.Lookup reply code made is = goes_looked_up wanted images reply code made is
goes wanted images (waits.Ask step) reply code made is = goes_answered wanted images step reply code made is
goes wanted images (waits.PublishDefault image) reply code made is = goes_default wanted images image reply code made is
goes wanted images (waits.Publish candidate) reply code made is = goes_published wanted images candidate reply code made is
goes wanted images (waits.Share shared) reply code made is = goes_shared wanted images shared reply code made is
