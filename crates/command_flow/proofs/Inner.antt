-- What the work within an operation asks for, gives, and is refused with.
use Rattle.std.proofs.Common.{◌≡◌, ◌⊎◌, ◌==◌, ℕ, zero, suc, refl, sym, inl, inr, true, List, [], ◌∷◌, ◌++◌, Option, Some, None}
use Rattle.std.specs.Option.{option_and_then}
use Rattle.cli_words.specs.declared.check.CheckCode.TheVariants as code
use Rattle.cli_words.specs.declared.check.FailedCheck.{FailedCheck}
use Rattle.cli_words.specs.Text.{are_alike}
use Rattle.assembly_name.specs.declared.version.Version.{Version}
use Rattle.assembly_name.specs.Version.{is_at_least}
use Rattle.assembly_image.specs.Module.{Module}
use Rattle.assembly_image.specs.Names.{assembly_name, assembly_version}
use Rattle.assembly_image.specs.Reading.{FileReading, image_limit}
use Rattle.assembly_image.specs.Reading.FileReading.{Absent, TooLong, Refused as NoImage, Good}
use Rattle.host_events.specs.declared.event.AskStep.{AskStep}
use Rattle.host_events.specs.declared.event.AskStep.TheVariants.{Load, Default, Resolving, Resolve}
use Rattle.host_events.specs.declared.event.Candidate.{Candidate}
use Rattle.host_events.specs.declared.event.Candidate.TheVariants as candidates
use Rattle.host_events.specs.declared.event.Event.{Event}
use Rattle.host_events.specs.declared.event.Event.TheVariants as events
use Rattle.host_events.specs.declared.order.CodeOf.{CodeOf}
use Rattle.host_events.specs.declared.outcome.Outcome.{Outcome}
use Rattle.host_events.specs.declared.outcome.Outcome.TheVariants as outcomes
use Rattle.host_events.specs.declared.reply.Reply.{Reply}
use Rattle.host_events.specs.declared.reply.Reply.TheVariants as replies
use Rattle.host_events.specs.Asking.{Asking, asks, refuses}
use Rattle.host_events.specs.Assemblies.{assembly_in}
use Rattle.host_events.specs.Bindings.{platform_version}
use Rattle.host_events.specs.Task.{give, never, ◌>>=◌}
use Rattle.host_events.proofs.Parts.{PartsAt, parts_push}
use Rattle.bind_flow.specs.Binds.{Wanted, answered, asked_in_order, binds, if_assembly_serves, if_fits, if_module, if_serves, image_published, looked_up, published, publishes, publishes_default, publishes_image, steps_in}
use Rattle.bind_flow.specs.Images.{World, assembly_version_in, reading_at, version_read}
use Rattle.command_flow.specs.Run.{loads}
use Rattle.command_flow.specs.State.{is_inner}
use Rattle.command_flow.proofs.Ways.{Fact, Goes, goes-asks, goes-give, goes-if_some, goes-never, goes-pick, goes-refuses, goes-then}

-- a reply of the trace named the assembly
abbrev pub IsNamed : ℕ → Fact
IsNamed a trace = PartsAt (λ (step : Event × Reply). assembly_in step.1 ≡ Some a) trace

-- the image reads as this module
abbrev pub ReadsAs : List FileReading → ℕ → Module → Type 0
ReadsAs images image m = reading_at images image ≡ Some (Good m)

-- what an operation works for: the context that it entered, the names and the versions of which it speaks
pub record Scope : Type 1 where
  pub images : List FileReading
  pub context : ℕ
  pub IsName : List ℕ → Type 0
  pub IsVersion : Version → Type 0

-- an image that reads as a module, or an assembly that a reply named
abbrev pub IsInnerCandidate : Scope → Candidate → Fact
IsInnerCandidate scope (candidates.Image image) trace = (m : Module) × ReadsAs scope.images image m
IsInnerCandidate scope (candidates.Assembly a) trace = IsNamed a trace

-- an event that names only what the work was told of
abbrev pub IsInner : Scope → Event → Fact
IsInner scope (events.New name kind) trace = ⊥
IsInner scope (events.Rule place name answer) trace = ⊥
IsInner scope (events.Enter name) trace = ⊥
IsInner scope (events.EnterHandle handle) trace = ⊥
IsInner scope (events.Lookup context name version) trace = (context ≡ scope.context) × scope.IsName name × scope.IsVersion version
IsInner scope (events.Ask step context name) trace = (context ≡ scope.context) × scope.IsName name
IsInner scope (events.Publish context name candidate) trace =
    ((context ≡ 0) ⊎ (context ≡ scope.context)) × scope.IsName name × IsInnerCandidate scope candidate trace
IsInner scope (events.Place user key) trace = ⊥
IsInner scope (events.LoadStatic key field kind) trace = ⊥
IsInner scope (events.StoreStatic key field value) trace = ⊥
IsInner scope (events.Hold handle assembly method) trace = ⊥
IsInner scope (events.DropHandle handle) trace = ⊥
IsInner scope (events.Weak handle name) trace = ⊥
IsInner scope (events.Alive handle) trace = ⊥
IsInner scope (events.Unload name) trace = ⊥
IsInner scope events.Collect trace = ⊥
IsInner scope (events.Leave operation) trace = ⊥

-- the version of the platform, or of an image
abbrev pub IsKnownVersion : List FileReading → Version → Type 0
IsKnownVersion images version =
    (version ≡ platform_version) ⊎ ((image : ℕ) × (m : Module) × ReadsAs images image m × (version ≡ assembly_version m))

-- why a file is no image
abbrev pub IsBad : List FileReading → FailedCheck → Type 0
IsBad images failed =
    (failed ≡ record { code = code.Absent; at = 0 }) ⊎ ((failed ≡ record { code = code.TooLong; at = image_limit })
    ⊎ ((image : ℕ) × (reading_at images image ≡ Some (NoImage failed))))

-- why the work was refused
abbrev pub IsInnerRefusal : Scope → Outcome → Fact
IsInnerRefusal scope (outcomes.NotFound name) trace = scope.IsName name
IsInnerRefusal scope (outcomes.VersionLow name version) trace = scope.IsName name × IsKnownVersion scope.images version
IsInnerRefusal scope (outcomes.BadImage failed) trace = IsBad scope.images failed
IsInnerRefusal scope (outcomes.NameMismatch name) trace = scope.IsName name
IsInnerRefusal scope (outcomes.NotCollectible a) trace = IsNamed a trace
IsInnerRefusal scope _ trace = ⊥

pub inner_is : (scope : Scope) (event : Event) (trace : List (Event × Reply)) → IsInner scope event trace → is_inner event ≡ true
inner_is scope (events.Lookup context name version) trace inner = refl
inner_is scope (events.Ask step context name) trace inner = refl
inner_is scope (events.Publish context name candidate) trace inner = refl
inner_is scope event trace inner = absurd inner

-- a task within an operation that keeps to what its work was told of, once this holds, and gives a value of which that does
abbrev pub Works : {A : Type 0} → Scope → Fact → Asking A → (A → Fact) → Type 0
Works scope Before task Gives = Goes Before task Gives (IsInnerRefusal scope) (IsInner scope)

-- what the version of an assembly can be
known_version : (world : World) (a : ℕ) (version : Version) → assembly_version_in world a ≡ Some version → IsKnownVersion world.images version
known_version world zero version is = inl (let same : platform_version ≡ version = cc in sym same)
known_version world (suc a) version is = at (world.assemblies (suc a)) is
  where
    of_reading : (image : ℕ) (found : Option FileReading) → reading_at world.images image ≡ found → option_and_then version_read found ≡ Some version →
        IsKnownVersion world.images version
    of_reading image (Some (Good m)) reads is = inr (image, m, reads, (let same : assembly_version m ≡ version = cc in sym same))
    of_reading image (Some Absent) reads is = cc
    of_reading image (Some TooLong) reads is = cc
    of_reading image (Some (NoImage failed)) reads is = cc
    of_reading image None reads is = cc

    at : (found : Option CodeOf) → option_and_then (λ (code : CodeOf). option_and_then version_read (reading_at world.images code.image)) found ≡ Some version →
        IsKnownVersion world.images version
    at (Some code) is = of_reading code.image (reading_at world.images code.image) refl is
    at None is = cc

-- the reply of the last step named each assembly that it names
names_last : (front : List (Event × Reply)) (event : Event) (reply : Reply) (a : ℕ) → assembly_in reply ≡ Some a → IsNamed a (front ++ (event, reply) ∷ [])
names_last front event reply a is = parts_push (λ (step : Event × Reply). assembly_in step.1 ≡ Some a) front (event, reply) is

-- the trace names what the reply names
abbrev Told : Reply → Fact
Told reply trace = (a : ℕ) → assembly_in reply ≡ Some a → IsNamed a trace

module _ (scope : Scope) where
  works-asks : {A : Type 0} (Before : Fact) (Gives : A → Fact) (event : Event) (next : Reply → Asking A) →
      ((front : List (Event × Reply)) → Before front → IsInner scope event front) →
      ((reply : Reply) → Works scope (Told reply) (next reply) Gives) → Works scope Before (asks event >>= next) Gives
  works-asks Before Gives event next due rest =
      goes-then (IsInnerRefusal scope) (IsInner scope) Before Told Gives (asks event) next
      (goes-asks (IsInnerRefusal scope) (IsInner scope) Before Told event due (λ front reply before a is. names_last front event reply a is))
      rest

  works-never : {A : Type 0} (Before : Fact) (Gives : A → Fact) → Works {A = A} scope Before never Gives
  works-never Before Gives = goes-never (IsInnerRefusal scope) (IsInner scope) Before Gives

  works-give : (Before : Fact) (a : ℕ) → ((front : List (Event × Reply)) → Before front → IsNamed a front) → Works scope Before (give a) IsNamed
  works-give Before a h = goes-give (IsInnerRefusal scope) (IsInner scope) Before IsNamed a h

  works-refuses : {A : Type 0} (Before : Fact) (Gives : A → Fact) (outcome : Outcome) →
      ((front : List (Event × Reply)) → Before front → IsInnerRefusal scope outcome front) → Works {A = A} scope Before (refuses outcome) Gives
  works-refuses Before Gives outcome h = goes-refuses (IsInnerRefusal scope) (IsInner scope) Before Gives outcome h

  works-image_published : (reply : Reply) → Works scope (Told reply) (image_published reply) IsNamed
  works-image_published (replies.Bound a) = works-give (Told (replies.Bound a)) a (λ front told. told a refl)
  works-image_published (replies.Lost a) = works-give (Told (replies.Lost a)) a (λ front told. told a refl)
  works-image_published reply = works-never (Told reply) IsNamed

  works-module : (Before : Fact) (image : ℕ) (next : Module → Asking ℕ) (reading : FileReading) → reading_at scope.images image ≡ Some reading →
      ((m : Module) → ReadsAs scope.images image m → Works scope Before (next m) IsNamed) → Works scope Before (if_module next reading) IsNamed
  works-module Before image next Absent reads h = works-refuses Before IsNamed _ (λ front before. inl refl)
  works-module Before image next TooLong reads h = works-refuses Before IsNamed _ (λ front before. inr (inl refl))
  works-module Before image next (NoImage failed) reads h = works-refuses Before IsNamed (outcomes.BadImage failed) (λ front before. inr (inr (image, reads)))
  works-module Before image next (Good m) reads h = h m reads

-- what a bind is told of
abbrev pub bind_scope : List FileReading → Wanted → Scope
bind_scope images wanted = record {
  images = images;
  context = wanted.context;
  IsName = λ name. name ≡ wanted.name;
  IsVersion = λ version. version ≡ wanted.version;
}

module _ (world : World) (wanted : Wanted) where
  abbrev scope : Scope
  scope = bind_scope world.images wanted

  works-if_serves : (Before : Fact) (next : Asking ℕ) (found : Option Version) →
      ((version : Version) → found ≡ Some version → IsKnownVersion world.images version) →
      Works scope Before next IsNamed → Works scope Before (if_serves wanted next found) IsNamed
  works-if_serves Before next found known h =
      goes-if_some (IsInnerRefusal scope) (IsInner scope) Before IsNamed found _
      (λ version is. goes-pick (IsInnerRefusal scope) (IsInner scope) Before IsNamed (is_at_least version wanted.version) next _ (λ serves. h)
      (λ low. works-refuses scope Before IsNamed (outcomes.VersionLow wanted.name version) (λ front before. (refl, known version is))))

  works-published : (reply : Reply) → Works scope (Told reply) (published world wanted reply) IsNamed
  works-published (replies.Bound a) = works-give scope (Told (replies.Bound a)) a (λ front told. told a refl)
  works-published (replies.Shared a) = works-give scope (Told (replies.Shared a)) a (λ front told. told a refl)
  works-published (replies.Lost a) =
      works-if_serves (Told (replies.Lost a)) (give a) (assembly_version_in world a) (known_version world a) (works-give scope (Told (replies.Lost a)) a (λ front told. told a refl))
  works-published (replies.NotCollectible a) =
      works-refuses scope (Told (replies.NotCollectible a)) IsNamed (outcomes.NotCollectible a) (λ front told. told a refl)
  works-published reply = works-never scope (Told reply) IsNamed

  works-publishes : (Before : Fact) (candidate : Candidate) → ((front : List (Event × Reply)) → Before front → IsInnerCandidate scope candidate front) →
      Works scope Before (publishes world wanted candidate) IsNamed
  works-publishes Before candidate h =
      works-asks scope Before IsNamed (events.Publish wanted.context wanted.name candidate) (published world wanted)
      (λ front before. (inr refl, refl, h front before)) works-published

  works-assembly : (Before : Fact) (a : ℕ) → ((front : List (Event × Reply)) → Before front → IsNamed a front) →
      Works scope Before (if_assembly_serves world wanted a (publishes world wanted (candidates.Assembly a))) IsNamed
  works-assembly Before a h =
      works-if_serves Before (publishes world wanted (candidates.Assembly a)) (assembly_version_in world a) (known_version world a)
      (works-publishes Before (candidates.Assembly a) h)

  works-default : (Before : Fact) (image : ℕ) → ((m : Module) × ReadsAs world.images image m) →
      Works scope Before (publishes_default world wanted image) IsNamed
  works-default Before image good =
      works-asks scope Before IsNamed (events.Publish 0 wanted.name (candidates.Image image)) _ (λ front before. (inl refl, refl, good))
      (λ reply. goes-then (IsInnerRefusal scope) (IsInner scope) (Told reply) IsNamed IsNamed (image_published reply) _ (works-image_published scope reply)
      (λ a. works-assembly (IsNamed a) a (λ front named. named)))

  works-image : (Before : Fact) (step : AskStep) (image : ℕ) → ((m : Module) × ReadsAs world.images image m) →
      Works scope Before (publishes_image world wanted step image) IsNamed
  works-image Before Load image good = works-publishes Before (candidates.Image image) (λ front before. good)
  works-image Before Resolving image good = works-publishes Before (candidates.Image image) (λ front before. good)
  works-image Before Resolve image good = works-publishes Before (candidates.Image image) (λ front before. good)
  works-image Before Default image good =
      goes-pick (IsInnerRefusal scope) (IsInner scope) Before IsNamed (wanted.context == 0) (publishes world wanted (candidates.Image image)) (publishes_default world wanted image)
      (λ zeroth. works-publishes Before (candidates.Image image) (λ front before. good)) (λ other. works-default Before image good)

  works-fits : (Before : Fact) (image : ℕ) (next : Asking ℕ) (m : Module) → ReadsAs world.images image m → Works scope Before next IsNamed →
      Works scope Before (if_fits wanted next m) IsNamed
  works-fits Before image next m reads h =
      goes-pick (IsInnerRefusal scope) (IsInner scope) Before IsNamed (are_alike (assembly_name m) wanted.name) _ _
      (λ alike. works-if_serves Before next (Some (assembly_version m))
      (λ version is. inr (image, m, reads, (let same : assembly_version m ≡ version = cc in sym same))) h)
      (λ other. works-refuses scope Before IsNamed (outcomes.NameMismatch wanted.name) (λ front before. refl))

  works-answered : (step : AskStep) (later : Asking ℕ) (reply : Reply) → ((Before : Fact) → Works scope Before later IsNamed) →
      Works scope (Told reply) (answered world wanted step later reply) IsNamed
  works-answered step later replies.Nothing l = l (Told replies.Nothing)
  works-answered step later (replies.Image i) l =
      goes-if_some (IsInnerRefusal scope) (IsInner scope) (Told (replies.Image i)) IsNamed (reading_at world.images i) _
      (λ reading reads. works-module scope (Told (replies.Image i)) i (if_fits wanted (publishes_image world wanted step i)) reading reads
      (λ m good. works-fits (Told (replies.Image i)) i (publishes_image world wanted step i) m good (works-image (Told (replies.Image i)) step i (m, good))))
  works-answered step later (replies.Foreign a) l = works-assembly (Told (replies.Foreign a)) a (λ front told. told a refl)
  works-answered step later reply l = works-never scope (Told reply) IsNamed

  works-asked : (steps : List AskStep) (Before : Fact) → Works scope Before (asked_in_order world wanted steps) IsNamed
  works-asked [] Before = works-refuses scope Before IsNamed (outcomes.NotFound wanted.name) (λ front before. refl)
  works-asked (step ∷ steps) Before =
      works-asks scope Before IsNamed (events.Ask step wanted.context wanted.name) _ (λ front before. (refl, refl))
      (λ reply. works-answered step (asked_in_order world wanted steps) reply (works-asked steps))

  works-looked_up : (reply : Reply) → Works scope (Told reply) (looked_up world wanted reply) IsNamed
  works-looked_up replies.Miss = works-asked (steps_in wanted.context) (Told replies.Miss)
  works-looked_up (replies.Hit a) = works-give scope (Told (replies.Hit a)) a (λ front told. told a refl)
  works-looked_up (replies.Low a) =
      goes-if_some (IsInnerRefusal scope) (IsInner scope) (Told (replies.Low a)) IsNamed (assembly_version_in world a) _
      (λ version is. works-refuses scope (Told (replies.Low a)) IsNamed (outcomes.VersionLow wanted.name version) (λ front told. (refl, known_version world a version is)))
  works-looked_up reply = works-never scope (Told reply) IsNamed

  -- a bind keeps to what it was told of
  pub works-binds : (Before : Fact) → Works (bind_scope world.images wanted) Before (binds world wanted) IsNamed
  unfolding binds
  works-binds Before =
      works-asks scope Before IsNamed (events.Lookup wanted.context wanted.name wanted.version) (looked_up world wanted) (λ front before. (refl, refl, refl)) works-looked_up

-- what a load is told of: its image's own name
abbrev pub load_scope : List FileReading → ℕ → ℕ → Scope
load_scope images image c = record {
  images = images;
  context = c;
  IsName = λ name. (m : Module) × ReadsAs images image m × (name ≡ assembly_name m);
  IsVersion = λ version. ⊥;
}

-- a load keeps to what it was told of
pub works-loads : (world : World) (image c : ℕ) (Before : Fact) → Works (load_scope world.images image c) Before (loads world image c) IsNamed
works-loads world image c Before =
    let scope = load_scope world.images image c in
    goes-if_some (IsInnerRefusal scope) (IsInner scope) Before IsNamed (reading_at world.images image) _
    (λ reading reads. works-module scope Before image _ reading reads
    (λ m good. works-asks scope Before IsNamed (events.Publish c (assembly_name m) (candidates.Image image)) image_published
    (λ front before. (inr refl, (m, good, refl), (m, good))) (works-image_published scope)))
