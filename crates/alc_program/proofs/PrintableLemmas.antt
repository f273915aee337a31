-- The ends and the journal of a good journal of an accepted script are such as a report can tell.
use Rattle.std.proofs.Common.{◌≡◌, ◌⊎◌, ℕ, zero, suc, ◌+◌, ◌-◌, ◌<◌, ◌≤◌, ◌^◌, Bool, true, false, cond, eqb, List, [], ◌∷◌, ◌++◌, length, map, Option, Some, None, Ok, refl, sym, ap, subst, ◌∙◌, inl, inr, append_assoc, arith}
use Rattle.std.specs.Prelude.{IsTrue}
use Rattle.std.specs.List.{AllByRecursion, Contains, filter, slice_get}
use Rattle.std.specs.Option.{option_map_or}
use Rattle.std.proofs.lemmas.Bool.{cases_lt, eqb-true}
use Rattle.std.proofs.lemmas.List.{length-map}
use Rattle.cli_words.specs.declared.check.FailedCheck.{FailedCheck}
use Rattle.cli_words.specs.Text.{AreUnits}
use Rattle.assembly_image.specs.Module.{Module}
use Rattle.assembly_image.specs.Reading.{FileReading}
use Rattle.assembly_image.specs.Reading.FileReading.{Refused as NoImage, Good}
use Rattle.assembly_name.specs.declared.version.Version.{Version}
use Rattle.bind_flow.specs.Flow.{world_of}
use Rattle.bind_flow.specs.Images.{reading_at, version_read, versions_of}
use Rattle.host_core.specs.Allowed.{used_events}
use Rattle.host_core.specs.Bounds.{part_of}
use Rattle.host_core.proofs.Shares.{events-le as entries-le}
use Rattle.host_core.proofs.Used.{used_events-own}
use Rattle.host_events.specs.declared.event.Candidate.TheVariants as candidates
use Rattle.host_events.specs.declared.event.Event.{Event}
use Rattle.host_events.specs.declared.event.Event.TheVariants as events
use Rattle.host_events.specs.declared.journal.Entry.{Entry}
use Rattle.host_events.specs.declared.order.CodeOf.{CodeOf}
use Rattle.host_events.specs.declared.outcome.CommandEnd.{CommandEnd}
use Rattle.host_events.specs.declared.outcome.Outcome.{Outcome}
use Rattle.host_events.specs.declared.outcome.Outcome.TheVariants as outcomes
use Rattle.host_events.specs.declared.reply.Reply.{Reply}
use Rattle.host_events.specs.declared.reply.Reply.TheVariants as replies
use Rattle.host_events.specs.Assemblies.{assembly_in, assembly_of, code_published}
use Rattle.host_events.specs.Images.{IsOfImages, KnowsImages}
use Rattle.host_events.specs.Journal.{IsProper, own_entries}
use Rattle.host_report.specs.Fields.{AreFields}
use Rattle.host_report.specs.Printable.{IsPrintable, IsPrintableCommand, IsPrintableEntry, IsPrintableEvent, IsPrintableOutcome, IsPrintableReply, ends_command}
use Rattle.host_report.specs.Table.{answer_fields, kind_fields}
use Rattle.host_script.specs.declared.command.Command.{Command}
use Rattle.host_script.specs.declared.command.Command.TheVariants as commands
use Rattle.host_script.specs.declared.command.CommandLine.{CommandLine}
use Rattle.host_script.specs.declared.command.ScriptAnswer.{ScriptAnswer}
use Rattle.host_script.specs.declared.command.ScriptAnswer.TheVariants as answers
use Rattle.host_script.specs.declared.script.Script.{Script}
use Rattle.host_script.specs.Laws.{IsSmall}
use Rattle.host_script.specs.Worded.{AreWorded, IsWorded, IsWordedAnswer, IsWordedVersion}
use Rattle.host_script.proofs.SmallLemmas.{accepted_is_small_each}
use Rattle.host_script.proofs.WordedLemmas.{accepted_is_worded_each}
use Rattle.host_threads.specs.Turns.{IsThread}
use Rattle.command_flow.specs.Events.{answer_of, event_of, kind_of}
use Rattle.command_flow.proofs.Counts.{most_of}
use Rattle.command_flow.proofs.Fits.{due_events_fit_each}
use Rattle.command_flow.proofs.Inner.{IsBad, IsInner, IsInnerRefusal, IsKnownVersion, IsNamed, Scope}
use Rattle.command_flow.proofs.Places.{IsAt, IsEndOf, IsOpened, IsOutcome, due_at, ends_at, first_event, scope_context, scope_of}
use Rattle.alc_program.specs.Good.{IsGood, commands_of}
use Rattle.alc_program.specs.Images.{files_of}
use Rattle.alc_program.specs.Laws.{GoodIsPrintable}
use Rattle.alc_program.specs.Shares.{share_for}
use Rattle.alc_program.proofs.DriveLemmas.{events-lines, image_at, lines_contain, version_good}
use Rattle.alc_program.proofs.FilesLemmas.{are_numbered}
use Rattle.alc_program.proofs.ImageLemmas.{IsToldReading, images_told}
use Rattle.alc_program.proofs.OneRun.{good_is_proper_each, lines_of, was_due}
use Rattle.alc_program.proofs.RunLemmas.{can_sum, share_at}
use Rattle.alc_program.proofs.TellingLemmas.{AreTold, IsTold, all-front, replies_are_told}

of_some : {X : Type 0} {x y : X} → Some x ≡ Some y → x ≡ y
of_some is = cc

-- the event of a worded command
kind_prints : (fixed : Bool) → AreFields (kind_fields (kind_of fixed))
kind_prints true = (tt, tt)
kind_prints false = tt

answer_prints : (images : ℕ) (answer : ScriptAnswer) → images ≤ 256 → IsWordedAnswer images answer → AreFields (answer_fields (answer_of answer))
answer_prints images (answers.Image image) few worded = (tt, (omega (arith, few, worded.1), tt))
answer_prints images (answers.Share context) few worded = (tt, (worded, tt))
answer_prints images answers.Nothing few worded = (tt, tt)

event_prints : (images : ℕ) (command : Command) (event : Event) → images ≤ 256 → IsWorded images command → event_of command ≡ Some event → IsPrintableEvent event
event_prints images (commands.New context fixed) event few worded is =
    subst IsPrintableEvent (of_some is) ((tt, (worded, kind_prints fixed)), tt)
event_prints images (commands.On context name answer) event few worded is =
    subst IsPrintableEvent (of_some is) ((tt, (worded.0, (worded.1, answer_prints images answer few worded.2))), tt)
event_prints images (commands.Resolving context name answer) event few worded is =
    subst IsPrintableEvent (of_some is) ((tt, (worded.0, (worded.1, answer_prints images answer few worded.2))), tt)
event_prints images (commands.Resolve name answer) event few worded is =
    subst IsPrintableEvent (of_some is) ((tt, (worded.0, answer_prints images answer few worded.1)), tt)
event_prints images (commands.Load context image) event few worded is = cc
event_prints images (commands.Bind context name version) event few worded is = cc
event_prints images (commands.Call context name type_name method args) event few worded is = cc
event_prints images (commands.Hold handle context name type_name method) event few worded is = cc
event_prints images (commands.Invoke handle args) event few worded is = cc
event_prints images (commands.DropHandle handle) event few worded is = cc
event_prints images (commands.Weak handle context) event few worded is =
    subst IsPrintableEvent (of_some is) ((tt, (worded.0, (worded.1, tt))), tt)
event_prints images (commands.Alive handle) event few worded is = subst IsPrintableEvent (of_some is) ((tt, (worded, tt)), tt)
event_prints images (commands.Unload context) event few worded is = subst IsPrintableEvent (of_some is) ((tt, (worded, tt)), tt)
event_prints images commands.Collect event few worded is = subst IsPrintableEvent (of_some is) ((tt, tt), tt)

-- what holds of each element, by the place where a list is parted, and by its index
by_parts : {X : Type 0} (P : X → Type 0) (xs : List X) →
    ((before : List X) (x : X) (after : List X) → xs ≡ before ++ x ∷ after → P x) → AllByRecursion P xs
by_parts P [] each = tt
by_parts P (x ∷ xs) each =
    (each [] x xs refl, by_parts P xs (λ before y after parts. each (x ∷ before) y after (ap (λ ys. x ∷ ys) parts)))

by_index : {X : Type 0} (P : X → Type 0) (xs : List X) → ((i : ℕ) (x : X) → slice_get xs i ≡ Some x → P x) → AllByRecursion P xs
by_index P [] each = tt
by_index P (x ∷ xs) each = (each 0 x refl, by_index P xs (λ i y found. each (suc i) y found))

-- what holds of each element holds of the one at a place, or of nothing where there is none
at_index : {X : Type 0} (P : List X → Type 0) → P [] → (xs : List (List X)) → AllByRecursion P xs → (i : ℕ) →
    P (option_map_or (λ x. x) (slice_get xs i) [])
at_index P none [] all i = none
at_index P none (x ∷ xs) all zero = all.0
at_index P none (x ∷ xs) all (suc i) = at_index P none xs all.1 i

at_parts : {X : Type 0} (P : X → Type 0) (before : List X) (x : X) (after : List X) → AllByRecursion P (before ++ x ∷ after) → P x
at_parts P [] x after all = all.0
at_parts P (y ∷ before) x after all = at_parts P before x after all.1

-- the replies of a trace are told
abbrev Told : List (Event × Reply) → Type 0
Told trace = AllByRecursion (λ step. IsTold step.0 step.1) trace

all-back : {X : Type 0} (P : X → Type 0) (xs ys : List X) → AllByRecursion P (xs ++ ys) → AllByRecursion P ys
all-back P [] ys all = all
all-back P (x ∷ xs) ys all = all-back P xs ys all.1

-- the number of an assembly that a reply names
reply_number : (reply : Reply) (a : ℕ) → IsPrintableReply reply → assembly_in reply ≡ Some a → a < 2 ^ 32
reply_number (replies.EnteredAt k c b m) a prints is = subst (λ (n : ℕ). n < 2 ^ 32) (of_some is) prints.0.1.0.1.1.0
reply_number (replies.Hit b) a prints is = subst (λ (n : ℕ). n < 2 ^ 32) (of_some is) prints.0.1.0.0
reply_number (replies.Low b) a prints is = subst (λ (n : ℕ). n < 2 ^ 32) (of_some is) prints.0.1.0.0
reply_number (replies.Foreign b) a prints is = subst (λ (n : ℕ). n < 2 ^ 32) (of_some is) prints.0.1.0.0
reply_number (replies.Lost b) a prints is = subst (λ (n : ℕ). n < 2 ^ 32) (of_some is) prints.0.1.0.0
reply_number (replies.NotCollectible b) a prints is = subst (λ (n : ℕ). n < 2 ^ 32) (of_some is) prints.0.1.0.0
reply_number (replies.Shared b) a prints is = subst (λ (n : ℕ). n < 2 ^ 32) (of_some is) prints.0.1.0.0
reply_number (replies.Bound b) a prints is = subst (λ (n : ℕ). n < 2 ^ 32) (of_some is) prints.0.1.0.0
reply_number reply a prints is = cc is

assembly_number : (a : ℕ) (trace : List (Event × Reply)) → Told trace → IsNamed a trace → a < 2 ^ 32
assembly_number a trace told named =
    reply_number named.here.1 a
    (at_parts (λ (step : Event × Reply). IsTold step.0 step.1) named.before named.here named.after (subst Told named.parted told)).0 named.holds

-- the numbers of the operation that is open, and of its context
opened_numbers : (k c : ℕ) (trace : List (Event × Reply)) → Told trace → IsOpened k c trace → (k < 2 ^ 32) × (c < 2 ^ 32)
opened_numbers k c trace told opened =
    let entered : List (Event × Reply) = (events.Enter opened.name, replies.Entered k c) ∷ [] in
    let there = (at_parts (λ (step : Event × Reply). IsTold step.0 step.1) opened.front (events.Enter opened.name, replies.Entered k c) opened.inner
    (subst Told (opened.parted ∙ append_assoc opened.front entered opened.inner) told)).0 in
    (there.0.1.0.0, there.0.1.0.1.0)

opened_told : (k c : ℕ) (trace : List (Event × Reply)) → Told trace → (opened : IsOpened k c trace) → Told opened.inner
opened_told k c trace told opened =
    all-back (λ (step : Event × Reply). IsTold step.0 step.1) (opened.front ++ (events.Enter opened.name, replies.Entered k c) ∷ []) opened.inner
    (subst Told opened.parted told)

-- the event by which a worded command begins
first_prints : (images : ℕ) (command : Command) (event : Event) → images ≤ 256 → IsWorded images command → first_event command ≡ Some event → IsPrintableEvent event
first_prints images (commands.Load context image) event few worded is = subst IsPrintableEvent (of_some is) ((tt, (worded.0, tt)), tt)
first_prints images (commands.Bind context name version) event few worded is = subst IsPrintableEvent (of_some is) ((tt, (worded.0, tt)), tt)
first_prints images command event few worded is = event_prints images command event few worded is

-- what can be told of a bind or a load: its names and its versions
pub record IsToldScope (scope : Scope) : Type 0 where
  pub names : (name : List ℕ) → scope.IsName name → AreUnits name
  pub versions : (version : Version) → scope.IsVersion version → IsWordedVersion version

reading_told : (images : List FileReading) (image : ℕ) (reading : FileReading) → AllByRecursion IsToldReading images → reading_at images image ≡ Some reading →
    IsToldReading reading
reading_told images zero reading told reads = cc reads
reading_told images (suc image) reading told reads = at images image told reads
  where
    at : (rs : List FileReading) (i : ℕ) → AllByRecursion IsToldReading rs → slice_get rs i ≡ Some reading → IsToldReading reading
    at [] i told reads = cc reads
    at (r ∷ rs) zero told reads = subst IsToldReading (of_some reads) told.0
    at (r ∷ rs) (suc i) told reads = at rs i told.1 reads

scope_told : (images : List FileReading) (count : ℕ) (command : Command) (c : ℕ) → AllByRecursion IsToldReading images → IsWorded count command →
    IsToldScope (scope_of images command c)
scope_told images count (commands.Load context image) c told worded = record {
  names = λ name named. subst AreUnits (sym named.2) (reading_told images image (Good named.0) told named.1).0;
  versions = λ version is. absurd is;
}
scope_told images count (commands.Bind context name version) c told worded = record {
  names = λ other is. subst AreUnits (sym is) worded.1;
  versions = λ other is. subst IsWordedVersion (sym is) worded.2;
}
scope_told images count command c told worded = record { names = λ name is. absurd is; versions = λ version is. absurd is }

image_within : (images : List FileReading) (image : ℕ) (reading : FileReading) → reading_at images image ≡ Some reading → image ≤ length images
image_within images zero reading reads = cc reads
image_within images (suc image) reading reads = at images image reads
  where
    at : (rs : List FileReading) (i : ℕ) → slice_get rs i ≡ Some reading → suc i ≤ length rs
    at [] i reads = cc reads
    at (r ∷ rs) zero reads = omega arith
    at (r ∷ rs) (suc i) reads = let below = at rs i reads in omega (arith, below)

scope_images : (images : List FileReading) (command : Command) (c : ℕ) → (scope_of images command c).images ≡ images
scope_images images (commands.Load context image) c = refl
scope_images images (commands.Bind context name version) c = refl
scope_images images command c = refl

module _ (images : List FileReading) (few : length images ≤ 256) (told_images : AllByRecursion IsToldReading images) where
  -- an event within an operation
  inner_prints : (scope : Scope) → scope.images ≡ images → scope.context < 2 ^ 32 → IsToldScope scope → (event : Event) (inner : List (Event × Reply)) → Told inner →
      IsInner scope event inner → IsPrintableEvent event
  inner_prints scope same number told (events.Lookup context name version) inner tells is =
      ((tt, (omega (arith, number, is.0), (told.names name is.1, (told.versions version is.2, tt)))), tt)
  inner_prints scope same number told (events.Ask step context name) inner tells is =
      ((tt, (tt, (omega (arith, number, is.0), (told.names name is.1, tt)))), tt)
  inner_prints scope same number told (events.Publish context name (candidates.Image image)) inner tells is =
      let within = image_within scope.images image (Good is.2.0) is.2.1 in
      ((tt, (below is.0, (told.names name is.1, (tt, (omega (arith, within, ap length same, few), tt))))), tt)
    where
      below : (context ≡ 0) ⊎ (context ≡ scope.context) → context < 2 ^ 32
      below (inl zeroth) = omega (arith, zeroth)
      below (inr same) = omega (arith, same, number)
  inner_prints scope same number told (events.Publish context name (candidates.Assembly a)) inner tells is =
      ((tt, (below is.0, (told.names name is.1, (tt, (assembly_number a inner tells is.2, tt))))), tt)
    where
      below : (context ≡ 0) ⊎ (context ≡ scope.context) → context < 2 ^ 32
      below (inl zeroth) = omega (arith, zeroth)
      below (inr same) = omega (arith, same, number)
  inner_prints scope same number told event inner tells is = absurd is

  module _ (lines : List CommandLine) (worded : AreWorded (length images) lines) where
    worded_command : (command : Command) → Contains (commands_of lines) command → IsWorded (length images) command
    worded_command command has = lines_contain (IsWorded (length images)) lines command worded has

    -- what is due after a told trace
    at_prints : (event : Event) (trace : List (Event × Reply)) → Told trace → IsAt images (commands_of lines) event trace → IsPrintableEvent event
    at_prints event trace told (IsAt.is_first command has first whole) = first_prints (length images) command event few (worded_command command has) first
    at_prints event trace told (IsAt.is_within command k c has opened inner) =
        let number : (scope_of images command c).context < 2 ^ 32 = omega (arith, scope_context images command c, (opened_numbers k c trace told opened).1) in
        inner_prints (scope_of images command c) (scope_images images command c) number (scope_told images (length images) command c told_images (worded_command command has))
        event opened.inner (opened_told k c trace told opened) inner
    at_prints event trace told (IsAt.is_last k c opened is) = subst IsPrintableEvent (sym is) ((tt, ((opened_numbers k c trace told opened).0, tt)), tt)

    -- the version of which a refusal tells
    version_prints : (version : Version) → IsKnownVersion images version → IsWordedVersion version
    version_prints version (inl platform) =
        subst IsWordedVersion (sym platform) (omega arith, omega arith, omega arith, omega arith)
    version_prints version (inr (image, m, reads, is)) = subst IsWordedVersion (sym is) (reading_told images image (Good m) told_images reads).1

    bad_prints : (failed : FailedCheck) → IsBad images failed → failed.at < 2 ^ 32
    bad_prints failed (inl absent) = let at = ap (λ (f : FailedCheck). f.at) absent in omega (arith, at)
    bad_prints failed (inr (inl long)) = let at = ap (λ (f : FailedCheck). f.at) long in omega (arith, at)
    bad_prints failed (inr (inr (image, reads))) = reading_told images image (NoImage failed) told_images reads

    refusal_prints : (scope : Scope) → scope.images ≡ images → IsToldScope scope → (outcome : Outcome) (trace : List (Event × Reply)) → Told trace →
        IsInnerRefusal scope outcome trace → IsPrintableOutcome outcome
    refusal_prints scope same told (outcomes.NotFound name) trace tells refused = ((tt, (told.names name refused, tt)), tt)
    refusal_prints scope same told (outcomes.VersionLow name version) trace tells refused =
        ((tt, (told.names name refused.0, (version_prints version (subst (λ (is : List FileReading). IsKnownVersion is version) same refused.1), tt))), tt)
    refusal_prints scope same told (outcomes.BadImage failed) trace tells refused =
        ((tt, (tt, (bad_prints failed (subst (λ (is : List FileReading). IsBad is failed) same refused), tt))), tt)
    refusal_prints scope same told (outcomes.NameMismatch name) trace tells refused = ((tt, (told.names name refused, tt)), tt)
    refusal_prints scope same told (outcomes.NotCollectible a) trace tells refused = ((tt, ((assembly_number a trace tells refused, tt), tt)), tt)
    refusal_prints scope same told outcome trace tells refused = absurd refused

    outcome_prints : (outcome : Outcome) (trace : List (Event × Reply)) → Told trace → IsOutcome images (commands_of lines) outcome trace → IsPrintableOutcome outcome
    outcome_prints outcome trace told (IsOutcome.is_reply reply is parts) =
        let here = at_parts (λ (step : Event × Reply). IsTold step.0 step.1) parts.before parts.here parts.after (subst Told parts.parted told) in
        let prints : IsPrintableReply reply = subst IsPrintableReply parts.holds.0 here.0 in
        let P : Outcome → Type 0 = λ o. IsPrintableOutcome o in
        subst P (sym is) (prints.0, (subst (λ (r : Reply). IsTrue (ends_command r)) parts.holds.0 (here.1 parts.holds.1), prints.1))
    outcome_prints outcome trace told (IsOutcome.is_assembly a is named) =
        subst IsPrintableOutcome (sym is) ((tt, ((assembly_number a trace told named, tt), tt)), tt)
    outcome_prints outcome trace told (IsOutcome.is_limit is) = subst IsPrintableOutcome (sym is) ((tt, (tt, tt)), tt)
    outcome_prints outcome trace told (IsOutcome.is_refusal command c has refusal) =
        refusal_prints (scope_of images command c) (scope_images images command c) (scope_told images (length images) command c told_images (worded_command command has))
        outcome trace told refusal

    -- the ends of a thread's commands
    ends_print : (ends : List CommandEnd) (trace : List (Event × Reply)) → Told trace → AllByRecursion (λ end. IsEndOf images (commands_of lines) end trace) ends →
        AllByRecursion IsPrintableCommand ends
    ends_print [] trace told are = tt
    ends_print (end ∷ ends) trace told are =
        ((subst (AllByRecursion AreUnits) (sym are.0.0) tt, outcome_prints end.outcome trace told are.0.1), ends_print ends trace told are.1)

-- no command begins with a publication
first_published : (command : Command) (event : Event) → first_event command ≡ Some event → code_published event ≡ None
first_published (commands.New context fixed) event is = ap code_published (sym (of_some is))
first_published (commands.On context name answer) event is = ap code_published (sym (of_some is))
first_published (commands.Resolving context name answer) event is = ap code_published (sym (of_some is))
first_published (commands.Resolve name answer) event is = ap code_published (sym (of_some is))
first_published (commands.Load context image) event is = ap code_published (sym (of_some is))
first_published (commands.Bind context name version) event is = ap code_published (sym (of_some is))
first_published (commands.Call context name type_name method args) event is = cc is
first_published (commands.Hold handle context name type_name method) event is = cc is
first_published (commands.Invoke handle args) event is = cc is
first_published (commands.DropHandle handle) event is = cc is
first_published (commands.Weak handle context) event is = ap code_published (sym (of_some is))
first_published (commands.Alive handle) event is = ap code_published (sym (of_some is))
first_published (commands.Unload context) event is = ap code_published (sym (of_some is))
first_published commands.Collect event is = ap code_published (sym (of_some is))

-- what work publishes is an image
inner_published : (scope : Scope) (event : Event) (trace : List (Event × Reply)) (code : CodeOf) → IsInner scope event trace → code_published event ≡ Some code →
    (m : Module) × (reading_at scope.images code.image ≡ Some (Good m))
inner_published scope (events.Publish context name (candidates.Image image)) trace code inner is =
    let same : image ≡ code.image = ap (λ (from : CodeOf). from.image) (of_some is) in
    (inner.2.0, ap (reading_at scope.images) (sym same) ∙ inner.2.1)
inner_published scope (events.Publish context name (candidates.Assembly a)) trace code inner is = cc is
inner_published scope (events.Lookup context name version) trace code inner is = cc is
inner_published scope (events.Ask step context name) trace code inner is = cc is
inner_published scope event trace code inner is = absurd inner

-- so what an event that is due publishes is one
published_good : (images : List FileReading) (given : List Command) (event : Event) (trace : List (Event × Reply)) (code : CodeOf) → IsAt images given event trace →
    code_published event ≡ Some code → (m : Module) × (reading_at images code.image ≡ Some (Good m))
published_good images given event trace code (IsAt.is_first command has first whole) is = cc (sym (first_published command event first) ∙ is)
published_good images given event trace code (IsAt.is_within command k c has opened inner) is =
    subst (λ (rs : List FileReading). (m : Module) × (reading_at rs code.image ≡ Some (Good m))) (scope_images images command c)
    (inner_published (scope_of images command c) event opened.inner code inner is)
published_good images given event trace code (IsAt.is_last k c opened left) is = cc (sym (ap code_published left) ∙ is)

-- a thread's own replies are told where all are
own_told : (entries : List Entry) (thread : ℕ) → AreTold entries → Told (own_entries entries thread)
own_told [] thread told = tt
own_told (e ∷ es) thread told = at (eqb e.thread thread) told.0 (own_told es thread told.1)
  where
    own : Entry → Event × Reply
    own entry = (entry.event, entry.reply)

    mine : List Entry
    mine = filter (λ entry. eqb entry.thread thread) es

    at : (b : Bool) → IsTold e.event e.reply → Told (map own mine) → Told (map own (cond b (e ∷ mine) mine))
    at true here rest = (here, rest)
    at false here rest = rest

-- no entry is of what is no thread
no_entries : (threads t : ℕ) → (IsThread threads t → ⊥) → (entries : List Entry) → AllByRecursion (λ entry. IsThread threads entry.thread) entries →
    used_events entries t ≡ 0
no_entries threads t none [] are = refl
no_entries threads t none (e ∷ es) are = at (eqb e.thread t) refl (no_entries threads t none es are.1)
  where
    rest : List Entry
    rest = filter (λ entry. eqb entry.thread t) es

    at : (b : Bool) → eqb e.thread t ≡ b → length rest ≡ 0 → length (cond b (e ∷ rest) rest) ≡ 0
    at true same zero_later =
        let is : e.thread ≡ t = eqb-true e.thread t same in absurd (none (subst (IsThread threads) is are.0))
    at false other zero_later = zero_later

-- something stands at each place of a list
some_within : {X : Type 0} (xs : List X) (i : ℕ) → i < length xs → (x : X) × (slice_get xs i ≡ Some x)
some_within [] i within = absurd (omega arith)
some_within (x ∷ xs) zero within = (x, refl)
some_within (x ∷ xs) (suc i) within = some_within xs i (omega arith)

module _ (script : Script) (images : List FileReading) (journal : List Entry) (ends : List (List CommandEnd)) (good : IsGood script images journal ends)
    (small : IsSmall script) (worded : AllByRecursion (AreWorded (length script.images)) script.threads) (count : length images ≡ length script.images)
    (told_images : AllByRecursion IsToldReading images) where
  abbrev own : ℕ → List (Event × Reply)
  own t = own_entries journal t

  proper : IsProper (files_of script images) journal
  proper = good_is_proper_each due_events_fit_each script images journal ends good

  of_threads : AllByRecursion (λ entry. IsThread (length script.threads) entry.thread) journal
  of_threads = by_parts (λ (entry : Entry). IsThread (length script.threads) entry.thread) journal good.threads

  few_images : length images ≤ 256
  few_images = omega (arith, count, small.images)

  -- the commands of each thread are worded
  worded_all : AllByRecursion (AreWorded (length images)) script.threads
  worded_all = subst (λ n. AllByRecursion (AreWorded n) script.threads) (sym count) worded

  worded_of : (t : ℕ) → AreWorded (length images) (lines_of script t)
  worded_of t = at_index (AreWorded (length images)) tt script.threads worded_all (t - 1)

  -- where the thread of an entry was when its event was due
  place : (before : List Entry) (entry : Entry) (after : List Entry) → journal ≡ before ++ entry ∷ after →
      IsAt images (commands_of (lines_of script entry.thread)) entry.event (own_entries before entry.thread)
  place before entry after parts =
      due_at (world_of (assembly_of journal) images) (commands_of (lines_of script entry.thread)) (own_entries before entry.thread) entry.event
      (was_due script images journal ends good before entry after parts)

  -- what the journal says of images
  knows : KnowsImages (files_of script images) journal
  knows = record {
    numbered = are_numbered script.images script.app (versions_of images) small.images (length-map images version_read ∙ count);
    each = by_parts (IsOfImages (files_of script images)) journal
        (λ before entry after parts. record {
          ruled = λ image is.
              let within = image_at images (lines_of script entry.thread) entry.event (own_entries before entry.thread) (worded_of entry.thread) (place before entry after parts) image is in
              record { counted = within.0; within = omega (arith, within.1, length-map images version_read) };
          bound = λ a code made published.
              let found = published_good images (commands_of (lines_of script entry.thread)) entry.event (own_entries before entry.thread) code (place before entry after parts) published in
              version_good images code.image found.0 found.1;
        });
  }

  -- a thread has no more entries than its commands can make
  thread_count : (i : ℕ) → i < length script.threads → length (own (i + 1)) ≤ part_of (λ share. share.events) (map share_for script.threads) (i + 1)
  thread_count i within =
      let lines = some_within script.threads i within in
      let end = some_within ends i (omega (arith, good.one_end_each, within)) in
      let run = good.runs i lines.0 end.0 lines.1 end.1 in
      omega (
        arith,
        most_of (world_of (assembly_of journal) images) (commands_of lines.0) (own (i + 1)) (Ok end.0) run,
        events-lines lines.0,
        share_at script.threads i lines.0 lines.1 (λ share. share.events),
      )

  few_in_thread : (t : ℕ) → used_events journal t ≤ part_of (λ share. share.events) (map share_for script.threads) t
  few_in_thread zero =
      omega (arith, no_entries (length script.threads) 0 (λ within. let low = within.0 in omega arith) journal of_threads)
  few_in_thread (suc i) =
      elim (cases_lt i (length script.threads)) [
        | inl within ↦
            let next : i + 1 ≡ suc i = omega arith in
            subst (λ n. used_events journal n ≤ part_of (λ share. share.events) (map share_for script.threads) n) next
            (omega (arith, used_events-own journal (i + 1), thread_count i within))
        | inr past ↦
            omega (arith, no_entries (length script.threads) (suc i) (λ within. let high = within.1 in omega arith) journal of_threads)
      ]

  few : length journal < 2 ^ 32
  few =
      let sum = can_sum script.threads small.some small.threads small.commands in
      omega (arith, sum.events, entries-le (map share_for script.threads) journal few_in_thread)

  told : AreTold journal
  told = replies_are_told (files_of script images) journal proper knows few

  entry_prints : (before : List Entry) (entry : Entry) (after : List Entry) → journal ≡ before ++ entry ∷ after → IsPrintableEntry entry
  entry_prints before entry after parts =
      let thread = good.threads before entry after parts in
      let high = thread.1 in
      let all = subst AreTold parts told in
      let front = own_told before entry.thread (all-front (λ (e : Entry). IsTold e.event e.reply) before (entry ∷ after) all) in (
        omega (arith, small.threads, high),
        at_prints images few_images told_images (lines_of script entry.thread) (worded_of entry.thread) entry.event (own_entries before entry.thread) front
            (place before entry after parts),
        (at_parts (λ (e : Entry). IsTold e.event e.reply) before entry after all).0,
      )

  end_prints : (i : ℕ) (end : List CommandEnd) → slice_get ends i ≡ Some end → AllByRecursion IsPrintableCommand end
  end_prints i end found =
      let lines = some_within script.threads i (omega (arith, within ends i end found, good.one_end_each)) in
      let run = good.runs i lines.0 end lines.1 found in
      let are : AreWorded (length images) lines.0 =
      subst (λ (o : Option (List CommandLine)). AreWorded (length images) (option_map_or (λ l. l) o [])) lines.1
      (at_index (AreWorded (length images)) tt script.threads worded_all i) in
      ends_print images few_images told_images lines.0 are end (own (i + 1)) (own_told journal (i + 1) told)
      (ends_at (world_of (assembly_of journal) images) (commands_of lines.0) (own (i + 1)) end run)
    where
      within : {X : Type 0} (xs : List X) (i : ℕ) (x : X) → slice_get xs i ≡ Some x → i < length xs
      within [] i x found = cc
      within (y ∷ ys) zero x found = omega arith
      within (y ∷ ys) (suc i) x found = let below = within ys i x found in omega arith

  prints : IsPrintable ends journal
  prints = record {
    commands = by_index (AllByRecursion IsPrintableCommand) ends end_prints;
    entries = by_parts IsPrintableEntry journal entry_prints;
    few_threads = omega (arith, good.one_end_each, small.threads);
    few_entries = few;
  }

-- What a good journal of an accepted script and its ends say reads back from their report.
pub good_is_printable_each : GoodIsPrintable
good_is_printable_each bytes script held images journal ends accepted read good =
    prints script images journal ends good (accepted_is_small_each bytes script accepted) (accepted_is_worded_each bytes script accepted) read.count
    (images_told held script.images images read)
