-- The flows of a script's threads can be driven over a host that is opened for them.
use Rattle.std.proofs.Common.{◌≡◌, ◌∙◌, ℕ, zero, suc, ◌+◌, ◌<◌, ◌≤◌, Bool, true, false, cond, List, [], ◌∷◌, ◌++◌, length, Option, Some, IsSome, refl, sym, ap, subst, sum_by, arith}
use Rattle.std.specs.Arc.{arc_value}
use Rattle.std.specs.List.{AllByRecursion, Contains, filter, slice_get}
use Rattle.std.specs.Option.{is_some, option_and_then}
use Rattle.std.proofs.lemmas.List.{length-map}
use Rattle.std.proofs.lemmas.List.Sums.{sum_by-cons}
use Rattle.assembly_image.specs.Module.{Module}
use Rattle.assembly_image.specs.Reading.{FileReading, module_of}
use Rattle.assembly_image.specs.Reading.FileReading.{Good}
use Rattle.assembly_name.specs.declared.version.Version.{Version}
use Rattle.bind_flow.specs.declared.images.ImageCode.{ImageCode}
use Rattle.bind_flow.specs.Flow.{CanCome, world_of}
use Rattle.bind_flow.specs.Flow.{BringsCode}
use Rattle.bind_flow.specs.Images.{reading_at, version_read, versions_of}
use Rattle.host_events.specs.declared.event.Candidate.TheVariants as candidates
use Rattle.host_events.specs.declared.event.Event.{Event}
use Rattle.host_events.specs.declared.event.Event.TheVariants as events
use Rattle.host_events.specs.declared.event.RuleAt.TheVariants as places
use Rattle.host_events.specs.declared.journal.Entry.{Entry}
use Rattle.host_events.specs.declared.order.Order.{Order}
use Rattle.host_events.specs.declared.order.Room.{Room}
use Rattle.host_events.specs.declared.reply.Reply.{Reply}
use Rattle.host_events.specs.Asking.{IsDue}
use Rattle.host_events.specs.Assemblies.{assembly_of, code_of}
use Rattle.host_events.specs.Contexts.{made_context}
use Rattle.host_events.specs.Files.{Files, IsImage, version_at}
use Rattle.host_events.specs.Images.{image_answered, image_ruled}
use Rattle.host_events.specs.Journal.{Fits, own_entries}
use Rattle.host_events.specs.Operations.{IsWithin, open_in}
use Rattle.host_events.specs.Steps.{AgreeWith, Step, entry_of, without_codes}
use Rattle.host_events.proofs.Steps.{own_steps-entries}
use Rattle.host_events.proofs.Told.{own_steps-agree}
use Rattle.host_events.proofs.Within.{own_entries_tell_within_each}
use Rattle.host_core.specs.declared.bounds.Bounds.{Bounds}
use Rattle.host_core.specs.declared.bounds.Share.{Share}
use Rattle.host_core.specs.Accepted.{Brings, HasRoom, IsAccepted, MayMake}
use Rattle.host_core.proofs.Keeps.{numbers_due-le}
use Rattle.host_events.specs.Rooms.{most_contexts, numbers_due, room_for}
use Rattle.host_core.specs.Allowed.{Fixed, IsAllowed, keeps_to, makes_context_by, makes_handle, makes_handle_by, sets_rule, sets_rule_by, used, used_contexts, used_handles, used_rules}
use Rattle.host_core.specs.Bounds.{part_of}
use Rattle.host_core.specs.Core.{fixed_by}
use Rattle.host_core.proofs.Used.{Counts, contexts-count, handles-count, rules-count, used-le, used_events-own}
use Rattle.host_script.specs.declared.command.Command.{Command}
use Rattle.host_script.specs.declared.command.Command.TheVariants as scripted
use Rattle.host_script.specs.declared.command.CommandLine.{CommandLine}
use Rattle.host_script.specs.declared.command.ScriptAnswer.{ScriptAnswer}
use Rattle.host_script.specs.declared.command.ScriptAnswer.TheVariants as answers
use Rattle.host_script.specs.declared.script.Script.{Script}
use Rattle.host_script.specs.Worded.{AreWorded, IsWorded, IsWordedAnswer}
use Rattle.host_threads.specs.Drive.{CanDrive, Suits}
use Rattle.command_flow.specs.Events.{answer_of, event_of}
use Rattle.command_flow.specs.Flow.{IsAsked, IsLeave, most_events}
use Rattle.command_flow.specs.Orders.{IsOrder}
use Rattle.command_flow.specs.Run.{runs_all}
use Rattle.command_flow.proofs.Counts.{PassesNone, asks_for as command_asks, count_of, fewer_events, fewer_of}
use Rattle.command_flow.proofs.Fits.{due_events_fit_each}
use Rattle.command_flow.specs.State.{is_inner}
use Rattle.command_flow.proofs.Inner.{inner_is}
use Rattle.command_flow.proofs.Places.{IsAt, due_at, first_event, scope_of}
use Rattle.alc_program.specs.Good.{commands_of}
use Rattle.alc_program.specs.Images.{files_of}
use Rattle.alc_program.specs.Shares.{asks_for, count_for, share_for}
use Rattle.alc_program.specs.Unbuilt.{is_collecting, unbuilt_lines}
use Rattle.alc_program.proofs.KindLemmas.{KeepsKind, lines_kept}

of_some : {X : Type 0} {x y : X} → Some x ≡ Some y → x ≡ y
of_some is = cc

may_each : (bounds : Bounds) (journal : List Entry) (thread : ℕ) (event : Event) →
    (makes_context_by event ≡ true → used_contexts journal thread < part_of (λ share. share.contexts) bounds.shares thread) →
    (makes_handle_by event ≡ true → used_handles journal thread < part_of (λ share. share.handles) bounds.shares thread) →
    (sets_rule_by event ≡ true → used_rules journal thread < part_of (λ share. share.rules) bounds.shares thread) →
    MayMake bounds journal thread event
may_each bounds journal thread (events.New name kind) contexts handles rules = contexts refl
may_each bounds journal thread (events.Rule place name answer) contexts handles rules = rules refl
may_each bounds journal thread (events.Enter name) contexts handles rules = tt
may_each bounds journal thread (events.EnterHandle handle) contexts handles rules = tt
may_each bounds journal thread (events.Lookup context name version) contexts handles rules = tt
may_each bounds journal thread (events.Ask step context name) contexts handles rules = tt
may_each bounds journal thread (events.Publish context name candidate) contexts handles rules = tt
may_each bounds journal thread (events.Place user key) contexts handles rules = tt
may_each bounds journal thread (events.LoadStatic key field kind) contexts handles rules = tt
may_each bounds journal thread (events.StoreStatic key field value) contexts handles rules = tt
may_each bounds journal thread (events.Hold handle assembly method) contexts handles rules = handles refl
may_each bounds journal thread (events.DropHandle handle) contexts handles rules = tt
may_each bounds journal thread (events.Weak handle name) contexts handles rules = handles refl
may_each bounds journal thread (events.Alive handle) contexts handles rules = tt
may_each bounds journal thread (events.Unload name) contexts handles rules = tt
may_each bounds journal thread events.Collect contexts handles rules = tt
may_each bounds journal thread (events.Leave operation) contexts handles rules = tt

-- the image of a rule of a script is one of its images
answer_image : (count : ℕ) (answer : ScriptAnswer) (i : ℕ) → IsWordedAnswer count answer → image_answered (answer_of answer) ≡ Some i → (1 ≤ i) × (i ≤ count)
answer_image count (answers.Image image) i worded is = let same : image ≡ i = cc in (subst (λ (n : ℕ). 1 ≤ n) same worded.0, subst (λ (n : ℕ). n ≤ count) same worded.1)
answer_image count (answers.Share context) i worded is = cc
answer_image count answers.Nothing i worded is = cc

command_image : (count : ℕ) (command : Command) (event : Event) (i : ℕ) → IsWorded count command → event_of command ≡ Some event →
    image_ruled event ≡ Some i → (1 ≤ i) × (i ≤ count)
command_image count (scripted.New context fixed) event i worded is here = cc
command_image count (scripted.On context name answer) event i worded is here =
    let same : events.Rule (places.On context) name (answer_of answer) ≡ event = cc in
    answer_image count answer i worded.2 (ap image_ruled same ∙ here)
command_image count (scripted.Resolving context name answer) event i worded is here =
    let same : events.Rule (places.Resolving context) name (answer_of answer) ≡ event = cc in
    answer_image count answer i worded.2 (ap image_ruled same ∙ here)
command_image count (scripted.Resolve name answer) event i worded is here =
    let same : events.Rule places.Resolve name (answer_of answer) ≡ event = cc in
    answer_image count answer i worded.1 (ap image_ruled same ∙ here)
command_image count (scripted.Load context image) event i worded is here = cc
command_image count (scripted.Bind context name version) event i worded is here = cc
command_image count (scripted.Call context name type_name method args) event i worded is here = cc
command_image count (scripted.Hold handle context name type_name method) event i worded is here = cc
command_image count (scripted.Invoke handle args) event i worded is here = cc
command_image count (scripted.DropHandle handle) event i worded is here = cc
command_image count (scripted.Weak handle context) event i worded is here =
    let same : events.Weak handle context ≡ event = cc in cc (ap image_ruled same)
command_image count (scripted.Alive handle) event i worded is here =
    let same : events.Alive handle ≡ event = cc in cc (ap image_ruled same)
command_image count (scripted.Unload context) event i worded is here =
    let same : events.Unload context ≡ event = cc in cc (ap image_ruled same)
command_image count scripted.Collect event i worded is here =
    let same : events.Collect ≡ event = cc in cc (ap image_ruled same)

-- what holds of the command of each line holds of each command
pub lines_contain : (P : Command → Type 0) (lines : List CommandLine) (command : Command) → AllByRecursion (λ line. P line.command) lines →
    Contains (commands_of lines) command → P command
lines_contain P [] command all has = absurd (omega (arith, has.1))
lines_contain P (line ∷ lines) command all (zero, within, is) = subst P is all.0
lines_contain P (line ∷ lines) command all (suc i, within, is) = lines_contain P lines command all.1 (i, omega (arith, within), is)

-- the image of a rule with which a command begins is one of so many
first_image_ruled : (count : ℕ) (command : Command) (event : Event) (i : ℕ) → IsWorded count command → first_event command ≡ Some event →
    image_ruled event ≡ Some i → (1 ≤ i) × (i ≤ count)
first_image_ruled count (scripted.Load context image) event i worded is here = let same : events.Enter context ≡ event = cc in cc (ap image_ruled same)
first_image_ruled count (scripted.Bind context name version) event i worded is here = let same : events.Enter context ≡ event = cc in cc (ap image_ruled same)
first_image_ruled count command event i worded is here = command_image count command event i worded is here

-- an operation sets no rule
inner_rules_none : (event : Event) (i : ℕ) → is_inner event ≡ true → image_ruled event ≡ Some i → ⊥
inner_rules_none (events.Lookup context name version) i inner is = cc is
inner_rules_none (events.Ask step context name) i inner is = cc is
inner_rules_none (events.Publish context name candidate) i inner is = cc is
inner_rules_none (events.Rule place name answer) i inner is = cc inner
inner_rules_none event i inner is = cc

-- the first event of a command that keeps to its run does
first_kept : (collecting : Bool) (command : Command) (event : Event) → KeepsKind collecting command → first_event command ≡ Some event → keeps_to collecting event ≡ true
first_kept collecting (scripted.New context fixed) event kept is = ap (keeps_to collecting) (sym (of_some is))
first_kept collecting (scripted.On context name answer) event kept is = ap (keeps_to collecting) (sym (of_some is))
first_kept collecting (scripted.Resolving context name answer) event kept is = ap (keeps_to collecting) (sym (of_some is))
first_kept collecting (scripted.Resolve name answer) event kept is = ap (keeps_to collecting) (sym (of_some is))
first_kept true (scripted.Load context image) event kept is = let no : true ≡ false = kept.0 refl in cc no
first_kept false (scripted.Load context image) event kept is = ap (keeps_to false) (sym (of_some is))
first_kept true (scripted.Bind context name version) event kept is = let no : true ≡ false = kept.0 refl in cc no
first_kept false (scripted.Bind context name version) event kept is = ap (keeps_to false) (sym (of_some is))
first_kept collecting (scripted.Call context name type_name method args) event kept is = cc is
first_kept collecting (scripted.Hold handle context name type_name method) event kept is = cc is
first_kept collecting (scripted.Invoke handle args) event kept is = cc is
first_kept collecting (scripted.DropHandle handle) event kept is = cc is
first_kept collecting (scripted.Weak handle context) event kept is = ap (keeps_to collecting) (sym (of_some is))
first_kept collecting (scripted.Alive handle) event kept is = ap (keeps_to collecting) (sym (of_some is))
first_kept collecting (scripted.Unload context) event kept is = ap (keeps_to collecting) (sym (of_some is))
first_kept true scripted.Collect event kept is = ap (keeps_to true) (sym (of_some is))
first_kept false scripted.Collect event kept is = let no : true ≡ false = kept.1 refl in cc no

inner_kept : (collecting : Bool) (event : Event) → is_inner event ≡ true → keeps_to collecting event ≡ true
inner_kept collecting (events.Lookup context name version) inner = refl
inner_kept collecting (events.Ask step context name) inner = refl
inner_kept collecting (events.Publish context name candidate) inner = refl
inner_kept collecting event inner = cc inner

-- no operation makes a context, a handle or a rule
inner_makes_none : (event : Event) → is_inner event ≡ true → (makes_context_by event ≡ false) × (makes_handle_by event ≡ false) × (sets_rule_by event ≡ false)
inner_makes_none (events.Lookup context name version) inner = (refl, refl, refl)
inner_makes_none (events.Ask step context name) inner = (refl, refl, refl)
inner_makes_none (events.Publish context name candidate) inner = (refl, refl, refl)
inner_makes_none event inner = cc inner

contexts_none : PassesNone makes_context_by
contexts_none = record { enter = λ name. refl; inner = λ event is. (inner_makes_none event is).0; leave = λ k. refl }

handles_none : PassesNone makes_handle_by
handles_none = record { enter = λ name. refl; inner = λ event is. (inner_makes_none event is).1; leave = λ k. refl }

rules_none : PassesNone sets_rule_by
rules_none = record { enter = λ name. refl; inner = λ event is. (inner_makes_none event is).2; leave = λ k. refl }

-- as many lines as commands pass
count-lines : (test : Event → Bool) (lines : List CommandLine) → count_for test lines ≡ length (filter (command_asks test) (commands_of lines))
count-lines test [] = refl
count-lines test (line ∷ lines) = at (asks_for test line.command) (count-lines test lines)
  where
    others : List CommandLine
    others = filter (λ l. asks_for test l.command) lines

    rest : List Command
    rest = filter (command_asks test) (commands_of lines)

    at : (b : Bool) → length others ≡ length rest → length (cond b (line ∷ others) others) ≡ length (cond b (line.command ∷ rest) rest)
    at true same = ap suc same
    at false same = same

-- and they make as many events at most
pub events-lines : (lines : List CommandLine) → sum_by (λ line. most_events line.command) lines ≡ sum_by most_events (commands_of lines)
events-lines [] = refl
events-lines (line ∷ lines) =
    omega (
      arith,
      sum_by-cons (λ (l : CommandLine). most_events l.command) line lines,
      sum_by-cons most_events line.command (commands_of lines),
      events-lines lines,
    )

-- an image that reads as a module has a version
pub version_good : (images : List FileReading) (image : ℕ) (m : Module) → reading_at images image ≡ Some (Good m) → IsSome (version_at (versions_of images) image)
version_good images zero m reads = cc reads
version_good images (suc image) m reads = at images image reads
  where
    at : (rs : List FileReading) (i : ℕ) → slice_get rs i ≡ Some (Good m) → IsSome (option_and_then (λ (version : Option Version). version) (slice_get (versions_of rs) i))
    at [] i reads = cc reads
    at (r ∷ rs) zero reads = let same : r ≡ Good m = of_some reads in subst (λ (x : FileReading). IsSome (version_read x)) (sym same) refl
    at (r ∷ rs) (suc i) reads = at rs i reads

-- what an order brings is what the host asks for
brings_code : (files : Files) (images : List FileReading) → files.versions ≡ versions_of images → (event : Event) (code : Option ImageCode) → BringsCode images event code →
    Brings (λ (c : ImageCode). c.image) files event code
brings_code files images versions (events.Publish context name (candidates.Image image)) code brings = (
  subst (λ (vs : List (Option Version)). IsSome (version_at vs image)) (sym versions) (version_good images image (module_of (arc_value brings.0.shared)) brings.4),
  brings.0,
  brings.1,
  brings.2,
)
brings_code files images versions (events.Publish context name (candidates.Assembly a)) code brings = tt
brings_code files images versions (events.New name kind) code brings = tt
brings_code files images versions (events.Rule place name answer) code brings = tt
brings_code files images versions (events.Enter name) code brings = tt
brings_code files images versions (events.EnterHandle handle) code brings = tt
brings_code files images versions (events.Lookup context name version) code brings = tt
brings_code files images versions (events.Ask step context name) code brings = tt
brings_code files images versions (events.Place user key) code brings = tt
brings_code files images versions (events.LoadStatic key field kind) code brings = tt
brings_code files images versions (events.StoreStatic key field value) code brings = tt
brings_code files images versions (events.Hold handle assembly method) code brings = tt
brings_code files images versions (events.DropHandle handle) code brings = tt
brings_code files images versions (events.Weak handle name) code brings = tt
brings_code files images versions (events.Alive handle) code brings = tt
brings_code files images versions (events.Unload name) code brings = tt
brings_code files images versions events.Collect code brings = tt
brings_code files images versions (events.Leave operation) code brings = tt

-- the image of a rule that is due is one of the images
pub image_at : (images : List FileReading) (lines : List CommandLine) (event : Event) (trace : List (Event × Reply)) → AreWorded (length images) lines →
    IsAt images (commands_of lines) event trace → (i : ℕ) → image_ruled event ≡ Some i → (1 ≤ i) × (i ≤ length images)
image_at images lines event trace worded (IsAt.is_first command has first whole) i is =
    first_image_ruled (length images) command event i (lines_contain (IsWorded (length images)) lines command worded has) first is
image_at images lines event trace worded (IsAt.is_within command k c has opened inner) i is =
    absurd (inner_rules_none event i (inner_is (scope_of images command c) event opened.inner inner) is)
image_at images lines event trace worded (IsAt.is_last k c opened left) i is = cc (sym (ap image_ruled left) ∙ is)

module _ (fixed : Fixed) (images : List FileReading) (thread : ℕ) (lines : List CommandLine) (trace : List Step) (journal : List Entry)
    (suits : Suits (IsAllowed fixed) code_of thread trace journal) (versions : fixed.files.versions ≡ versions_of images)
    (shares : (part : Share → ℕ) → part_of part fixed.bounds.shares thread ≡ part (share_for lines)) where
  own : own_entries journal thread ≡ without_codes trace
  own = sym (own_steps-entries code_of journal thread) ∙ ap without_codes suits.own

  -- the codes of the thread's steps are those of the assemblies of the journal
  agree : AgreeWith (assembly_of journal) trace
  agree = subst (AgreeWith (assembly_of journal)) suits.own (own_steps-agree fixed.files journal thread suits.allowed.proper)

  length-steps : length (without_codes trace) ≡ length trace
  length-steps = length-map trace (λ (step : Step). (step.event, step.reply))

  length-own : length (own_entries journal thread) ≡ length trace
  length-own = ap length own ∙ length-steps

  has_room : (event : Event) (room : Room) → room ≡ room_for (numbers_due most_contexts event) → HasRoom fixed.bounds.contexts event room
  has_room event room is =
      subst (λ (r : Room). HasRoom fixed.bounds.contexts event r) (sym is)
      ((refl, refl, refl, refl), numbers_due-le fixed.bounds.contexts most_contexts event suits.allowed.numbered)

  -- an order is accepted that fits, makes what there is room for, and keeps to the run
  takes : (order : Order ImageCode) → IsOrder images order → Fits journal thread order.event → length trace < sum_by most_events (commands_of lines) →
      MayMake fixed.bounds journal thread order.event → keeps_to fixed.collects order.event ≡ true →
      ((i : ℕ) → image_ruled order.event ≡ Some i → IsImage fixed.files.versions i) → IsAccepted (λ (c : ImageCode). c.image) fixed journal thread order
  takes order brings fits fewer makes kept ruled = record {
    fits = fits;
    same = brings.same;
    events = omega (arith, used_events-own journal thread, length-own, fewer, events-lines lines, shares (λ share. share.events));
    makes = makes;
    room_brought = has_room order.event order.room brings.room;
    kind = kept;
    ruled = ruled;
    coded = brings_code fixed.files images versions order.event order.code brings.coded;
    copy_brought = has_room order.event order.copy brings.copy;
  }

  -- the order by which the thread leaves
  pub leave_accepted : (order : Order ImageCode) → IsLeave (record { commands = commands_of lines; images = images }) trace order →
      IsAccepted (λ (c : ImageCode). c.image) fixed journal thread order
  leave_accepted order leave =
      let P : Event → Type 0 = λ event. Fits journal thread event × MayMake fixed.bounds journal thread event × (keeps_to fixed.collects event ≡ true)
      × ((i : ℕ) → image_ruled event ≡ Some i → IsImage fixed.files.versions i) in
      let all : P order.event = subst P (sym leave.left) (within leave.operation leave.opened, tt, refl, λ i is. cc is) in
      takes order leave.brings all.0 leave.fewer all.1 all.2 all.3
    where
      within : (k : ℕ) → open_in (without_codes trace) ≡ k ∷ [] → IsWithin journal thread k
      within k opened = own_entries_tell_within_each fixed.files journal thread suits.allowed.proper ∙ ap open_in own ∙ opened

  module _ (order : Order ImageCode) (asked : IsAsked (record { commands = commands_of lines; images = images }) trace order)
      (kept : AllByRecursion (λ line. KeepsKind fixed.collects line.command) lines) (worded : AreWorded (length images) lines) where
    due : IsDue (runs_all (world_of (assembly_of journal) images) (commands_of lines)) (without_codes trace) order.event
    due = asked.due (assembly_of journal) agree

    fits : Fits journal thread order.event
    fits =
        due_events_fit_each fixed.files journal thread (commands_of lines) (assembly_of journal) images order.event suits.allowed.proper
        (subst (λ (t : List (Event × Reply)). IsDue (runs_all (world_of (assembly_of journal) images) (commands_of lines)) t order.event) (sym own) due)

    place : IsAt images (commands_of lines) order.event (without_codes trace)
    place = due_at (world_of (assembly_of journal) images) (commands_of lines) (without_codes trace) order.event due

    fewer : length trace < sum_by most_events (commands_of lines)
    fewer =
        omega (
          arith,
          fewer_events (world_of (assembly_of journal) images) (commands_of lines) (without_codes trace) order.event due,
          length-steps,
        )

    -- what the event can make was made less often than the commands ask for it
    fewer_made : (test : Reply → Bool) (asks : Event → Bool) → Counts test asks → PassesNone asks → asks order.event ≡ true →
        used test journal thread < count_for asks lines
    fewer_made test asks counts none here =
        omega (
          arith,
          used-le test asks fixed.files journal thread counts suits.allowed.proper.legal,
          ap (count_of asks) own,
          fewer_of asks (world_of (assembly_of journal) images) (commands_of lines) (without_codes trace) order.event none due here,
          count-lines asks lines,
        )

    keeps : IsAt images (commands_of lines) order.event (without_codes trace) → keeps_to fixed.collects order.event ≡ true
    keeps (IsAt.is_first command has first whole) =
        first_kept fixed.collects command order.event (lines_contain (KeepsKind fixed.collects) lines command kept has) first
    keeps (IsAt.is_within command k c has opened inner) =
        inner_kept fixed.collects order.event (inner_is (scope_of images command c) order.event opened.inner inner)
    keeps (IsAt.is_last k c opened is) = ap (keeps_to fixed.collects) is

    ruled : (i : ℕ) → image_ruled order.event ≡ Some i → IsImage fixed.files.versions i
    ruled i is =
        let within = image_at images lines order.event (without_codes trace) worded place i is in
        record { counted = within.0; within = omega (arith, within.1, ap length versions, length-map images version_read) }

    pub asked_accepted : IsAccepted (λ (c : ImageCode). c.image) fixed journal thread order
    asked_accepted =
        takes order asked.brings fits fewer
        (may_each fixed.bounds journal thread order.event
        (λ here. omega (arith, fewer_made (λ r. is_some (made_context r)) makes_context_by contexts-count contexts_none here, shares (λ share. share.contexts)))
        (λ here. omega (arith, fewer_made makes_handle makes_handle_by handles-count handles_none here, shares (λ share. share.handles)))
        (λ here. omega (arith, fewer_made sets_rule sets_rule_by rules-count rules_none here, shares (λ share. share.rules))))
        (keeps place) ruled

  pub comes : (order : Order ImageCode) (reply : Reply) → IsAllowed fixed (journal ++ entry_of thread order.event reply ∷ []) →
      CanCome images trace order reply (code_of journal (entry_of thread order.event reply))
  comes order reply allowed = record {
    thread = thread;
    files = fixed.files;
    journal = journal;
    fitting = record {
      proper = suits.allowed.proper;
      versions = versions;
      known = suits.allowed.images;
      before = [];
      own = suits.own;
    };
    replied = allowed.proper.legal journal (entry_of thread order.event reply) [] refl;
    coded = refl;
  }

-- The flow of a script's thread can be driven over a host that is opened for it, where all lines of the script are run.
pub can_drive : (script : Script) (images : List FileReading) (bounds : Bounds) (i : ℕ) (lines : List CommandLine) → slice_get script.threads i ≡ Some lines →
    ((part : Share → ℕ) → part_of part bounds.shares (i + 1) ≡ part (share_for lines)) → AreWorded (length images) lines →
    unbuilt_lines script ≡ [] →
    CanDrive (λ (o : Order ImageCode). o.event) (IsAllowed (fixed_by bounds (files_of script images) (is_collecting script)))
    (λ journal t order. IsAccepted (λ (code : ImageCode). code.image) (fixed_by bounds (files_of script images) (is_collecting script)) journal t order)
    code_of (IsAsked (record { commands = commands_of lines; images = images })) (IsLeave (record { commands = commands_of lines; images = images }))
    (λ trace order reply code. CanCome images trace order reply code) (i + 1)
can_drive script images bounds i lines found shares worded built = record {
  asked = λ trace journal order suits asked.
      asked_accepted fixed images (i + 1) lines trace journal suits refl shares order asked (lines_kept script built i lines found) worded;
  left = λ trace journal order suits leave. leave_accepted fixed images (i + 1) lines trace journal suits refl shares order leave;
  taken = λ trace journal order reply suits asked allowed. comes fixed images (i + 1) lines trace journal suits refl shares order reply allowed;
}
  where
    fixed : Fixed
    fixed = fixed_by bounds (files_of script images) (is_collecting script)
