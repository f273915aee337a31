-- A script has one run, and a good journal is proper.
use Rattle.std.proofs.Common.{◌≡◌, ℕ, zero, suc, ◌+◌, ◌-◌, ◌<◌, Bool, true, false, eqb, cond, List, [], ◌∷◌, ◌++◌, length, map, Option, Some, Ok, Err, refl, sym, ap, subst, ◌∙◌, append_assoc, append-nil, arith}
use Rattle.std.specs.List.{filter, slice_get}
use Rattle.std.specs.Option.{option_map_or}
use Rattle.std.proofs.lemmas.Bool.Decides.{nat_tests}
use Rattle.assembly_image.specs.Reading.{FileReading}
use Rattle.bind_flow.specs.Flow.{world_of}
use Rattle.host_events.specs.declared.event.Event.{Event}
use Rattle.host_events.specs.declared.reply.Reply.{Reply}
use Rattle.host_events.specs.declared.journal.Entry.{Entry}
use Rattle.host_events.specs.declared.order.CodeOf.{CodeOf}
use Rattle.host_events.specs.declared.outcome.CommandEnd.{CommandEnd}
use Rattle.host_events.specs.Asking.{Asking, Ending, IsDue, IsWay}
use Rattle.host_events.specs.Assemblies.{assembly_of, code_of}
use Rattle.host_events.specs.Journal.{IsProper, own_entries}
use Rattle.host_events.specs.Steps.{AgreeWith, Step, own_steps, steps_after, without_codes}
use Rattle.host_events.specs.Task.Why.{Stopped}
use Rattle.host_events.proofs.Push.{IsProper-nil, IsProper-push}
use Rattle.host_events.proofs.Steps.{own_steps-entries}
use Rattle.host_events.proofs.Tasks.{one_due, one_ending}
use Rattle.host_events.proofs.Told.{own_steps-agree}
use Rattle.host_script.specs.declared.command.CommandLine.{CommandLine}
use Rattle.host_script.specs.declared.script.Script.{Script}
use Rattle.host_threads.specs.Turns.{IsThread}
use Rattle.host_threads.proofs.OneJournal.{IsRunOf, one_journal_of_steps}
use Rattle.host_threads.proofs.OwnSteps.{own_steps-append}
use Rattle.command_flow.specs.Laws.{DueEventsFit}
use Rattle.command_flow.specs.Run.{RunsThread, runs_all}
use Rattle.command_flow.proofs.Named.{agree_same, named_alone}
use Rattle.command_flow.proofs.OrderLemmas.{in_order_each, one_end_each, order-runs_all}
use Rattle.alc_program.specs.Good.{IsGood, RunsScript, commands_of}
use Rattle.alc_program.specs.Images.{files_of}
use Rattle.alc_program.specs.Laws.{GoodIsProper, HasOneRun}

-- the commands of a thread, counted from 1
abbrev pub lines_of : Script → ℕ → List CommandLine
lines_of script t = option_map_or (λ lines. lines) (slice_get script.threads (t - 1)) []

-- what a thread does, where the assemblies are what this map says
abbrev pub task_of : Script → List FileReading → (ℕ → Option CodeOf) → ℕ → Asking (List CommandEnd)
task_of script images assemblies t = runs_all (world_of assemblies images) (commands_of (lines_of script t))

pub some_within : {X : Type 0} (xs : List X) (i : ℕ) → i < length xs → (x : X) × (slice_get xs i ≡ Some x)
some_within [] i within = absurd (omega arith)
some_within (x ∷ xs) zero within = (x, refl)
some_within (x ∷ xs) (suc i) within = some_within xs i (omega arith)

eqb-same : (n : ℕ) → eqb n n ≡ true
eqb-same n = grind (arith, nat_tests)

-- a thread's own entries are parted where the journal is
own-parts : (before : List Entry) (entry : Entry) (after : List Entry) (t : ℕ) → entry.thread ≡ t →
    own_entries (before ++ entry ∷ after) t ≡ own_entries before t ++ (entry.event, entry.reply) ∷ own_entries after t
own-parts [] entry after t is =
    ap (λ b. map (λ (e : Entry). (e.event, e.reply)) (cond b (entry ∷ filter (λ e. eqb e.thread t) after) (filter (λ e. eqb e.thread t) after)))
    (ap (λ n. eqb n t) is ∙ eqb-same t)
own-parts (e ∷ es) entry after t is = at (eqb e.thread t) (own-parts es entry after t is)
  where
    own : Entry → Event × Reply
    own x = (x.event, x.reply)

    all : List Entry
    all = filter (λ x. eqb x.thread t) (es ++ entry ∷ after)

    front : List Entry
    front = filter (λ x. eqb x.thread t) es

    at : (b : Bool) → map own all ≡ map own front ++ (entry.event, entry.reply) ∷ own_entries after t →
        map own (cond b (e ∷ all) all) ≡ map own (cond b (e ∷ front) front) ++ (entry.event, entry.reply) ∷ own_entries after t
    at true same = ap (λ rest. own e ∷ rest) same
    at false same = same

-- what agrees with all steps agrees with the first of them
agree_front : (assemblies : ℕ → Option CodeOf) (steps later : List Step) → AgreeWith assemblies (steps ++ later) → AgreeWith assemblies steps
agree_front assemblies [] later agree = tt
agree_front assemblies (step ∷ steps) later agree = (agree.0, agree_front assemblies steps later agree.1)

module _ (script : Script) (images : List FileReading) (journal : List Entry) (ends : List (List CommandEnd)) (good : IsGood script images journal ends) where
  -- a thread's run, by its number
  runs_at : (t : ℕ) → IsThread (length script.threads) t →
      (end : List CommandEnd) × RunsThread (commands_of (lines_of script t)) (assembly_of journal) images (own_entries journal t) end
  runs_at t within =
      let index : t - 1 < length script.threads = let low = within.0 in let high = within.1 in omega arith in
      let lines = some_within script.threads (t - 1) index in
      let end = some_within ends (t - 1) (omega (arith, good.one_end_each)) in
      let same : lines.0 ≡ lines_of script t = sym (ap (λ o. option_map_or (λ (l : List CommandLine). l) o []) lines.1) in
      let back : t - 1 + 1 ≡ t = let low = within.0 in omega arith in
      let run = good.runs (t - 1) lines.0 end.0 lines.1 end.1 in (
        end.0,
        subst (λ l. RunsThread (commands_of l) (assembly_of journal) images (own_entries journal t) end.0) same
            (subst (λ n. RunsThread (commands_of lines.0) (assembly_of journal) images (own_entries journal n) end.0) back run),
      )

  -- the event of an entry was due in its thread
  pub was_due : (before : List Entry) (entry : Entry) (after : List Entry) → journal ≡ before ++ entry ∷ after →
      IsDue (task_of script images (assembly_of journal) entry.thread) (own_entries before entry.thread) entry.event
  was_due before entry after parts =
      let t = entry.thread in
      let run = runs_at t (good.threads before entry after parts) in
      let split : own_entries journal t ≡ own_entries before t ++ (entry.event, entry.reply) ∷ own_entries after t =
      ap (λ j. own_entries j t) parts ∙ own-parts before entry after t refl in
      (in_order_each (commands_of (lines_of script t)) (assembly_of journal) images (own_entries before t) entry.event entry.reply (own_entries after t) run.0
      (subst (λ own. RunsThread (commands_of (lines_of script t)) (assembly_of journal) images own run.0) split run.1)).0

  -- a proper beginning of it goes on properly
  proper_from : DueEventsFit → (before later : List Entry) → IsProper (files_of script images) before → journal ≡ before ++ later →
      IsProper (files_of script images) journal
  proper_from due_events_fit before [] proper parts = subst (IsProper (files_of script images)) (sym (parts ∙ append-nil before)) proper
  proper_from due_events_fit before (entry ∷ later) proper parts =
      let fits = due_events_fit (files_of script images) before entry.thread (commands_of (lines_of script entry.thread)) (assembly_of journal) images
      entry.event proper (was_due before entry later parts) in
      proper_from due_events_fit (before ++ entry ∷ []) later
      (IsProper-push (files_of script images) before entry proper fits (good.legal before entry later parts))
      (parts ∙ sym (append_assoc before (entry ∷ []) later))

pub good_is_proper_each : DueEventsFit → GoodIsProper
good_is_proper_each due_events_fit script images journal ends good =
    proper_from script images journal ends good due_events_fit [] journal (IsProper-nil (files_of script images)) refl

-- After a thread's steps the event is due, among assemblies that their codes tell.
abbrev Follows : Script → List FileReading → ℕ → List Step → Event → Type 0
Follows script images t steps event =
    (assemblies : ℕ → Option CodeOf) × AgreeWith assemblies steps × IsDue (task_of script images assemblies t) (without_codes steps) event

-- A thread's steps are a whole run of it, among assemblies that their codes tell.
abbrev IsWhole : Script → List FileReading → ℕ → List Step → Type 0
IsWhole script images t steps =
    (assemblies : ℕ → Option CodeOf) × AgreeWith assemblies steps
    × (end : List CommandEnd) × IsWay (task_of script images assemblies t) (without_codes steps) (Ok end)

-- one event follows a thread's steps
one_follows : (script : Script) (images : List FileReading) (t : ℕ) (steps : List Step) (first second : Event) →
    Follows script images t steps first → Follows script images t steps second → first ≡ second
one_follows script images t steps first second (map, agree, due) (other, also, next) =
    let given = commands_of (lines_of script t) in
    one_due (task_of script images other t) (order-runs_all (world_of other images) given).exact (without_codes steps) first second
    (named_alone map other images given (without_codes steps) (Err (Stopped first)) (agree_same map other steps agree also) due) next

-- none follows a whole run
none_follows : (script : Script) (images : List FileReading) (t : ℕ) (steps : List Step) (event : Event) →
    IsWhole script images t steps → Follows script images t steps event → ⊥
none_follows script images t steps event (map, agree, end, way) (other, also, due) =
    let given = commands_of (lines_of script t) in
    let same : ◌≡◌ {A = Ending (List CommandEnd)} (Ok end) (Err (Stopped event)) =
    one_ending (task_of script images other t) (order-runs_all (world_of other images) given).exact (without_codes steps) (Ok end) (Err (Stopped event))
    (named_alone map other images given (without_codes steps) (Ok end) (agree_same map other steps agree also) way) due in
    cc same

-- a good journal in the turns of a schedule, by the steps of its threads
by_steps : DueEventsFit → (script : Script) (images : List FileReading) (schedule : List ℕ) (journal : List Entry) (ends : List (List CommandEnd)) →
    RunsScript script images schedule journal ends →
    IsRunOf (own_steps code_of) (Follows script images) (IsWhole script images) (files_of script images) (length script.threads) schedule journal
by_steps due_events_fit script images schedule journal ends run = record {
  legal = run.good.legal;
  turns = run.turns;
  of_threads = run.good.threads;
  followed = λ before entry after parts.
      let t = entry.thread in (
        assembly_of journal,
        agree_front (assembly_of journal) (own_steps code_of before t) (steps_after code_of t before (entry ∷ after))
            (subst (AgreeWith (assembly_of journal)) (ap (λ j. own_steps code_of j t) parts ∙ own_steps-append code_of before (entry ∷ after) t) (agree t)),
        subst (λ own. IsDue (task_of script images (assembly_of journal) t) own entry.event) (sym (own_steps-entries code_of before t))
            (was_due script images journal ends run.good before entry after parts),
      );
  whole = λ t within.
      let whole = runs_at script images journal ends run.good t within in (
        assembly_of journal,
        agree t,
        whole.0,
        subst (λ own. IsWay (task_of script images (assembly_of journal) t) own (Ok whole.0)) (sym (own_steps-entries code_of journal t)) whole.1,
      );
}
  where
    agree : (t : ℕ) → AgreeWith (assembly_of journal) (own_steps code_of journal t)
    agree t = own_steps-agree (files_of script images) journal t (good_is_proper_each due_events_fit script images journal ends run.good)

-- lists of one length with the same elements are one
same_elements : {X : Type 0} (xs ys : List X) → length xs ≡ length ys →
    ((i : ℕ) (x y : X) → slice_get xs i ≡ Some x → slice_get ys i ≡ Some y → x ≡ y) → xs ≡ ys
same_elements [] [] long each = refl
same_elements [] (y ∷ ys) long each = absurd (omega arith)
same_elements (x ∷ xs) [] long each = absurd (omega arith)
same_elements (x ∷ xs) (y ∷ ys) long each =
    let first : x ≡ y = each 0 x y refl refl in
    ap (λ z. z ∷ xs) first ∙ ap (λ zs. y ∷ zs) (same_elements xs ys (omega arith) (λ i a b at_x at_y. each (suc i) a b at_x at_y))

pub one_run_each : DueEventsFit → HasOneRun
one_run_each due_events_fit script images schedule journal other ends others first second =
    let same : journal ≡ other =
    one_journal_of_steps code_of (Follows script images) (IsWhole script images) (one_follows script images) (none_follows script images)
    (files_of script images) (length script.threads) schedule journal other
    (by_steps due_events_fit script images schedule journal ends first) (by_steps due_events_fit script images schedule other others second) in
    let told : (i : ℕ) (x y : List CommandEnd) → slice_get ends i ≡ Some x → slice_get others i ≡ Some y → x ≡ y =
    λ i x y at_x at_y.
    let index : i < length script.threads = omega (arith, found_within ends i x at_x, first.good.one_end_each) in
    let lines = some_within script.threads i index in
    let run = second.good.runs i lines.0 y lines.1 at_y in
    let too : RunsThread (commands_of lines.0) (assembly_of journal) images (own_entries journal (i + 1)) y =
    subst (λ j. RunsThread (commands_of lines.0) (assembly_of j) images (own_entries j (i + 1)) y) (sym same) run in
    (one_end_each (commands_of lines.0) (assembly_of journal) images (own_entries journal (i + 1)) [] x y
    (first.good.runs i lines.0 x lines.1 at_x)
    (subst (λ own. RunsThread (commands_of lines.0) (assembly_of journal) images own y) (sym (append-nil (own_entries journal (i + 1)))) too)).1 in
    (same, same_elements ends others (first.good.one_end_each ∙ sym second.good.one_end_each) told)
  where
    found_within : {X : Type 0} (xs : List X) (i : ℕ) (x : X) → slice_get xs i ≡ Some x → i < length xs
    found_within [] i x found = cc
    found_within (y ∷ ys) zero x found = omega arith
    found_within (y ∷ ys) (suc i) x found = let below = found_within ys i x found in omega arith
