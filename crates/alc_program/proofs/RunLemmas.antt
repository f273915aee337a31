-- A run of a script: the shares of its threads, and what their flows leave.
use Rattle.std.proofs.Common.{◌≡◌, ℕ, zero, suc, ◌+◌, ◌*◌, ◌<◌, ◌≤◌, ◌^◌, Bool, true, false, not, cond, List, [], ◌∷◌, ◌++◌, length, map, take, get_or, All, Option, Some, refl, sym, ap, subst, ◌∙◌, sum_by, min, arith}
use Rattle.std.specs.Prelude.{IsSome}
use Rattle.std.specs.List.{AllByRecursion, filter, flat_map, slice_get}
use Rattle.std.specs.Option.{option_map, option_map_or}
use Rattle.std.proofs.lemmas.Bool.{and_parts}
use Rattle.std.proofs.lemmas.Bool.Decides.{nat_tests}
use Rattle.std.proofs.lemmas.List.{length-append, length-map, length-take, take_more}
use Rattle.std.proofs.lemmas.List.Elements.{All-cons, All-nil, filter-append}
use Rattle.std.proofs.lemmas.List.Sums.{sum_by-append, sum_by-cons}
use Rattle.assembly_image.specs.Reading.{FileReading}
use Rattle.bind_flow.specs.declared.images.ImageCode.{ImageCode}
use Rattle.bind_flow.specs.Flow.{CanCome}
use Rattle.bind_flow.specs.Images.{reading_at}
use Rattle.host_core.specs.declared.bounds.Bounds.{Bounds}
use Rattle.host_core.specs.declared.bounds.Share.{Share}
use Rattle.host_core.specs.Accepted.{IsAccepted}
use Rattle.host_core.specs.Allowed.{Fixed, IsAllowed, makes_context_by, makes_handle_by, sets_rule_by}
use Rattle.host_core.specs.Bounds.{CanSum, bounds_of, part_of}
use Rattle.host_events.specs.Rooms.{most_contexts}
use Rattle.host_core.specs.Core.{fixed_by}
use Rattle.host_events.specs.declared.event.Event.{Event}
use Rattle.host_events.specs.declared.journal.Entry.{Entry}
use Rattle.host_events.specs.declared.order.Order.{Order}
use Rattle.host_events.specs.declared.outcome.CommandEnd.{CommandEnd}
use Rattle.host_events.specs.Assemblies.{assembly_of, code_of}
use Rattle.host_events.specs.Flows.{Stand}
use Rattle.host_events.specs.Steps.{own_steps}
use Rattle.host_events.proofs.Steps.{own_steps-entries}
use Rattle.host_events.proofs.Told.{own_steps-agree}
use Rattle.host_script.specs.declared.command.Command.{Command}
use Rattle.host_script.specs.declared.command.Command.TheVariants as commands
use Rattle.host_script.specs.declared.command.CommandLine.{CommandLine}
use Rattle.host_script.specs.declared.command.ScriptAnswer.{ScriptAnswer}
use Rattle.host_script.specs.declared.command.ScriptAnswer.TheVariants as answers
use Rattle.host_script.specs.declared.script.Script.{Script}
use Rattle.host_script.specs.Worded.{AreWorded, IsWorded, IsWordedAnswer}
use Rattle.host_threads.specs.Drive.{CanDrive}
use Rattle.host_threads.specs.Turns.{IsOfThreads, TakesTurns}
use Rattle.command_flow.specs.Events.{answer_image, is_built}
use Rattle.command_flow.specs.Flow.{HasImage, IsAsked, IsEnd, IsLeave, Thread, fresh, most_events}
use Rattle.command_flow.specs.Run.{RunsThread, most_within}
use Rattle.alc_program.specs.Good.{RunsScript, commands_of, plan_of}
use Rattle.alc_program.specs.Images.{files_of}
use Rattle.alc_program.specs.Shares.{asks_for, count_for, share_for}
use Rattle.alc_program.specs.Unbuilt.{command_lines, is_collecting, is_run, lines_not_run, unbuilt_lines}
use Rattle.alc_program.proofs.DriveLemmas.{can_drive}
use Rattle.alc_program.proofs.FilesLemmas.{some_at}
use Rattle.alc_program.proofs.UnbuiltLemmas.{not_run-append}

length-filter-le : {X : Type 0} (p : X → Bool) (xs : List X) → length (filter p xs) ≤ length xs
length-filter-le p [] = omega arith
length-filter-le p (x ∷ xs) = at (p x) (length-filter-le p xs)
  where
    at : (b : Bool) → length (filter p xs) ≤ length xs → length (cond b (x ∷ filter p xs) (filter p xs)) ≤ length (x ∷ xs)
    at true h = omega arith
    at false h = omega arith

pub count-le : (test : Event → Bool) (lines : List CommandLine) → count_for test lines ≤ length lines
count-le test lines = length-filter-le (λ line. asks_for test line.command) lines

-- a part of the shares is at most all commands
sum-le : (part : Share → ℕ) → ((lines : List CommandLine) → part (share_for lines) ≤ length lines) → (threads : List (List CommandLine)) →
    sum_by part (map share_for threads) ≤ sum_by length threads
sum-le part each [] = omega arith
sum-le part each (t ∷ ts) =
    omega (arith, each t, sum-le part each ts, sum_by-cons part (share_for t) (map share_for ts), sum_by-cons (λ (l : List CommandLine). length l) t ts)

-- a command makes 1,002 entries at most
most-le : (command : Command) → most_events command ≤ 1002
unfolding most_within
most-le (commands.New context fixed) = omega arith
most-le (commands.On context name answer) = omega arith
most-le (commands.Resolving context name answer) = omega arith
most-le (commands.Resolve name answer) = omega arith
most-le (commands.Load context image) = omega arith
most-le (commands.Bind context name version) = omega arith
most-le (commands.Call context name type_name method args) = omega arith
most-le (commands.Hold handle context name type_name method) = omega arith
most-le (commands.Invoke handle args) = omega arith
most-le (commands.DropHandle handle) = omega arith
most-le (commands.Weak handle context) = omega arith
most-le (commands.Alive handle) = omega arith
most-le (commands.Unload context) = omega arith
most-le commands.Collect = omega arith

-- the most entries of some commands
abbrev pub events_for : List CommandLine → ℕ
events_for lines = sum_by (λ line. most_events line.command) lines

events-le : (lines : List CommandLine) → events_for lines ≤ 1002 * length lines
events-le [] = omega arith
events-le (line ∷ lines) =
    omega (arith, most-le line.command, events-le lines, sum_by-cons (λ (l : CommandLine). most_events l.command) line lines)

-- those of all threads
all_events-le : (threads : List (List CommandLine)) → sum_by (λ (s : Share). s.events) (map share_for threads) ≤ 1002 * sum_by length threads
all_events-le [] = omega arith
all_events-le (t ∷ ts) =
    omega (arith, events-le t, all_events-le ts, sum_by-cons (λ (s : Share). s.events) (share_for t) (map share_for ts), sum_by-cons (λ (l : List CommandLine). length l) t ts)

pub can_sum : (threads : List (List CommandLine)) → 1 ≤ length threads → length threads ≤ 8 → sum_by length threads ≤ 1024 →
    CanSum (map share_for threads)
can_sum threads some few commands =
    let count : length (map share_for threads) ≡ length threads = length-map threads share_for in
    record {
      some = omega arith;
      threads = omega arith;
      events = omega (arith, all_events-le threads);
      contexts = omega (arith, sum-le (λ share. share.contexts) (λ lines. count-le makes_context_by lines) threads);
      handles = omega (arith, sum-le (λ share. share.handles) (λ lines. count-le makes_handle_by lines) threads);
      rules = omega (arith, sum-le (λ share. share.rules) (λ lines. count-le sets_rule_by lines) threads);
    }

pub few_contexts : (threads : List (List CommandLine)) → sum_by length threads ≤ 1024 → (bounds_of (map share_for threads)).contexts ≤ most_contexts
few_contexts threads commands = omega (arith, sum-le (λ share. share.contexts) (λ lines. count-le makes_context_by lines) threads)

-- one thread has no more commands than all
pub length-le_sum : (threads : List (List CommandLine)) (i : ℕ) (d : List CommandLine) → i < length threads → length (get_or threads i d) ≤ sum_by length threads
length-le_sum [] i d lt = absurd (omega arith)
length-le_sum (t ∷ ts) zero d lt = omega (arith, sum_by-cons (λ (l : List CommandLine). length l) t ts)
length-le_sum (t ∷ ts) (suc i) d lt =
    let rest = length-le_sum ts i d (omega arith) in omega (arith, rest, sum_by-cons (λ (l : List CommandLine). length l) t ts)

-- the share of a thread, in the order of the threads
slice_get-map : {X Y : Type 0} (f : X → Y) (xs : List X) (i : ℕ) → slice_get (map f xs) i ≡ option_map f (slice_get xs i)
slice_get-map f [] i = refl
slice_get-map f (x ∷ xs) zero = refl
slice_get-map f (x ∷ xs) (suc i) = slice_get-map f xs i

pub share_at : (threads : List (List CommandLine)) (i : ℕ) (lines : List CommandLine) → slice_get threads i ≡ Some lines →
    (part : Share → ℕ) → part_of part (map share_for threads) (i + 1) ≡ part (share_for lines)
share_at threads i lines at part =
    let next : i + 1 ≡ suc i = omega arith in
    let here : slice_get (map share_for threads) i ≡ Some (share_for lines) = slice_get-map share_for threads i ∙ ap (option_map share_for) at in
    let found : part_of part (map share_for threads) (suc i) ≡ part (share_for lines) = ap (λ (o : Option Share). option_map_or part o 0) here in
    subst (λ n. part_of part (map share_for threads) n ≡ part (share_for lines)) (sym next) found

-- what is found in a mapped list is found in the list
pub mapped_at : {X Y : Type 0} (f : X → Y) (xs : List X) (i : ℕ) (y : Y) → slice_get (map f xs) i ≡ Some y → (x : X) × (slice_get xs i ≡ Some x) × (y ≡ f x)
mapped_at f [] i y found = cc
mapped_at f (x ∷ xs) zero y found = (x, refl, cc)
mapped_at f (x ∷ xs) (suc i) y found = mapped_at f xs i y found

append_none : {X : Type 0} (xs ys : List X) → xs ++ ys ≡ [] → (xs ≡ []) × (ys ≡ [])
append_none [] ys none = (refl, none)
append_none (x ∷ xs) ys none = cc

-- where no line is left out, each command is run
all_built : (all lines : List CommandLine) → lines_not_run all lines ≡ [] → All (λ command. is_built command ≡ true) (commands_of lines)
all_built all [] none = All-nil (λ command. is_built command ≡ true)
all_built all (line ∷ lines) none = at (is_run all line) refl (all_built all lines) none
  where
    at : (b : Bool) → is_run all line ≡ b → (lines_not_run all lines ≡ [] → All (λ command. is_built command ≡ true) (commands_of lines)) →
        map (λ (l : CommandLine). l.line) (cond (not b) (line ∷ filter (λ l. not (is_run all l)) lines) (filter (λ l. not (is_run all l)) lines)) ≡ [] →
        All (λ command. is_built command ≡ true) (commands_of (line ∷ lines))
    at false is rest none = cc
    at true is rest none =
        All-cons (λ command. is_built command ≡ true) line.command (commands_of lines) (and_parts (is_built line.command) _ is).0 (rest none)

each_built : (all : List CommandLine) (threads : List (List CommandLine)) → lines_not_run all (flat_map (λ own. own) threads) ≡ [] →
    All (λ lines. All (λ command. is_built command ≡ true) (commands_of lines)) threads
each_built all [] none = All-nil (λ lines. All (λ command. is_built command ≡ true) (commands_of lines))
each_built all (t ∷ ts) none =
    let parts = append_none (lines_not_run all t) (lines_not_run all (flat_map (λ own. own) ts)) (sym (not_run-append all t (flat_map (λ own. own) ts)) ∙ none) in
    All-cons (λ lines. All (λ command. is_built command ≡ true) (commands_of lines)) t ts (all_built all t parts.0) (each_built all ts parts.1)

pub script_built : (script : Script) → unbuilt_lines script ≡ [] →
    All (λ lines. All (λ command. is_built command ≡ true) (commands_of lines)) script.threads
script_built script none = each_built (command_lines script) script.threads none

-- an image that is one of so many is there
image_there : (images : List FileReading) (n image : ℕ) → n ≡ image → (1 ≤ n) × (n ≤ length images) → IsSome (reading_at images image)
image_there images n zero is within = let low = within.0 in absurd (omega arith)
image_there images n (suc i) is within =
    let high = within.1 in
    let there = some_at images i (omega arith) in
    subst IsSome (sym there.1) refl

answer_there : (images : List FileReading) (answer : ScriptAnswer) → IsWordedAnswer (length images) answer →
    (image : ℕ) → answer_image answer ≡ Some image → IsSome (reading_at images image)
answer_there images (answers.Image n) worded image is = image_there images n image (cc) worded
answer_there images (answers.Share context) worded image is = cc
answer_there images answers.Nothing worded image is = cc

-- the image that a worded command names is there
has_image : (images : List FileReading) (command : Command) → IsWorded (length images) command → HasImage images command
has_image images (commands.New context fixed) worded image is = cc
has_image images (commands.On context name answer) worded image is = answer_there images answer worded.2 image is
has_image images (commands.Resolving context name answer) worded image is = answer_there images answer worded.2 image is
has_image images (commands.Resolve name answer) worded image is = answer_there images answer worded.1 image is
has_image images (commands.Load context n) worded image is = image_there images n image (cc) (worded.1, worded.2)
has_image images (commands.Bind context name version) worded image is = cc
has_image images (commands.Call context name type_name method args) worded image is = cc
has_image images (commands.Hold handle context name type_name method) worded image is = cc
has_image images (commands.Invoke handle args) worded image is = cc
has_image images (commands.DropHandle handle) worded image is = cc
has_image images (commands.Weak handle context) worded image is = cc
has_image images (commands.Alive handle) worded image is = cc
has_image images (commands.Unload context) worded image is = cc
has_image images commands.Collect worded image is = cc

have_images : (images : List FileReading) (lines : List CommandLine) → AreWorded (length images) lines → All (HasImage images) (commands_of lines)
have_images images [] worded = All-nil (HasImage images)
have_images images (line ∷ lines) worded =
    All-cons (HasImage images) line.command (commands_of lines) (has_image images line.command worded.0) (have_images images lines worded.1)

pub script_images : (images : List FileReading) (threads : List (List CommandLine)) → AllByRecursion (AreWorded (length images)) threads →
    All (λ lines. All (HasImage images) (commands_of lines)) threads
script_images images [] worded = All-nil (λ lines. All (HasImage images) (commands_of lines))
script_images images (t ∷ ts) worded =
    All-cons (λ lines. All (HasImage images) (commands_of lines)) t ts (have_images images t worded.0) (script_images images ts worded.1)

-- how many ask for it, of one command more
pub count_more : (test : Event → Bool) (lines : List CommandLine) (i : ℕ) (line : CommandLine) (count one : ℕ) →
    i < length lines → line ≡ get_or lines i line → count ≡ count_for test (take i lines) → one ≡ cond (asks_for test line.command) 1 0 →
    count + one ≡ count_for test (take (i + 1) lines)
count_more test lines i line count one lt is so_far now =
    let at_end : take (i + 1) lines ≡ take i lines ++ line ∷ [] = take_more lines i line lt ∙ ap (λ x. take i lines ++ x ∷ []) (sym is) in
    omega (
      arith,
      so_far,
      now,
      ap (λ ls. count_for test ls) at_end,
      ap length (filter-append (λ l. asks_for test l.command) (take i lines) (line ∷ [])),
      length-append (filter (λ l. asks_for test l.command) (take i lines)) (filter (λ l. asks_for test l.command) (line ∷ [])),
      last (asks_for test line.command),
    )
  where
    last : (b : Bool) → length (cond b (line ∷ []) []) ≡ cond b 1 0
    last true = refl
    last false = refl

-- one command counts as one or as none
pub counted : (b passes : Bool) (one : ℕ) → passes ≡ b → one ≡ cond passes 1 0 → one ≡ cond b 1 0
counted b passes one same is = is ∙ ap (λ p. cond {A = ℕ} p 1 0) same

one-le : (b : Bool) (one : ℕ) → one ≡ cond b 1 0 → one ≤ 1
one-le true one is = omega (arith, is)
one-le false one is = omega (arith, is)

min-le : (a b : ℕ) → min a b ≤ a
min-le a b = grind (arith, nat_tests)

count-le-index : (test : Event → Bool) (lines : List CommandLine) (i : ℕ) → count_for test (take i lines) ≤ i
count-le-index test lines i = omega (arith, count-le test (take i lines), length-take i lines, min-le i (length lines))

pub fits_more : (test : Event → Bool) (lines : List CommandLine) (i : ℕ) (line : CommandLine) (count one : ℕ) →
    i < length lines → length lines ≤ 1024 → count ≡ count_for test (take i lines) → one ≡ cond (asks_for test line.command) 1 0 →
    count + one < 2 ^ 32
fits_more test lines i line count one lt few so_far now =
    omega (arith, so_far, count-le-index test lines i, one-le (asks_for test line.command) one now)

-- the most entries, of one command more
pub events_more : (lines : List CommandLine) (i : ℕ) (line : CommandLine) (count one : ℕ) → i < length lines → line ≡ get_or lines i line →
    count ≡ events_for (take i lines) → one ≡ most_events line.command → count + one ≡ events_for (take (i + 1) lines)
events_more lines i line count one lt is so_far now =
    let most : CommandLine → ℕ = λ l. most_events l.command in
    let at_end : take (i + 1) lines ≡ take i lines ++ line ∷ [] = take_more lines i line lt ∙ ap (λ x. take i lines ++ x ∷ []) (sym is) in
    omega (arith, so_far, now, ap events_for at_end, sum_by-append most (take i lines) (line ∷ []), sum_by-cons most line [])

pub fits_events : (lines : List CommandLine) (i : ℕ) (line : CommandLine) (count one : ℕ) → i < length lines → length lines ≤ 1024 →
    count ≡ events_for (take i lines) → one ≡ most_events line.command → count + one < 2 ^ 32
fits_events lines i line count one lt few so_far now =
    omega (arith, so_far, now, most-le line.command, events-le (take i lines), length-take i lines, min-le i (length lines))

-- a thread has no more commands than all
pub found_length : (threads : List (List CommandLine)) (i : ℕ) (lines : List CommandLine) → slice_get threads i ≡ Some lines → length lines ≤ sum_by length threads
found_length [] i lines found = cc
found_length (t ∷ ts) zero lines found =
    let same : t ≡ lines = cc in omega (arith, ap (λ (l : List CommandLine). length l) same, sum_by-cons (λ (l : List CommandLine). length l) t ts)
found_length (t ∷ ts) (suc i) lines found =
    omega (arith, found_length ts i lines found, sum_by-cons (λ (l : List CommandLine). length l) t ts)

pub fresh_stand : (images : List FileReading) (lines : List CommandLine) (flow : Thread) → flow ≡ fresh (plan_of images lines) →
    (flow.stand ≡ Stand.Fresh) × (flow.trace ≡ [])
fresh_stand images lines flow is = subst (λ (f : Thread). (f.stand ≡ Stand.Fresh) × (f.trace ≡ [])) (sym is) (refl, refl)

-- the commands of a thread are worded
worded_at : (count : ℕ) (threads : List (List CommandLine)) (i : ℕ) (lines : List CommandLine) → AllByRecursion (AreWorded count) threads →
    slice_get threads i ≡ Some lines → AreWorded count lines
worded_at count [] i lines worded found = cc
worded_at count (t ∷ ts) zero lines worded found = let same : t ≡ lines = cc in subst (AreWorded count) same worded.0
worded_at count (t ∷ ts) (suc i) lines worded found = worded_at count ts i lines worded.1 found

-- the flows of the threads of a script can be driven over a host that is opened for it
module _ (script : Script) (images : List FileReading) (count : length images ≡ length script.images) (built : unbuilt_lines script ≡ [])
    (worded : AllByRecursion (AreWorded (length script.images)) script.threads)
    (bounds : Bounds) (made : bounds ≡ bounds_of (map share_for script.threads)) where
  abbrev Drives : Fixed → Thread → ℕ → Type 0
  Drives fixed flow thread =
      CanDrive (λ (o : Order ImageCode). o.event) (IsAllowed fixed) (λ journal t order. IsAccepted (λ (code : ImageCode). code.image) fixed journal t order)
      code_of (IsAsked flow.plan) (IsLeave flow.plan) (λ trace order reply code. CanCome flow.plan.images trace order reply code) thread

  pub flow_drives : (fixed : Fixed) (flows : List Thread) (i : ℕ) (flow : Thread) → fixed ≡ fixed_by bounds (files_of script images) (is_collecting script) →
      flows ≡ map (λ lines. fresh (plan_of images lines)) script.threads → slice_get flows i ≡ Some flow → Drives fixed flow (i + 1)
  flow_drives fixed flows i flow is begun found =
      let at = mapped_at (λ lines. fresh (plan_of images lines)) script.threads i flow (ap (λ fs. slice_get fs i) (sym begun) ∙ found) in
      let shares : (part : Share → ℕ) → part_of part bounds.shares (i + 1) ≡ part (share_for at.0) =
      λ part. ap (λ (b : Bounds). part_of part b.shares (i + 1)) made ∙ share_at script.threads i at.0 at.1 part in
      let all : AllByRecursion (AreWorded (length images)) script.threads = subst (λ n. AllByRecursion (AreWorded n) script.threads) (sym count) worded in
      let are : AreWorded (length images) at.0 = worded_at (length images) script.threads i at.0 all at.1 in
      subst (λ (f : Fixed). Drives f flow (i + 1)) (sym is)
      (subst (λ (f : Thread). Drives (fixed_by bounds (files_of script images) (is_collecting script)) f (i + 1)) (sym at.2)
      (can_drive script images bounds i at.0 at.1 shares are built))

map_at : {X Y : Type 0} (f : X → Y) (xs : List X) (i : ℕ) (x : X) → slice_get xs i ≡ Some x → slice_get (map f xs) i ≡ Some (f x)
map_at f xs i x at = slice_get-map f xs i ∙ ap (option_map f) at

-- what the drive of the flows leaves is a run of the script
pub driven : (script : Script) (images : List FileReading) (schedule : List ℕ) (bounds : Bounds) (flows : List Thread) (journal : List Entry) (ends : List (List CommandEnd)) →
    flows ≡ map (λ lines. fresh (plan_of images lines)) script.threads →
    IsAllowed (fixed_by bounds (files_of script images) (is_collecting script)) journal →
    IsOfThreads (length flows) journal → TakesTurns (length flows) journal schedule → length ends ≡ length flows →
    ((i : ℕ) (flow : Thread) (end : List CommandEnd) → slice_get flows i ≡ Some flow → slice_get ends i ≡ Some end →
    IsEnd flow.plan (own_steps code_of journal (i + 1)) end) → RunsScript script images schedule journal ends
driven script images schedule bounds flows journal ends begun allowed threads turns count each =
    let all : length flows ≡ length script.threads = ap length begun ∙ length-map script.threads (λ lines. fresh (plan_of images lines)) in
    record {
      good = record {
        legal = allowed.proper.legal;
        threads = subst (λ n. IsOfThreads n journal) all threads;
        one_end_each = count ∙ all;
        runs = λ i lines end at_lines at_end.
            let at_flow = ap (λ fs. slice_get fs i) begun ∙ map_at (λ ls. fresh (plan_of images ls)) script.threads i lines at_lines in
            let agree = own_steps-agree (files_of script images) journal (i + 1) allowed.proper in
            subst (λ steps. RunsThread (commands_of lines) (assembly_of journal) images steps end) (own_steps-entries code_of journal (i + 1))
            (each i (fresh (plan_of images lines)) end at_flow at_end (assembly_of journal) agree);
      };
      turns = subst (λ n. TakesTurns n journal schedule) all turns;
    }

pub commands-length : (lines : List CommandLine) → length (commands_of lines) ≡ length lines
commands-length lines = length-map lines (λ (line : CommandLine). line.command)

pub flow_found : (flows others : List Thread) (i : ℕ) (flow : Thread) → flows ≡ others → slice_get flows i ≡ Some flow → slice_get others i ≡ Some flow
flow_found flows others i flow same found = ap (λ fs. slice_get fs i) (sym same) ∙ found
