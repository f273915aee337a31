-- Rules that were set, and what they answer (after Microsoft's "Managed assembly loading algorithm"; the lists
-- of rules are this project's own). Names are compared without regard to ASCII case.
use Rattle.std.specs.Prelude.{ℕ, Bool, true, false, ◌&&◌, List, map, Option, Some, None, if◌then◌else◌}
use Rattle.std.specs.List.{filter_map, find, last_or}
use Rattle.std.specs.Option.{option_and_then, option_map_or}
use Rattle.cli_words.specs.Text.{are_alike}
use Rattle.host_events.specs.declared.event.AskStep.{AskStep}
use Rattle.host_events.specs.declared.event.AskStep.TheVariants as steps
use Rattle.host_events.specs.declared.event.Event.{Event}
use Rattle.host_events.specs.declared.event.Event.TheVariants as events
use Rattle.host_events.specs.declared.event.RuleAnswer.{RuleAnswer}
use Rattle.host_events.specs.declared.event.RuleAnswer.TheVariants as answers
use Rattle.host_events.specs.declared.event.RuleAt.{RuleAt}
use Rattle.host_events.specs.declared.event.RuleAt.TheVariants as places
use Rattle.host_events.specs.declared.journal.Entry.{Entry}
use Rattle.host_events.specs.declared.reply.Reply.{Reply}
use Rattle.host_events.specs.declared.reply.Reply.TheVariants as replies
use Rattle.host_events.specs.Bindings.{binding}
use Rattle.host_events.specs.Contexts.{is_number, named}
use Rattle.host_events.specs.Files.{Files, first_image}

-- the context in which a reply says that a rule was set
abbrev pub set_context : Reply → Option ℕ
set_context (replies.Exists c) = None
set_context (replies.Made c) = None
set_context replies.NoContext = None
set_context (replies.Unloading c) = None
set_context (replies.Set c) = Some c
set_context (replies.Entered k c) = None
set_context replies.NoHandle = None
set_context (replies.EnteredAt k c a m) = None
set_context replies.Miss = None
set_context (replies.Hit a) = None
set_context (replies.Low a) = None
set_context (replies.Image i) = None
set_context (replies.Foreign a) = None
set_context replies.Nothing = None
set_context (replies.Lost a) = None
set_context (replies.NotCollectible a) = None
set_context (replies.Shared a) = None
set_context (replies.Bound a) = None
set_context (replies.Placed c) = None
set_context (replies.Value value) = None
set_context replies.Stored = None
set_context replies.InUse = None
set_context (replies.Held c) = None
set_context replies.Dropped = None
set_context (replies.Weakly c) = None
set_context (replies.Alive c) = None
set_context (replies.Gone c) = None
set_context (replies.Fixed c) = None
set_context (replies.Already c) = None
set_context (replies.Freed contexts) = None
set_context replies.Left = None

-- a test of whether a step asks the rules that stand at such a place
abbrev pub asks_place : AskStep → RuleAt → Bool
asks_place steps.Load (places.On name) = true
asks_place steps.Load (places.Resolving name) = false
asks_place steps.Load places.Resolve = false
asks_place steps.Default (places.On name) = false
asks_place steps.Default (places.Resolving name) = false
asks_place steps.Default places.Resolve = false
asks_place steps.Resolving (places.On name) = false
asks_place steps.Resolving (places.Resolving name) = true
asks_place steps.Resolving places.Resolve = false
asks_place steps.Resolve (places.On name) = false
asks_place steps.Resolve (places.Resolving name) = false
asks_place steps.Resolve places.Resolve = true

-- the rules of AssemblyResolve are those of all contexts; they are set in context 0
abbrev pub rules_context : AskStep → ℕ → ℕ
rules_context steps.Load c = c
rules_context steps.Default c = c
rules_context steps.Resolving c = c
rules_context steps.Resolve c = 0

-- what the rule answers that an event sets, if a step asks rules at its place and it is for this name
abbrev pub answer_set : AskStep → List ℕ → Event → Option RuleAnswer
answer_set asking n (events.New name kind) = None
answer_set asking n (events.Rule place name answer) = if asks_place asking place && are_alike name n then Some answer else None
answer_set asking n (events.Enter name) = None
answer_set asking n (events.EnterHandle handle) = None
answer_set asking n (events.Lookup context name version) = None
answer_set asking n (events.Ask step context name) = None
answer_set asking n (events.Publish context name candidate) = None
answer_set asking n (events.Place user key) = None
answer_set asking n (events.LoadStatic key field kind) = None
answer_set asking n (events.StoreStatic key field value) = None
answer_set asking n (events.Hold handle assembly method) = None
answer_set asking n (events.DropHandle handle) = None
answer_set asking n (events.Weak handle name) = None
answer_set asking n (events.Alive handle) = None
answer_set asking n (events.Unload name) = None
answer_set asking n events.Collect = None
answer_set asking n (events.Leave operation) = None

-- what the rule answers that an event with its reply set for a step in context c
abbrev pub rule_by : AskStep → ℕ → List ℕ → Event → Reply → Option RuleAnswer
rule_by step c n event reply =
    if is_number (rules_context step c) (set_context reply) then answer_set step n event else None

-- what the rules answer that a step asks in a context for a name, in the order in which they were set
abbrev pub rules_for : List Entry → AskStep → ℕ → List ℕ → List RuleAnswer
rules_for journal step c n = filter_map (λ entry. rule_by step c n entry.event entry.reply) journal

-- an assembly is a candidate, if there is one
abbrev pub foreign : Option ℕ → Reply
foreign None = replies.Nothing
foreign (Some a) = replies.Foreign a

-- what comes of a rule's answer for a name: an image, the assembly that a context has under the name, or nothing
abbrev pub given_by : List Entry → List ℕ → RuleAnswer → Reply
given_by journal n (answers.Image image) = replies.Image image
given_by journal n (answers.Share context) = foreign (option_and_then (λ c. binding journal c n) (named journal context))
given_by journal n answers.Nothing = replies.Nothing

-- a test of whether the reply names a candidate
abbrev pub is_candidate : Reply → Bool
is_candidate (replies.Exists c) = false
is_candidate (replies.Made c) = false
is_candidate replies.NoContext = false
is_candidate (replies.Unloading c) = false
is_candidate (replies.Set c) = false
is_candidate (replies.Entered k c) = false
is_candidate replies.NoHandle = false
is_candidate (replies.EnteredAt k c a m) = false
is_candidate replies.Miss = false
is_candidate (replies.Hit a) = false
is_candidate (replies.Low a) = false
is_candidate (replies.Image i) = true
is_candidate (replies.Foreign a) = true
is_candidate replies.Nothing = false
is_candidate (replies.Lost a) = false
is_candidate (replies.NotCollectible a) = false
is_candidate (replies.Shared a) = false
is_candidate (replies.Bound a) = false
is_candidate (replies.Placed c) = false
is_candidate (replies.Value value) = false
is_candidate replies.Stored = false
is_candidate replies.InUse = false
is_candidate (replies.Held c) = false
is_candidate replies.Dropped = false
is_candidate (replies.Weakly c) = false
is_candidate (replies.Alive c) = false
is_candidate (replies.Gone c) = false
is_candidate (replies.Fixed c) = false
is_candidate (replies.Already c) = false
is_candidate (replies.Freed contexts) = false
is_candidate replies.Left = false

abbrev pub or_nothing : Option Reply → Reply
or_nothing None = replies.Nothing
or_nothing (Some reply) = reply

-- the first candidate of some replies
abbrev pub first_candidate : List Reply → Reply
first_candidate given = or_nothing (find is_candidate given)

-- an image is a candidate, if there is one
abbrev pub found_image : Option ℕ → Reply
found_image None = replies.Nothing
found_image (Some image) = replies.Image image

-- what every context finds by itself: what context 0 has under the name, else the image of the first file of that name
abbrev pub default_for : Files → List ℕ → Option ℕ → Reply
default_for files n (Some a) = replies.Foreign a
default_for files n None = found_image (first_image files n)

-- What a step of a bind is given. Of Load rules the one that was set last answers, of others the first that
-- names a candidate.
abbrev pub reply_to_ask : Files → List Entry → AskStep → ℕ → List ℕ → Reply
reply_to_ask files journal steps.Load c n =
    option_map_or (given_by journal n) (last_or None (rules_for journal steps.Load c n)) replies.Nothing
reply_to_ask files journal steps.Default c n = default_for files n (binding journal 0 n)
reply_to_ask files journal steps.Resolving c n =
    first_candidate (map (given_by journal n) (rules_for journal steps.Resolving c n))
reply_to_ask files journal steps.Resolve c n =
    first_candidate (map (given_by journal n) (rules_for journal steps.Resolve c n))
