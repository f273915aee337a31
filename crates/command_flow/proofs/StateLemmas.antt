-- How a thread goes from one event to the next.
use Rattle.std.proofs.Common.{◌≡◌, ◌∙◌, ◌+◌, ◌<◌, ◌≤◌, ℕ, zero, suc, sym, ap, subst, refl, Bool, true, false, List, [], ◌∷◌, ◌++◌, length, slice_get, sum_by, Option, Some, None, IsSome, Ok, append_assoc, arith}
use Rattle.std.proofs.lemmas.Bool.{eq-eqb}
use Rattle.std.proofs.lemmas.List.{append-nil, length-append, length_push}
use Rattle.std.proofs.lemmas.List.Sums.{sum_by-append, sum_by-cons, sum_by_push}
use Rattle.host_events.specs.declared.event.Candidate.TheVariants as candidates
use Rattle.host_events.specs.declared.event.Event.{Event}
use Rattle.host_events.specs.declared.event.Event.TheVariants as events
use Rattle.host_events.specs.declared.order.CodeOf.{CodeOf}
use Rattle.host_events.specs.declared.order.Order.{Order}
use Rattle.host_events.specs.declared.outcome.CommandEnd.{CommandEnd}
use Rattle.host_events.specs.declared.outcome.Outcome.{Outcome}
use Rattle.host_events.specs.declared.outcome.Outcome.TheVariants as outcomes
use Rattle.host_events.specs.declared.reply.Reply.{Reply}
use Rattle.host_events.specs.declared.reply.Reply.TheVariants as replies
use Rattle.host_events.specs.Asking.{Asking, IsWay}
use Rattle.host_events.specs.Operations.{begun_count, begun_operation, is_command, open_in}
use Rattle.host_events.specs.Contexts.{named}
use Rattle.host_events.specs.Bindings.{binding}
use Rattle.host_events.specs.Reply.{IsReply, reply_to_publish}
use Rattle.host_events.specs.declared.journal.Entry.{Entry}
use Rattle.assembly_image.specs.Names.{assembly_name}
use Rattle.host_events.specs.Steps.{Step, AgreeWith, step_of, without_codes}
use Rattle.host_events.specs.Task.{give}
use Rattle.host_events.proofs.Cases.{enter-each}
use Rattle.host_events.proofs.Operations.{begun-command}
use Rattle.bind_flow.specs.declared.images.ImageCode.{ImageCode}
use Rattle.bind_flow.specs.Flow.{CanCome, world_of}
use Rattle.bind_flow.specs.Images.{World}
use Rattle.bind_flow.specs.State.{is_publication}
use Rattle.host_script.specs.declared.command.Command.{Command}
use Rattle.command_flow.specs.declared.turn.Wait.TheVariants as waits
use Rattle.command_flow.specs.Flow.{Plan, is_bind, is_last, is_last_by, most_events, progress_of}
use Rattle.command_flow.specs.Run.{end_of, entered, loads, most_within, runs, within_limit}
use Rattle.command_flow.specs.State.{CanGo, IsBetween, IsEntered, IsInside, IsLeaving, IsLeft, IsLoading, IsStarting, IsUnderWay, ends_later, goes_on, is_inner, leaves, works}
use Rattle.command_flow.specs.Turns.{entered_turn, loaded, loaded_turn, work_in}
use Rattle.command_flow.proofs.CommandLemmas.{alone-after, alone-is_command, enters-after, enters-parts, some-event}
use Rattle.command_flow.proofs.InnerLemmas.{begins_none, inner-begins_none, inner-no_end, inner-not_last}
use Rattle.command_flow.proofs.StepLemmas.{not_ended, open-begun, open-left, open-none, open-stays, place-last, place-more}
use Rattle.command_flow.proofs.WayLemmas.{IsAfter, IsLeft-after, IsLeft-first, after-asks, after-command, after-end, after-given, loads-given, within-ended}

-- at first no command has ended
between-first : (plan : Plan) → IsBetween plan [] []
between-first plan = record {
  done = [];
  rest = plan.commands;
  parted = refl;
  counted = refl;
  left = IsLeft-first plan;
  place = refl;
  closed = refl;
  few = omega arith;
}

pub between-fresh : (plan : Plan) (trace : List Step) (ends : List CommandEnd) → trace ≡ [] → ends ≡ [] → IsBetween plan trace ends
between-fresh plan trace ends no_steps no_ends =
    subst (λ (t : List Step). IsBetween plan t ends) (sym no_steps) (subst (λ (es : List CommandEnd). IsBetween plan [] es) (sym no_ends) (between-first plan))

-- the command after so many others
split_at : (done rest : List Command) (n : ℕ) (command : Command) → length done ≡ n → slice_get (done ++ rest) n ≡ Some command →
    (later : List Command) × (rest ≡ command ∷ later)
split_at [] [] n command counted here = cc
split_at [] (c ∷ cs) zero command counted here = let same : c ≡ command = cc here in (cs, ap (λ x. x ∷ cs) same)
split_at [] (c ∷ cs) (suc n) command counted here = absurd (omega (arith, counted))
split_at (d ∷ done) rest zero command counted here = absurd (omega (arith, counted))
split_at (d ∷ done) rest (suc n) command counted here = split_at done rest n command (omega (arith, counted)) here

-- the next command is under way
pub under_way : (plan : Plan) (trace : List Step) (ends : List CommandEnd) (command : Command) → IsBetween plan trace ends → slice_get plan.commands (length ends) ≡ Some command →
    IsUnderWay plan trace ends command (λ world. runs world command) 0
under_way plan trace ends command between here =
    let parts = split_at between.done between.rest (length ends) command between.counted (subst (λ (cs : List Command). slice_get cs (length ends) ≡ Some command) between.parted here) in record {
      done = between.done;
      rest = parts.0;
      parted = between.parted ∙ ap (λ (cs : List Command). between.done ++ cs) parts.1;
      counted = between.counted;
      left = subst (λ (cs : List Command). IsLeft plan trace (λ world. goes_on world cs ends)) parts.1 between.left;
      few = omega (arith, between.few);
    }

-- a step more of a command that is under way
under_way-push : (plan : Plan) (trace : List Step) (ends : List CommandEnd) (command : Command) (left later : World → Asking Outcome) (own : ℕ) (step : Step) →
    IsUnderWay plan trace ends command left own → ((world : World) → IsAfter ((step.event, step.reply) ∷ []) (later world) (left world)) →
    IsUnderWay plan (trace ++ step ∷ []) ends command later (own + 1)
under_way-push plan trace ends command left later own step under after = record {
  done = under.done;
  rest = under.rest;
  parted = under.parted;
  counted = under.counted;
  left = IsLeft-after plan trace (step ∷ []) (λ world. ends_later world under.rest ends (left world)) (λ world. ends_later world under.rest ends (later world)) under.left
      (λ assemblies agree. after-command (world_of assemblies plan.images) under.rest ends ((step.event, step.reply) ∷ []) (later (world_of assemblies plan.images)) (left (world_of assemblies plan.images)) (after (world_of assemblies plan.images)));
  few = omega (arith, under.few, length_push trace step);
}

-- the last step of a command
between-ended : (plan : Plan) (trace : List Step) (ends : List CommandEnd) (command : Command) (left : World → Asking Outcome) (own : ℕ) (step : Step) (outcome : Outcome) (steps : List Step) →
    IsUnderWay plan trace ends command left own → own < most_events command → ((world : World) → IsAfter ((step.event, step.reply) ∷ []) (give outcome) (left world)) →
    progress_of trace ≡ record { ended = length ends; own = steps } → is_last step ≡ true → open_in (without_codes (trace ++ step ∷ [])) ≡ [] →
    IsBetween plan (trace ++ step ∷ []) (ends ++ end_of outcome ∷ [])
between-ended plan trace ends command left own step outcome steps under below after place last closed = record {
  done = under.done ++ command ∷ [];
  rest = under.rest;
  parted = under.parted ∙ sym (append_assoc under.done (command ∷ []) under.rest);
  counted = length_push under.done command ∙ ap (λ n. n + 1) under.counted ∙ sym (length_push ends (end_of outcome));
  left = IsLeft-after plan trace (step ∷ []) (λ world. ends_later world under.rest ends (left world)) (λ world. goes_on world under.rest (ends ++ end_of outcome ∷ [])) under.left
      (λ assemblies agree. after-end (world_of assemblies plan.images) under.rest ends ((step.event, step.reply) ∷ []) outcome (left (world_of assemblies plan.images)) (after (world_of assemblies plan.images)));
  place = place-last trace step (length ends) steps place last ∙ ap (λ n. record { ended = n; own = [] }) (sym (length_push ends (end_of outcome)));
  closed = closed;
  few = omega (arith, under.few, below, length_push trace step, sum_by_push most_events under.done command);
}

-- there is room for one event more where a command makes fewer than it may
pub fewer-under_way : (plan : Plan) (trace : List Step) (ends : List CommandEnd) (command : Command) (left : World → Asking Outcome) (own more : ℕ) →
    IsUnderWay plan trace ends command left own → own + more < most_events command → length trace + more < sum_by most_events plan.commands
fewer-under_way plan trace ends command left own more under below =
    omega (arith, under.few, below, ap (sum_by most_events) under.parted, sum_by-append most_events under.done (command ∷ under.rest), sum_by-cons most_events command under.rest)

-- The one event of a command has its reply.
pub between-alone : (plan : Plan) (trace : List Step) (ends : List CommandEnd) (order : Order ImageCode) (reply : Reply) (code : Option CodeOf) →
    IsStarting plan trace ends waits.Event order.event → CanCome plan.images trace order reply code →
    IsBetween plan (trace ++ step_of order.event reply code ∷ []) (ends ++ end_of (outcomes.Replied reply) ∷ [])
between-alone plan trace ends order reply code starting come =
    let alone = alone-is_command starting.command order.event starting.waits starting.first in
    let none : begun_operation reply ≡ None = begun-command come.files come.journal order.event reply alone come.replied in
    between-ended plan trace ends starting.command (λ world. runs world starting.command) 0 (step_of order.event reply code) (outcomes.Replied reply) []
    (under_way plan trace ends starting.command starting.between starting.here) (some-event starting.command)
    (alone-after starting.command order.event reply starting.waits starting.first) starting.between.place
    (last_alone order.event (begun_operation reply) alone)
    (open-none trace (step_of order.event reply code) starting.between.closed none)
  where
    last_alone : (event : Event) (begun : Option ℕ) → is_command event ≡ true → is_last_by event begun ≡ true
    last_alone (events.Enter name) begun is = cc
    last_alone (events.EnterHandle handle) begun is = cc
    last_alone (events.Leave operation) begun is = refl
    last_alone event begun is = is

-- An operation did not begin: the reply is the outcome.
between-kept_out : (plan : Plan) (trace : List Step) (ends : List CommandEnd) (event : Event) (reply : Reply) (code : Option CodeOf) →
    IsStarting plan trace ends waits.Enter event → begun_operation reply ≡ None → ((work : ℕ → Asking ℕ) → IsAfter [] (give (outcomes.Replied reply)) (entered work reply)) →
    IsBetween plan (trace ++ step_of event reply code ∷ []) (ends ++ end_of (outcomes.Replied reply) ∷ [])
between-kept_out plan trace ends event reply code starting none kept_out =
    let parts = enters-parts starting.command event starting.waits starting.first in
    between-ended plan trace ends starting.command (λ world. runs world starting.command) 0 (step_of event reply code) (outcomes.Replied reply) []
    (under_way plan trace ends starting.command starting.between starting.here) (some-event starting.command)
    (λ world. record {
      ways = λ before after more end way.
          (enters-after starting.command event reply starting.waits starting.first world).ways before after more end
          ((kept_out (λ c. work_in starting.command c world)).ways before after more end way);
    })
    starting.between.place
    (ap (λ (e : Event). is_last_by e (begun_operation reply)) parts.1 ∙ ap (λ o. is_last_by (events.Enter parts.0) o) none)
    (open-none trace (step_of event reply code) starting.between.closed none)

-- An operation began.
inside-first : (plan : Plan) (trace : List Step) (ends : List CommandEnd) (order : Order ImageCode) (k c : ℕ) (code : Option CodeOf) →
    IsStarting plan trace ends waits.Enter order.event → CanCome plan.images trace order (replies.Entered k c) code →
    IsEntered plan (trace ++ step_of order.event (replies.Entered k c) code ∷ []) ends k c
inside-first plan trace ends order k c code starting come =
    let step = step_of order.event (replies.Entered k c) code in
    let command = starting.command in
    let parts = enters-parts command order.event starting.waits starting.first in
    let begun = not_ended come.files come.journal come.thread come.fitting.before trace order.event (replies.Entered k c) k come.fitting.proper come.fitting.own come.replied refl in record {
      command = command;
      here = starting.here;
      waits = starting.waits;
      inside = record {
        outer = trace ++ step ∷ [];
        parted = sym (append-nil (trace ++ step ∷ []));
        command = command;
        under_way = under_way-push plan trace ends command (λ world. runs world command) (λ world. works k (work_in command c world)) 0 step
            (under_way plan trace ends command starting.between starting.here)
            (enters-after command order.event (replies.Entered k c) starting.waits starting.first);
        most = parts.2;
        first = step;
        unpublished = ap is_publication parts.1;
        place = place-more trace step (length ends) [] starting.between.place (ap (λ (e : Event). is_last_by e (Some k)) parts.1);
        opened = open-begun trace step k starting.between.closed refl (ap (Rattle.host_events.specs.Operations.ends k) parts.1) begun;
        bound = ap is_bind starting.here;
      };
    }

-- the first event of an operation has its reply
pub can_go-entered : (plan : Plan) (trace : List Step) (ends : List CommandEnd) (order : Order ImageCode) (reply : Reply) (code : Option CodeOf) →
    IsStarting plan trace ends waits.Enter order.event → CanCome plan.images trace order reply code →
    CanGo plan (trace ++ step_of order.event reply code ∷ []) ends (entered_turn reply)
can_go-entered plan trace ends order reply code starting come =
    let parts = enters-parts starting.command order.event starting.waits starting.first in
    let P : Reply → Type 0 = λ r. CanCome plan.images trace order r code → CanGo plan (trace ++ step_of order.event r code ∷ []) ends (entered_turn r) in
    let replied = subst (λ (e : Event). IsReply come.files come.journal e reply) parts.1 come.replied in
    subst P (sym replied)
    (enter-each P come.journal (named come.journal parts.0)
    (λ came. between-kept_out plan trace ends order.event replies.NoContext code starting refl (λ work. record { ways = λ before after more end way. way }))
    (λ c came. between-kept_out plan trace ends order.event (replies.Unloading c) code starting refl (λ work. record { ways = λ before after more end way. way }))
    (λ c came. inside-first plan trace ends order (begun_count come.journal + 1) c code starting came))
    come

-- An event within an operation has its reply.
pub inside-push : (plan : Plan) (trace : List Step) (ends : List CommandEnd) (k : ℕ) (inner : List Step) (work : World → Asking ℕ) (bind : Bool)
    (order : Order ImageCode) (reply : Reply) (code : Option CodeOf) → IsInside plan trace ends k inner work bind → is_inner order.event ≡ true →
    CanCome plan.images trace order reply code →
    IsInside plan (trace ++ step_of order.event reply code ∷ []) ends k (inner ++ step_of order.event reply code ∷ []) work bind
inside-push plan trace ends k inner work bind order reply code inside is come =
    let step = step_of order.event reply code in
    let none = inner-begins_none come.files come.journal order.event reply is come.replied in record {
      outer = inside.outer;
      parted = ap (λ (t : List Step). t ++ step ∷ []) inside.parted ∙ append_assoc inside.outer inner (step ∷ []);
      command = inside.command;
      under_way = inside.under_way;
      most = inside.most;
      first = inside.first;
      unpublished = inside.unpublished;
      place = place-more trace step (length ends) (inside.first ∷ inner) inside.place (inner-not_last order.event (begun_operation reply) is);
      opened = open-stays trace step k inside.opened none (inner-no_end order.event k is);
      bound = inside.bound;
    }

-- The work within an operation has come to this outcome.
pub leaving-within : (plan : Plan) (trace : List Step) (ends : List CommandEnd) (k : ℕ) (inner : List Step) (work : World → Asking ℕ) (bind : Bool) (outcome : Outcome) →
    IsInside plan trace ends k inner work bind → length inner ≤ most_within →
    ((assemblies : ℕ → Option CodeOf) → AgreeWith assemblies inner → IsWay (within_limit (work (world_of assemblies plan.images))) (without_codes inner) (Ok outcome)) →
    IsLeaving plan trace ends k outcome
leaving-within plan trace ends k inner work bind outcome inside few way =
    let under = inside.under_way in record {
      command = inside.command;
      under_way = record {
        done = under.done;
        rest = under.rest;
        parted = under.parted;
        counted = under.counted;
        left = subst (λ (t : List Step). IsLeft plan t (λ world. ends_later world under.rest ends (leaves k outcome))) (sym inside.parted)
            (IsLeft-after plan inside.outer inner (λ world. ends_later world under.rest ends (works k (work world))) (λ world. ends_later world under.rest ends (leaves k outcome)) under.left
            (λ assemblies agree.
            let world = world_of assemblies plan.images in
            after-command world under.rest ends (without_codes inner) (leaves k outcome) (works k (work world))
            (after-given (within_limit (work world)) (leaves k) outcome (without_codes inner) (way assemblies agree))));
        few = omega (arith, under.few, few, ap length inside.parted, length-append inside.outer inner);
      };
      most = inside.most;
      first = inside.first;
      later = inner;
      place = inside.place;
      opened = inside.opened;
    }

one_within : (n : ℕ) → n ≡ 1 → n ≤ most_within
unfolding most_within
one_within n one = omega (arith, one)

-- The publication of the image that is loaded has its reply.
pub can_go-loaded : (plan : Plan) (trace : List Step) (ends : List CommandEnd) (k : ℕ) (order : Order ImageCode) (reply : Reply) (code : Option CodeOf) →
    IsLoading plan trace ends k order → CanCome plan.images trace order reply code → IsSome (loaded reply) →
    CanGo plan (trace ++ step_of order.event reply code ∷ []) ends (loaded_turn k (loaded reply))
can_go-loaded plan trace ends k order reply code loading come some = by_loaded (loaded reply) refl some
  where
    step : Step
    step = step_of order.event reply code

    by_loaded : (o : Option ℕ) → loaded reply ≡ o → IsSome o → CanGo plan (trace ++ step ∷ []) ends (loaded_turn k o)
    by_loaded None is some = cc
    by_loaded (Some a) is some =
        let inner : is_inner order.event ≡ true = ap is_inner loading.load.event in
        leaving-within plan (trace ++ step ∷ []) ends k (step ∷ []) (λ world. loads world loading.image loading.context) false (outcomes.Assembly a)
        (inside-push plan trace ends k [] (λ world. loads world loading.image loading.context) false order reply code loading.inside inner come)
        (one_within 1 refl)
        (λ assemblies agree.
        let world = world_of assemblies plan.images in
        within-ended (loads world loading.image loading.context) (without_codes (step ∷ [])) (Ok a) (outcomes.Assembly a)
        (subst (λ (e : Event). IsWay (loads world loading.image loading.context) ((e, reply) ∷ []) (Ok a)) (sym loading.load.event)
        (loads-given world loading.image loading.context loading.load.m reply a loading.load.good is))
        refl (one_within 1 refl))

-- the image has a name in the context once it is published
pub loaded-some : (plan : Plan) (trace : List Step) (ends : List CommandEnd) (k : ℕ) (order : Order ImageCode) (reply : Reply) (code : Option CodeOf) →
    IsLoading plan trace ends k order → CanCome plan.images trace order reply code → IsSome (loaded reply)
loaded-some plan trace ends k order reply code loading come =
    let replied = subst (λ (e : Event). IsReply come.files come.journal e reply) loading.load.event come.replied in
    subst (λ (r : Reply). IsSome (loaded r)) (sym replied) (published come.journal loading.context loading.image (binding come.journal loading.context (assembly_name loading.load.m)))
  where
    published : (journal : List Entry) (c image : ℕ) (found : Option ℕ) → IsSome (loaded (reply_to_publish journal c (candidates.Image image) found))
    published journal c image None = refl
    published journal c image (Some a) = refl

-- The last event of an operation has its reply.
pub between-left : (plan : Plan) (trace : List Step) (ends : List CommandEnd) (k : ℕ) (outcome : Outcome) (order : Order ImageCode) (reply : Reply) (code : Option CodeOf) →
    IsLeaving plan trace ends k outcome → order.event ≡ events.Leave k → CanCome plan.images trace order reply code →
    IsBetween plan (trace ++ step_of order.event reply code ∷ []) (ends ++ end_of outcome ∷ [])
between-left plan trace ends k outcome order reply code leaving is come =
    let step = step_of order.event reply code in
    let none : begun_operation reply ≡ None =
    begins_none come.files come.journal order.event reply come.replied (λ name enters. let no : events.Leave k ≡ events.Enter name = sym is ∙ enters in cc no) in
    between-ended plan trace ends leaving.command (λ world. leaves k outcome) (most_within + 1) step outcome (leaving.first ∷ leaving.later)
    leaving.under_way (omega (arith, leaving.most))
    (λ world. subst (λ (e : Event). IsAfter ((e, reply) ∷ []) (give outcome) (leaves k outcome)) (sym is) (after-asks (events.Leave k) reply (λ _. give outcome)))
    leaving.place (ap (λ (e : Event). is_last_by e (begun_operation reply)) is)
    (open-left trace step k leaving.opened none (ap (Rattle.host_events.specs.Operations.ends k) is ∙ eq-eqb k k refl))
