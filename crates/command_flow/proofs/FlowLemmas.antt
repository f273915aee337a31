-- What a thread asks for, where it goes with the answer, and what its type keeps.
use Rattle.std.proofs.Common.{◌≡◌, ◌∙◌, ◌+◌, ◌<◌, ◌≤◌, ◌&&◌, ◌||◌, not, ℕ, sym, ap, subst, refl, Bool, true, false, if◌then◌else◌, List, [], ◌∷◌, ◌++◌, length, slice_get, sum_by, Option, Some, None, IsSome, Ok, Err, append_assoc, arith}
use Rattle.std.specs.Option.{option_map_or, option_to_list}
use Rattle.std.specs.declared.snapshot.Snapshot.{Snapshot}
use Rattle.std.proofs.lemmas.List.{append-nil, length-append, length-map, length_push, map-append}
use Rattle.assembly_image.specs.Reading.{FileReading}
use Rattle.host_events.specs.declared.event.Event.{Event}
use Rattle.host_events.specs.declared.event.Event.TheVariants as events
use Rattle.host_events.specs.declared.flow.Due.{Due}
use Rattle.host_events.specs.declared.flow.Due.TheVariants as dues
use Rattle.host_events.specs.declared.order.Answer.{Answer}
use Rattle.host_events.specs.declared.order.CodeOf.{CodeOf}
use Rattle.host_events.specs.declared.order.Order.{Order}
use Rattle.host_events.specs.declared.outcome.CommandEnd.{CommandEnd}
use Rattle.host_events.specs.declared.outcome.Outcome.{Outcome}
use Rattle.host_events.specs.declared.reply.Reply.{Reply}
use Rattle.host_events.specs.Asking.{Asking, IsDue, IsWay}
use Rattle.host_events.specs.Flows.{IsResumable, Stand, trace_after}
use Rattle.host_events.specs.Operations.{open_in}
use Rattle.host_events.specs.Steps.{Step, AgreeWith, step_of, without_codes}
use Rattle.host_events.specs.Task.{give, look}
use Rattle.host_events.specs.Task.Why.{Stopped}
use Rattle.bind_flow.specs.declared.images.ImageCode.{ImageCode}
use Rattle.bind_flow.specs.Binds.{binds}
use Rattle.bind_flow.specs.Flow.{BringsCode, CanCome, Plan as BindPlan, IsAsked as IsBindAsked, world_of}
use Rattle.bind_flow.specs.Images.{World}
use Rattle.bind_flow.specs.State.{Bind, due_of as bind_due_of, due_with as bind_due_with, has_published, is_publication, stand_of}
use Rattle.host_script.specs.declared.command.Command.{Command}
use Rattle.host_script.specs.declared.command.Command.TheVariants as commands
use Rattle.command_flow.specs.declared.run.At.{At}
use Rattle.command_flow.specs.declared.run.At.TheVariants as places
use Rattle.command_flow.specs.declared.run.Told.{Told}
use Rattle.command_flow.specs.declared.turn.Turn.{Turn}
use Rattle.command_flow.specs.declared.turn.Turn.TheVariants as turns
use Rattle.command_flow.specs.declared.turn.Wait.{Wait}
use Rattle.command_flow.specs.declared.turn.Wait.TheVariants as waits
use Rattle.command_flow.specs.Flow.{IsAsked, IsEnd, Plan, Progress, due_own, due_with, is_bind, most_events}
use Rattle.command_flow.specs.Orders.{IsOrder}
use Rattle.host_events.specs.Rooms.{room_for}
use Rattle.command_flow.specs.Run.{most_within, loads, runs, runs_all, within_limit}
use Rattle.command_flow.specs.State.{CanGo, CanResume, CanWait, IsBetween, IsBinding, IsInside, IsKeptUp, IsLeaving, IsLeft, IsLoading, IsStarting, Running, StandsAt, bound_trace, ends_later, goes_on, leaves, stand_at, step_told, steps_told, works}
use Rattle.command_flow.specs.Turns.{CanTurn, first_event, opened, order_for, turn_with}
use Rattle.command_flow.proofs.AgreeLemmas.{agree-pushed}
use Rattle.command_flow.proofs.CommandLemmas.{alone-due, enters-due}
use Rattle.command_flow.proofs.InnerLemmas.{due-inner, inner-no_numbers}
use Rattle.command_flow.proofs.StateLemmas.{between-alone, between-left, can_go-entered, can_go-loaded, fewer-under_way, inside-push, loaded-some, under_way}
use Rattle.command_flow.proofs.WayLemmas.{due-asks, due-command, due-left, due-then, loads-due, within-due}

-- what comes for an event of the work within comes for the work
come-within : (images others : List FileReading) (trace outer inner : List Step) (order : Order ImageCode) (reply : Reply) (code : Option CodeOf) → others ≡ images → trace ≡ outer ++ inner →
    CanCome images trace order reply code → CanCome others inner order reply code
come-within images others trace outer inner order reply code same parted come =
    subst (λ (is : List FileReading). CanCome is inner order reply code) (sym same) (record {
      thread = come.thread;
      files = come.files;
      journal = come.journal;
      fitting = record {
        proper = come.fitting.proper;
        versions = come.fitting.versions;
        known = come.fitting.known;
        before = come.fitting.before ++ outer;
        own = come.fitting.own ∙ ap (λ (t : List Step). come.fitting.before ++ t) parted ∙ sym (append_assoc come.fitting.before outer inner);
      };
      replied = come.replied;
      coded = come.coded;
    })

-- a bind takes the answer to what it asked for
resume-taken : (plan : Plan) (trace : List Step) (ends : List CommandEnd) (k count : ℕ) (flow : Bind) (order : Order ImageCode) (answer : Answer) →
    IsBinding plan trace ends k count flow order → CanCome plan.images trace order answer.reply answer.code →
    CanResume plan (trace ++ step_of order.event answer.reply answer.code ∷ []) ends k (count + 1) flow (Some answer)
resume-taken plan trace ends k count flow order answer binding come =
    let step = step_of order.event answer.reply answer.code in
    let own = come-within plan.images flow.plan.images trace binding.inside.outer flow.trace order answer.reply answer.code binding.images binding.inside.parted come in
    let after : flow.trace ++ step ∷ [] ≡ bound_trace flow (Some answer) =
    ap (λ (stand : Stand (Order ImageCode)). trace_after (λ (o : Order ImageCode). o.event) (λ (a : Answer). a.reply) (λ (a : Answer). a.code) flow.trace stand (Some answer)) (sym binding.waits) in record {
      inside = subst (λ (t : List Step). IsInside plan (trace ++ step ∷ []) ends k t (λ world. binds world flow.plan.wanted) true) after
          (inside-push plan trace ends k flow.trace (λ world. binds world flow.plan.wanted) true order answer.reply answer.code binding.inside binding.inner come);
      images = binding.images;
      takes = subst (λ (stand : Stand (Order ImageCode)). IsResumable (CanCome flow.plan.images flow.trace) (λ (a : Answer). a.reply) (λ (a : Answer). a.code) stand (Some answer)) (sym binding.waits) own;
      counted = ap (λ n. n + 1) binding.counted ∙ sym (length_push flow.trace step) ∙ ap length after;
      within = omega (arith, binding.below);
      agrees = subst (λ (t : List Step). (assemblies : ℕ → Option CodeOf) × AgreeWith assemblies t) after
          (agree-pushed own.files own.journal own.thread own.fitting.before flow.trace order.event answer.reply answer.code own.fitting.proper own.fitting.own own.coded);
    }

-- the reply that comes is one that leads somewhere
pub can_turn : (plan : Plan) (trace : List Step) (ends : List CommandEnd) (wait : Wait) (order : Order ImageCode) (reply : Reply) (code : Option CodeOf) →
    CanWait plan trace ends wait order → CanCome plan.images trace order reply code → CanTurn wait reply
unfolding most_within
can_turn plan trace ends waits.Event order reply code waiting come = tt
can_turn plan trace ends waits.Enter order reply code waiting come = tt
can_turn plan trace ends (waits.Load k) order reply code waiting come = loaded-some plan trace ends k order reply code waiting come
can_turn plan trace ends (waits.Bind k count flow) order reply code waiting come = waiting.below
can_turn plan trace ends (waits.Leave k outcome) order reply code waiting come = tt

-- where a thread goes with an answer
pub can_go : (plan : Plan) (trace : List Step) (ends : List CommandEnd) (wait : Wait) (order : Order ImageCode) (answer : Answer) →
    CanWait plan trace ends wait order → CanCome plan.images trace order answer.reply answer.code →
    CanGo plan (trace ++ step_of order.event answer.reply answer.code ∷ []) ends (turn_with wait answer)
can_go plan trace ends waits.Event order answer waiting come = between-alone plan trace ends order answer.reply answer.code waiting come
can_go plan trace ends waits.Enter order answer waiting come = can_go-entered plan trace ends order answer.reply answer.code waiting come
can_go plan trace ends (waits.Load k) order answer waiting come =
    can_go-loaded plan trace ends k order answer.reply answer.code waiting come (loaded-some plan trace ends k order answer.reply answer.code waiting come)
can_go plan trace ends (waits.Bind k count flow) order answer waiting come = resume-taken plan trace ends k count flow order answer waiting come
can_go plan trace ends (waits.Leave k outcome) order answer waiting come = between-left plan trace ends k outcome order answer.reply answer.code waiting.0 waiting.1 come

-- what is open where a thread goes on so
pub opened-by : (plan : Plan) (trace : List Step) (ends : List CommandEnd) (turn : Turn) → CanGo plan trace ends turn → open_in (without_codes trace) ≡ option_to_list (opened turn)
opened-by plan trace ends (turns.Ends outcome) can = can.closed
opened-by plan trace ends (turns.Begins k c) can = can.inside.opened
opened-by plan trace ends (turns.Binds k count flow answer) can = can.inside.opened
opened-by plan trace ends (turns.Leaves k outcome) can = can.opened

fewer-inside : (plan : Plan) (trace : List Step) (ends : List CommandEnd) (k : ℕ) (inner : List Step) (work : World → Asking ℕ) (bind : Bool) →
    IsInside plan trace ends k inner work bind → length inner ≤ most_within → length trace < sum_by most_events plan.commands
fewer-inside plan trace ends k inner work bind inside few =
    let fewer = fewer-under_way plan inside.outer ends inside.command (λ world. works k (work world)) 1 (length inner) inside.under_way (omega (arith, few, inside.most)) in
    omega (arith, fewer, ap length inside.parted, length-append inside.outer inner)

fewer-leaving : (plan : Plan) (trace : List Step) (ends : List CommandEnd) (k : ℕ) (outcome : Outcome) → IsLeaving plan trace ends k outcome →
    length trace < sum_by most_events plan.commands
fewer-leaving plan trace ends k outcome leaving =
    let fewer = fewer-under_way plan trace ends leaving.command (λ world. leaves k outcome) (most_within + 1) 0 leaving.under_way (omega (arith, leaving.most)) in
    omega (arith, fewer)

-- there is room for the end of the operation that is open
pub fewer-by : (plan : Plan) (trace : List Step) (ends : List CommandEnd) (turn : Turn) → CanGo plan trace ends turn → IsSome (opened turn) →
    length trace < sum_by most_events plan.commands
fewer-by plan trace ends (turns.Ends outcome) can some = cc
fewer-by plan trace ends (turns.Begins k c) can some =
    fewer-inside plan trace ends k [] _ _ can.inside (omega arith)
fewer-by plan trace ends (turns.Binds k count flow answer) can some =
    fewer-inside plan trace ends k (bound_trace flow (Some answer)) (λ world. binds world flow.plan.wanted) true can.inside (omega (arith, can.counted, can.within))
fewer-by plan trace ends (turns.Leaves k outcome) can some = fewer-leaving plan trace ends k outcome can

-- an order that brings no code, for an event that publishes nothing
plain-brings : (images : List FileReading) (event : Event) → is_publication event ≡ false → BringsCode images event None
plain-brings images (events.Publish context name candidate) none = cc
plain-brings images (events.New name kind) none = refl
plain-brings images event none = refl

plain-order : (images : List FileReading) (order : Order ImageCode) → order ≡ order_for order.event → is_publication order.event ≡ false → IsOrder images order
plain-order images order is none = record {
  same = ap (λ (o : Order ImageCode). o.again) is;
  coded = subst (BringsCode images order.event) (sym (ap (λ (o : Order ImageCode). o.code) is)) (plain-brings images order.event none);
  room = ap (λ (o : Order ImageCode). o.room) is;
  copy = ap (λ (o : Order ImageCode). o.copy) is;
}

each_first : (command : Command) → option_map_or is_publication (first_event command) false ≡ false
each_first (commands.New context fixed) = refl
each_first command = refl

first-due : (command : Command) (event : Event) → first_event command ≡ Some event → (world : World) → IsDue (runs world command) [] event
first-due (commands.Load context image) event first world = enters-due (commands.Load context image) event refl first world
first-due (commands.Bind context name version) event first world = enters-due (commands.Bind context name version) event refl first world
first-due command event first world = alone-due command event refl first world

-- an event is due in what is left
due-now : (plan : Plan) (trace : List Step) (left : World → Asking (List CommandEnd)) (event : Event) → IsLeft plan trace left →
    ((world : World) → IsDue (left world) [] event) → (assemblies : ℕ → Option CodeOf) → AgreeWith assemblies trace →
    IsDue (runs_all (world_of assemblies plan.images) plan.commands) (without_codes trace) event
due-now plan trace left event is due assemblies agree =
    subst (λ t. IsDue (runs_all (world_of assemblies plan.images) plan.commands) t event) (append-nil (without_codes trace))
    (is assemblies agree [] (Err (Stopped event)) (due (world_of assemblies plan.images)))

-- the first event of a command may be asked for
pub asked-first : (plan : Plan) (trace : List Step) (ends : List CommandEnd) (wait : Wait) (order : Order ImageCode) → IsStarting plan trace ends wait order.event →
    order ≡ order_for order.event → IsAsked plan trace order
asked-first plan trace ends wait order starting is =
    let under = under_way plan trace ends starting.command starting.between starting.here in record {
      due = due-now plan trace (λ world. ends_later world under.rest ends (runs world starting.command)) order.event under.left
          (λ world. due-command world under.rest ends [] (runs world starting.command) order.event (first-due starting.command order.event starting.first world));
      brings = plain-order plan.images order is (ap (λ (o : Option Event). option_map_or is_publication o false) (sym starting.first) ∙ each_first starting.command);
    }

-- the last event of an operation may be asked for
pub asked-leave : (plan : Plan) (trace : List Step) (ends : List CommandEnd) (k : ℕ) (outcome : Outcome) (order : Order ImageCode) → IsLeaving plan trace ends k outcome →
    order ≡ order_for (events.Leave k) → IsAsked plan trace order
asked-leave plan trace ends k outcome order leaving is =
    subst (IsAsked plan trace) (sym is) (record {
      due = due-now plan trace (λ world. ends_later world leaving.under_way.rest ends (leaves k outcome)) (events.Leave k) leaving.under_way.left
          (λ world. due-command world leaving.under_way.rest ends [] (leaves k outcome) (events.Leave k) (due-asks (events.Leave k) (λ _. give outcome)));
      brings = plain-order plan.images (order_for (events.Leave k)) refl refl;
    })

-- what is due in the work within an operation is due in the thread
due-inside : (plan : Plan) (trace : List Step) (ends : List CommandEnd) (k : ℕ) (inner : List Step) (work : World → Asking ℕ) (bind : Bool) (event : Event) →
    IsInside plan trace ends k inner work bind → length inner < most_within →
    ((assemblies : ℕ → Option CodeOf) → AgreeWith assemblies inner → IsDue (work (world_of assemblies plan.images)) (without_codes inner) event) →
    (assemblies : ℕ → Option CodeOf) → AgreeWith assemblies trace → IsDue (runs_all (world_of assemblies plan.images) plan.commands) (without_codes trace) event
due-inside plan trace ends k inner work bind event inside below due =
    let under = inside.under_way in
    subst (λ (t : List Step). (assemblies : ℕ → Option CodeOf) → AgreeWith assemblies t → IsDue (runs_all (world_of assemblies plan.images) plan.commands) (without_codes t) event)
    (sym inside.parted)
    (due-left plan inside.outer inner (λ world. ends_later world under.rest ends (works k (work world))) event under.left
    (λ assemblies agree.
    let world = world_of assemblies plan.images in
    due-command world under.rest ends (without_codes inner) (works k (work world)) event
    (due-then (within_limit (work world)) (leaves k) (without_codes inner) event
    (within-due (work world) (without_codes inner) event (due assemblies agree) (omega (arith, below, length-map {B = Event × Reply} inner (λ (s : Step). (s.event, s.reply))))))))

none_below : 0 < most_within
unfolding most_within
none_below = omega arith

-- the publication of the image that is loaded may be asked for
pub asked-load : (plan : Plan) (trace : List Step) (ends : List CommandEnd) (k : ℕ) (order : Order ImageCode) → IsLoading plan trace ends k order → IsAsked plan trace order
asked-load plan trace ends k order loading = record {
  due = due-inside plan trace ends k [] (λ world. loads world loading.image loading.context) false order.event loading.inside none_below
      (λ assemblies agree.
      let world = world_of assemblies plan.images in
      subst (λ (e : Event). IsDue (loads world loading.image loading.context) [] e) (sym loading.load.event)
      (loads-due world loading.image loading.context loading.load.m loading.load.good));
  brings = loading.load.brings;
}

-- what a bind asks for
pub binding-asked : (plan : Plan) (trace : List Step) (ends : List CommandEnd) (k count : ℕ) (flow later : Bind) (last : Option Answer) (order : Order ImageCode) →
    CanResume plan trace ends k count flow last → later.plan ≡ flow.plan → later.trace ≡ bound_trace flow last → stand_of later ≡ Stand.Waiting order →
    IsBindAsked later.plan later.trace order → count < most_within → IsBinding plan trace ends k count later order
binding-asked plan trace ends k count flow later last order can kept told waits asked below = record {
  inside = subst (λ (t : List Step). IsInside plan trace ends k t (λ world. binds world later.plan.wanted) true) (sym told)
      (subst (λ (p : BindPlan). IsInside plan trace ends k (bound_trace flow last) (λ world. binds world p.wanted) true) (sym kept) can.inside);
  images = ap (λ (p : BindPlan). p.images) kept ∙ can.images;
  waits = waits;
  inner = due-inner (world_of can.agrees.0 later.plan.images) later.plan.wanted (without_codes later.trace) order.event
      (asked.due can.agrees.0 (subst (AgreeWith can.agrees.0) (sym told) can.agrees.1));
  counted = can.counted ∙ ap length (sym told);
  below = below;
}

-- the event of a bind may be asked for
pub asked-bind : (plan : Plan) (trace : List Step) (ends : List CommandEnd) (k count : ℕ) (flow : Bind) (order : Order ImageCode) →
    IsBinding plan trace ends k count flow order → IsBindAsked flow.plan flow.trace order → IsAsked plan trace order
asked-bind plan trace ends k count flow order binding asked = record {
  due = due-inside plan trace ends k flow.trace (λ world. binds world flow.plan.wanted) true order.event binding.inside (omega (arith, binding.counted, binding.below))
      (λ assemblies agree. subst (λ (is : List FileReading). IsDue (binds (world_of assemblies is) flow.plan.wanted) (without_codes flow.trace) order.event) binding.images (asked.due assemblies agree));
  brings = record {
    same = asked.brings.same;
    coded = subst (λ (is : List FileReading). BringsCode is order.event order.code) binding.images asked.brings.coded;
    room = asked.brings.room ∙ ap room_for (sym (inner-no_numbers order.event binding.inner));
    copy = asked.brings.copy ∙ ap room_for (sym (inner-no_numbers order.event binding.inner));
  };
}

-- all commands have ended
pub ended-all : (plan : Plan) (trace : List Step) (ends : List CommandEnd) → IsBetween plan trace ends → length plan.commands ≤ length ends → IsEnd plan trace ends
unfolding look
ended-all plan trace ends between all assemblies agree =
    by_rest between.rest between.left (omega (arith, all, between.counted, ap length between.parted, length-append between.done between.rest))
  where
    by_rest : (rest : List Command) → IsLeft plan trace (λ world. goes_on world rest ends) → length rest ≤ 0 →
        IsWay (runs_all (world_of assemblies plan.images) plan.commands) (without_codes trace) (Ok ends)
    by_rest [] left none =
        subst (λ t. IsWay (runs_all (world_of assemblies plan.images) plan.commands) t (Ok ends)) (append-nil (without_codes trace))
        (left assemblies agree [] (Ok ends) (refl, refl, refl))
    by_rest (command ∷ rest) left none = absurd (omega (arith, none))

-- What is due: the first event of a command
pub due-starting : (plan : Plan) (trace : List Step) (ends : List CommandEnd) (wait : Wait) (order : Order ImageCode) → IsStarting plan trace ends wait order.event →
    due_with plan.commands trace (Stand.Waiting order) ≡ dues.Command (length ends + 1)
due-starting plan trace ends wait order starting =
    ap (λ (p : Progress). due_own plan.commands p.ended p.own order.event) starting.between.place

due-own : (plan : Plan) (trace : List Step) (ends : List CommandEnd) (k : ℕ) (inner : List Step) (work : World → Asking ℕ) (bind : Bool) (order : Order ImageCode) →
    IsInside plan trace ends k inner work bind →
    due_with plan.commands trace (Stand.Waiting order) ≡ (if is_publication order.event && not (has_published inner) && bind then dues.Publish else dues.Plain)
due-own plan trace ends k inner work bind order inside =
    ap (λ (p : Progress). due_own plan.commands p.ended p.own order.event) inside.place
    ∙ ap (λ (b : Bool). if is_publication order.event && not (b || has_published inner) && is_bind (slice_get plan.commands (length ends)) then dues.Publish else dues.Plain) inside.unpublished
    ∙ ap (λ (b : Bool). if is_publication order.event && not (has_published inner) && b then dues.Publish else dues.Plain) inside.bound

-- an event of a bind
pub due-binding : (plan : Plan) (trace : List Step) (ends : List CommandEnd) (k count : ℕ) (flow : Bind) (order : Order ImageCode) → IsBinding plan trace ends k count flow order →
    due_with plan.commands trace (Stand.Waiting order) ≡ bind_due_of flow
due-binding plan trace ends k count flow order binding =
    due-own plan trace ends k flow.trace (λ world. binds world flow.plan.wanted) true order binding.inside
    ∙ by_tests (is_publication order.event) (has_published flow.trace)
    ∙ sym (ap (bind_due_with flow.trace) binding.waits)
  where
    by_tests : (a b : Bool) → ◌≡◌ {A = Due} (if a && not b && true then dues.Publish else dues.Plain) (if a && not b then dues.Publish else dues.Plain)
    by_tests true true = refl
    by_tests true false = refl
    by_tests false b = refl

-- the publication of the image that is loaded
pub due-loading : (plan : Plan) (trace : List Step) (ends : List CommandEnd) (k : ℕ) (order : Order ImageCode) → IsLoading plan trace ends k order →
    due_with plan.commands trace (Stand.Waiting order) ≡ dues.Plain
due-loading plan trace ends k order loading =
    due-own plan trace ends k [] (λ world. loads world loading.image loading.context) false order loading.inside ∙ by_tests (is_publication order.event)
  where
    by_tests : (a : Bool) → ◌≡◌ {A = Due} (if a && not (has_published []) && false then dues.Publish else dues.Plain) dues.Plain
    by_tests true = refl
    by_tests false = refl

-- the last event of an operation
pub due-leaving : (plan : Plan) (trace : List Step) (ends : List CommandEnd) (k : ℕ) (outcome : Outcome) (order : Order ImageCode) → IsLeaving plan trace ends k outcome →
    order.event ≡ events.Leave k → due_with plan.commands trace (Stand.Waiting order) ≡ dues.Plain
due-leaving plan trace ends k outcome order leaving is =
    ap (λ (p : Progress). due_own plan.commands p.ended p.own order.event) leaving.place
    ∙ ap (λ (e : Event). due_own plan.commands (length ends) (leaving.first ∷ leaving.later) e) is

-- where a run stands that waits
pub waits-now : (plan : Plan) (trace : List Step) (ends : List CommandEnd) (at : At) (wait : Wait) (order : Snapshot (Order ImageCode)) (count capacity : ℕ) → places.Waits wait order ≡ at →
    StandsAt plan trace ends at count capacity → CanWait plan trace ends wait order.value × (count < capacity)
waits-now plan trace ends at wait order count capacity is stands = subst (λ (a : At). StandsAt plan trace ends a count capacity) (sym is) stands

-- what has come for what it asked for
pub come-now : (run : Running) (at : At) (wait : Wait) (order : Snapshot (Order ImageCode)) (answer : Answer) → places.Waits wait order ≡ at → run.at ≡ at →
    IsResumable (CanCome run.plan.images run.trace) (λ (a : Answer). a.reply) (λ (a : Answer). a.code) (stand_at run.at) (Some answer) →
    CanCome run.plan.images run.trace order.value answer.reply answer.code
come-now run at wait order answer is here taken =
    subst (λ (a : At). IsResumable (CanCome run.plan.images run.trace) (λ (a : Answer). a.reply) (λ (a : Answer). a.code) (stand_at a) (Some answer)) (here ∙ sym is) taken

-- an answer is told, and the run goes on so
pub told-now : (run : Running) (at : At) (wait : Wait) (order : Snapshot (Order ImageCode)) (kept : Snapshot Answer) (answer : Answer) (told later : List Told) (turn : Turn) (count capacity : ℕ) →
    places.Waits wait order ≡ at → run.at ≡ at → StandsAt run.plan run.trace run.ends at count capacity →
    IsResumable (CanCome run.plan.images run.trace) (λ (a : Answer). a.reply) (λ (a : Answer). a.code) (stand_at run.at) (Some answer) →
    kept.value ≡ answer → run.trace ≡ steps_told told → later ≡ told ++ record { order = order; answer = kept } ∷ [] → turn ≡ turn_with wait answer →
    CanGo run.plan (steps_told later) run.ends turn
told-now run at wait order kept answer told later turn count capacity is here stands taken same traced pushed turned =
    let come = come-now run at wait order answer is here taken in
    let can = can_go run.plan run.trace run.ends wait order.value answer (waits-now run.plan run.trace run.ends at wait order count capacity is stands).0 come in
    let one : Told = record { order = order; answer = kept } in
    let steps : run.trace ++ step_of order.value.event answer.reply answer.code ∷ [] ≡ steps_told later =
    ap (λ (a : Answer). run.trace ++ step_of order.value.event a.reply a.code ∷ []) (sym same)
    ∙ ap (λ (t : List Step). t ++ step_told one ∷ []) traced
    ∙ sym (map-append step_told told (one ∷ []))
    ∙ sym (ap steps_told pushed) in
    subst (λ (t : Turn). CanGo run.plan (steps_told later) run.ends t) (sym turned)
    (subst (λ (t : List Step). CanGo run.plan t run.ends (turn_with wait answer)) steps can)

-- what the run's type keeps once it goes on so
pub IsKeptUp-taken : (plan : Plan) (trace later : List Step) (ends : List CommandEnd) (within : Option ℕ) (at : At) (turn : Turn) (count capacity more room : ℕ) →
    IsKeptUp plan trace ends within at count capacity → CanGo plan later ends turn → IsKeptUp plan later ends (opened turn) places.WithoutMemory more room
IsKeptUp-taken plan trace later ends within at turn count capacity more room kept can = record {
  few = kept.few;
  built = kept.built;
  there = kept.there;
  opened = opened-by plan later ends turn can;
  fewer = fewer-by plan later ends turn can;
  stands = tt;
}
