-- Where a thread is when an event is due, and what its commands end with.
use Rattle.std.proofs.Common.{◌≡◌, ◌⊎◌, ◌∙◌, ℕ, suc, refl, sym, ap, subst, inl, inr, true, List, [], ◌∷◌, ◌++◌, Option, Some, None, Ok, Err, arith}
use Rattle.std.specs.List.{AllByRecursion, Contains}
use Rattle.std.proofs.lemmas.List.{append_assoc}
use Rattle.assembly_image.specs.Reading.{FileReading}
use Rattle.host_events.specs.declared.event.Event.{Event}
use Rattle.host_events.specs.declared.event.Event.TheVariants as events
use Rattle.host_events.specs.declared.outcome.CommandEnd.{CommandEnd}
use Rattle.host_events.specs.declared.outcome.Outcome.{Outcome}
use Rattle.host_events.specs.declared.outcome.Outcome.TheVariants as outcomes
use Rattle.host_events.specs.declared.reply.Reply.{Reply}
use Rattle.host_events.specs.declared.reply.Reply.TheVariants as replies
use Rattle.host_events.specs.Asking.{Asking, Ending, IsDue, IsWay, asks}
use Rattle.host_events.specs.Assemblies.{assembly_in}
use Rattle.host_events.specs.Operations.{is_command}
use Rattle.host_events.specs.Task.{for_each}
use Rattle.host_events.specs.Task.Why.{Refused, Stopped}
use Rattle.host_events.specs.TaskLaws.{CanStop}
use Rattle.host_events.proofs.Parts.{PartsAt, parts-append, parts_push}
use Rattle.host_events.proofs.Tasks.{event_asked}
use Rattle.bind_flow.specs.Binds.{binds}
use Rattle.bind_flow.specs.Images.{World}
use Rattle.bind_flow.proofs.OrderLemmas.{order-binds}
use Rattle.host_script.specs.declared.command.Command.{Command}
use Rattle.host_script.specs.declared.command.Command.TheVariants as commands
use Rattle.command_flow.specs.Events.{event_of}
use Rattle.command_flow.specs.Run.{ComesTo, end_of, with_end, entered, loads, operates, runs, runs_all, runs_event, within_limit}
use Rattle.command_flow.specs.State.{is_inner}
use Rattle.command_flow.proofs.Inner.{IsInner, IsInnerRefusal, IsNamed, Scope, Works, bind_scope, inner_is, load_scope, works-binds, works-loads}
use Rattle.command_flow.proofs.OrderLemmas.{order-loads}
use Rattle.command_flow.proofs.Ways.{Comes, Fact, Goes, goes-asks, goes-give, goes-never, goes-then}

-- the event by which a command begins
abbrev pub first_event : Command → Option Event
first_event (commands.Load context image) = Some (events.Enter context)
first_event (commands.Bind context name version) = Some (events.Enter context)
first_event command = event_of command

-- what the work of a command is told of in a context
abbrev pub scope_of : List FileReading → Command → ℕ → Scope
scope_of images (commands.Load context image) c = load_scope images image c
scope_of images (commands.Bind context name version) c = bind_scope images (record { context = c; name = name; version = version })
scope_of images command c = record { images = images; context = c; IsName = λ name. ⊥; IsVersion = λ version. ⊥ }

pub scope_context : (images : List FileReading) (command : Command) (c : ℕ) → (scope_of images command c).context ≡ c
scope_context images (commands.Load context image) c = refl
scope_context images (commands.Bind context name version) c = refl
scope_context images command c = refl

-- no operation began by the reply to an `Enter`
abbrev pub IsUnbegun : Reply → Type 0
IsUnbegun (replies.Entered k c) = ⊥
IsUnbegun _ = Unit {0}

-- each event is one within an operation
abbrev pub AreInner : Fact
AreInner trace = AllByRecursion (λ step. is_inner step.0 ≡ true) trace

-- the events of whole commands
pub data IsWhole : List (Event × Reply) → Type 0 where
  nothing : IsWhole []
  -- a command that is one event
  single : (front : List (Event × Reply)) (event : Event) (reply : Reply) → is_command event ≡ true → IsWhole front → IsWhole (front ++ (event, reply) ∷ [])
  -- an operation that did not begin
  unbegun : (front : List (Event × Reply)) (name : List ℕ) (reply : Reply) → IsUnbegun reply → IsWhole front → IsWhole (front ++ (events.Enter name, reply) ∷ [])
  -- an operation
  operation : (front inner : List (Event × Reply)) (name : List ℕ) (k c : ℕ) (reply : Reply) → AreInner inner → IsWhole front →
      IsWhole (((front ++ (events.Enter name, replies.Entered k c) ∷ []) ++ inner) ++ (events.Leave k, reply) ∷ [])

-- The trace ends within an operation, after whole commands.
pub record IsOpened (k c : ℕ) (trace : List (Event × Reply)) : Type 0 where
  pub front : List (Event × Reply)
  pub name : List ℕ
  pub inner : List (Event × Reply)
  pub whole : IsWhole front
  pub within : AreInner inner
  pub parted : trace ≡ (front ++ (events.Enter name, replies.Entered k c) ∷ []) ++ inner

-- what is due after the trace: the first event of a command, one of the work of an operation, or the end of one
pub data IsAt (images : List FileReading) (given : List Command) (event : Event) (trace : List (Event × Reply)) : Type 0 where
  is_first : (command : Command) → Contains given command → first_event command ≡ Some event → IsWhole trace → IsAt images given event trace
  is_within : (command : Command) (k c : ℕ) → Contains given command → (opened : IsOpened k c trace) → IsInner (scope_of images command c) event opened.inner →
      IsAt images given event trace
  is_last : (k c : ℕ) → IsOpened k c trace → event ≡ events.Leave k → IsAt images given event trace

-- the step ends a command, which has the reply as its outcome
abbrev pub EndsBy : Event × Reply → Reply → Type 0
EndsBy step reply = (step.1 ≡ reply) × ((is_command step.0 ≡ true) ⊎ ((name : List ℕ) × (step.0 ≡ events.Enter name) × IsUnbegun step.1))

-- what the outcome of a command can be
pub data IsOutcome (images : List FileReading) (given : List Command) (outcome : Outcome) (trace : List (Event × Reply)) : Type 0 where
  is_reply : (reply : Reply) → outcome ≡ outcomes.Replied reply → PartsAt (λ step. EndsBy step reply) trace → IsOutcome images given outcome trace
  is_assembly : (a : ℕ) → outcome ≡ outcomes.Assembly a → IsNamed a trace → IsOutcome images given outcome trace
  is_limit : outcome ≡ outcomes.EventLimit → IsOutcome images given outcome trace
  is_refusal : (command : Command) (c : ℕ) → Contains given command → IsInnerRefusal (scope_of images command c) outcome trace → IsOutcome images given outcome trace

-- a command that printed nothing, with such an outcome
abbrev pub IsEndOf : List FileReading → List Command → CommandEnd → Fact
IsEndOf images given end trace = (end.lines ≡ []) × IsOutcome images given end.outcome trace

abbrev pub AreEnds : List FileReading → List Command → List CommandEnd → Fact
AreEnds images given ends trace = AllByRecursion (λ end. IsEndOf images given end trace) ends

pub parts-after : {X : Type 0} (P : X → Type 0) (xs ys : List X) → PartsAt P ys → PartsAt P (xs ++ ys)
parts-after P xs ys h = record {
  before = xs ++ h.before;
  here = h.here;
  after = h.after;
  parted = ap (λ v. xs ++ v) h.parted ∙ sym (append_assoc xs h.before (h.here ∷ h.after));
  holds = h.holds;
}

-- what was told before more was, and after something else, was told
named-between : (a : ℕ) (front trace more : List (Event × Reply)) → IsNamed a trace → IsNamed a ((front ++ trace) ++ more)
named-between a front trace more named =
    let P : Event × Reply → Type 0 = λ step. assembly_in step.1 ≡ Some a in
    parts-append P (front ++ trace) more (parts-after P front trace named)

refusal-between : (scope : Scope) (outcome : Outcome) (front trace more : List (Event × Reply)) → IsInnerRefusal scope outcome trace →
    IsInnerRefusal scope outcome ((front ++ trace) ++ more)
refusal-between scope (outcomes.NotFound name) front trace more refused = refused
refusal-between scope (outcomes.VersionLow name version) front trace more refused = refused
refusal-between scope (outcomes.BadImage failed) front trace more refused = refused
refusal-between scope (outcomes.NameMismatch name) front trace more refused = refused
refusal-between scope (outcomes.NotCollectible a) front trace more refused = named-between a front trace more refused
refusal-between scope outcome front trace more refused = absurd refused

outcome-later : (images : List FileReading) (given : List Command) (outcome : Outcome) (trace more : List (Event × Reply)) →
    IsOutcome images given outcome trace → IsOutcome images given outcome (trace ++ more)
outcome-later images given outcome trace more (IsOutcome.is_reply reply is parts) = IsOutcome.is_reply reply is (parts-append (λ step. EndsBy step reply) trace more parts)
outcome-later images given outcome trace more (IsOutcome.is_assembly a is named) = IsOutcome.is_assembly a is (named-between a [] trace more named)
outcome-later images given outcome trace more (IsOutcome.is_limit is) = IsOutcome.is_limit is
outcome-later images given outcome trace more (IsOutcome.is_refusal command c has refused) =
    IsOutcome.is_refusal command c has (refusal-between (scope_of images command c) outcome [] trace more refused)

of_some : {X : Type 0} {x y : X} → Some x ≡ Some y → x ≡ y
of_some is = cc

-- the one event of a command is a command by itself, by which it begins
single_event : (command : Command) (event : Event) → event_of command ≡ Some event → (is_command event ≡ true) × (first_event command ≡ Some event)
single_event (commands.New context fixed) event is = (ap is_command (sym (of_some is)), is)
single_event (commands.On context name answer) event is = (ap is_command (sym (of_some is)), is)
single_event (commands.Resolving context name answer) event is = (ap is_command (sym (of_some is)), is)
single_event (commands.Resolve name answer) event is = (ap is_command (sym (of_some is)), is)
single_event (commands.Load context image) event is = cc
single_event (commands.Bind context name version) event is = cc
single_event (commands.Call context name type_name method args) event is = cc
single_event (commands.Hold handle context name type_name method) event is = cc
single_event (commands.Invoke handle args) event is = cc
single_event (commands.DropHandle handle) event is = cc
single_event (commands.Weak handle context) event is = (ap is_command (sym (of_some is)), is)
single_event (commands.Alive handle) event is = (ap is_command (sym (of_some is)), is)
single_event (commands.Unload context) event is = (ap is_command (sym (of_some is)), is)
single_event commands.Collect event is = (ap is_command (sym (of_some is)), is)

-- what holds wherever a list is parted holds of each element
by_parts : {X : Type 0} (P : X → Type 0) (xs : List X) → ((before : List X) (x : X) (after : List X) → xs ≡ before ++ x ∷ after → P x) → AllByRecursion P xs
by_parts P [] each = tt
by_parts P (x ∷ xs) each = (each [] x xs refl, by_parts P xs (λ before y after parts. each (x ∷ before) y after (ap (λ ys. x ∷ ys) parts)))

-- each event of work is one within an operation
pub are_inner : {A : Type 0} (scope : Scope) (work : Asking A) (Gives : A → Fact) → Works scope (λ trace. Unit {0}) work Gives → CanStop event_asked work →
    (here there : Unit {0}) (trace : List (Event × Reply)) (end : Ending A) → work here trace there end → AreInner trace
are_inner scope work Gives works stops here there trace end way =
    by_parts (λ (step : Event × Reply). is_inner step.0 ≡ true) trace
    (λ before step after parts.
    let stopped = stops.stops here there before after step end (subst (λ (t : List (Event × Reply)). work here t there end) parts way) in
    inner_is scope (event_asked step) before (works.ways here stopped.0 [] before (Err (Stopped (event_asked step))) tt stopped.1))

-- the outcome of work, after its events: an assembly that one of them named, why the work was refused, or that the limit was met
abbrev IsCome : Scope → Outcome → Fact
IsCome scope outcome inner = (outcome ≡ outcomes.EventLimit) ⊎ (((a : ℕ) × (outcome ≡ outcomes.Assembly a) × IsNamed a inner) ⊎ IsInnerRefusal scope outcome inner)

module _ (images : List FileReading) (given : List Command) where
  -- a task of a thread, which is refused nowhere
  abbrev Keeps : {A : Type 0} → Fact → Asking A → (A → Fact) → Type 0
  Keeps Before task Gives = Goes Before task Gives (λ outcome trace. ⊥) (IsAt images given)

  -- a command has ended so
  abbrev Ended : Outcome → Fact
  Ended outcome trace = IsWhole trace × IsOutcome images given outcome trace

  keeps-runs_event : (command : Command) (event : Event) → Contains given command → event_of command ≡ Some event →
      Keeps IsWhole (runs_event (Some event)) Ended
  keeps-runs_event command event has is =
      let single = single_event command event is in
      goes-then _ _ IsWhole (λ reply. Ended (outcomes.Replied reply)) Ended (asks event) _
      (goes-asks _ _ IsWhole (λ reply. Ended (outcomes.Replied reply)) event (λ front whole. IsAt.is_first command has single.1 whole)
      (λ front reply whole. (
        IsWhole.single front event reply single.0 whole,
        IsOutcome.is_reply reply refl (parts_push (λ step. EndsBy step reply) front (event, reply) (refl, inl single.0)),
      )))
      (λ reply. goes-give _ _ (Ended (outcomes.Replied reply)) Ended (outcomes.Replied reply) (λ front ended. ended))

  -- an `Enter` had this reply
  abbrev Entering : List ℕ → Reply → Fact
  Entering name reply trace = (front : List (Event × Reply)) × IsWhole front × (trace ≡ front ++ (events.Enter name, reply) ∷ [])

  -- the work of an operation has ended so
  abbrev Worked : Command → ℕ → ℕ → Outcome → Fact
  Worked command k c outcome trace = (opened : IsOpened k c trace) × IsCome (scope_of images command c) outcome opened.inner

  module _ (command : Command) (name : List ℕ) (has : Contains given command) (first : first_event command ≡ Some (events.Enter name))
      (work : ℕ → Asking ℕ) (works : (c : ℕ) → Works (scope_of images command c) (λ trace. Unit {0}) (work c) IsNamed)
      (stops : (c : ℕ) → CanStop event_asked (work c)) where
    limit_ends : (k c : ℕ) (front trace : List (Event × Reply)) (last : Ending ℕ) (end : Ending Outcome) → Entering name (replies.Entered k c) front → AreInner trace →
        Comes IsNamed (IsInnerRefusal (scope_of images command c)) (IsInner (scope_of images command c)) last trace → ComesTo trace last end →
        Comes (Worked command k c) (λ outcome trace. ⊥) (IsAt images given) end (front ++ trace)
    limit_ends k c front trace last end (before, whole, is) inner comes told = at last comes told
      where
        opened : IsOpened k c (front ++ trace)
        opened = record { front = before; name = name; inner = trace; whole = whole; within = inner; parted = ap (λ t. t ++ trace) is }

        ends_so : (outcome : Outcome) → end ≡ Ok outcome → IsCome (scope_of images command c) outcome trace →
            Comes (Worked command k c) (λ outcome trace. ⊥) (IsAt images given) end (front ++ trace)
        ends_so outcome same come =
            let P : Ending Outcome → Type 0 = λ e. Comes (Worked command k c) (λ outcome trace. ⊥) (IsAt images given) e (front ++ trace) in
            subst P (sym same) (opened, come)

        at : (last : Ending ℕ) → Comes IsNamed (IsInnerRefusal (scope_of images command c)) (IsInner (scope_of images command c)) last trace → ComesTo trace last end →
            Comes (Worked command k c) (λ outcome trace. ⊥) (IsAt images given) end (front ++ trace)
        at (Ok a) named told = ends_so (outcomes.Assembly a) told.1 (inr (inl (a, refl, named)))
        at (Err (Refused outcome)) refused told = ends_so outcome told.1 (inr (inr refused))
        at (Err (Stopped event)) due (inl told) =
            let P : Ending Outcome → Type 0 = λ e. Comes (Worked command k c) (λ outcome trace. ⊥) (IsAt images given) e (front ++ trace) in
            subst P (sym told.1) (IsAt.is_within command k c has opened due)
        at (Err (Stopped event)) due (inr told) = ends_so outcomes.EventLimit told.1 (inl refl)

    keeps-within_limit : (k c : ℕ) → Keeps (Entering name (replies.Entered k c)) (within_limit (work c)) (Worked command k c)
    unfolding within_limit
    keeps-within_limit k c = record {
      ways = λ here there front trace end before way.
          limit_ends k c front trace way.0 end before
          (are_inner (scope_of images command c) (work c) IsNamed (works c) (stops c) here there trace way.0 way.1)
          ((works c).ways here there [] trace way.0 tt way.1) way.2;
    }

    -- what an operation came to when it was left
    left_with : (k c : ℕ) (outcome : Outcome) (trace : List (Event × Reply)) (reply : Reply) → Worked command k c outcome trace →
        Ended outcome (trace ++ (events.Leave k, reply) ∷ [])
    left_with k c outcome trace reply (opened, come) =
        subst (λ (t : List (Event × Reply)). Ended outcome (t ++ (events.Leave k, reply) ∷ [])) (sym opened.parted)
        (IsWhole.operation opened.front opened.inner opened.name k c reply opened.within opened.whole, at come)
      where
        entered_at : List (Event × Reply)
        entered_at = opened.front ++ (events.Enter opened.name, replies.Entered k c) ∷ []

        at : IsCome (scope_of images command c) outcome opened.inner → IsOutcome images given outcome ((entered_at ++ opened.inner) ++ (events.Leave k, reply) ∷ [])
        at (inl limit) = IsOutcome.is_limit limit
        at (inr (inl (a, is, named))) = IsOutcome.is_assembly a is (named-between a entered_at opened.inner ((events.Leave k, reply) ∷ []) named)
        at (inr (inr refused)) =
            IsOutcome.is_refusal command c has
            (refusal-between (scope_of images command c) outcome entered_at opened.inner ((events.Leave k, reply) ∷ []) refused)

    keeps-entered : (reply : Reply) → Keeps (Entering name reply) (entered work reply) Ended
    keeps-entered (replies.Entered k c) =
        goes-then _ _ (Entering name (replies.Entered k c)) (Worked command k c) Ended (within_limit (work c)) _ (keeps-within_limit k c)
        (λ outcome. goes-then _ _ (Worked command k c outcome) (λ reply. Ended outcome) Ended (asks (events.Leave k)) _
        (goes-asks _ _ (Worked command k c outcome) (λ reply. Ended outcome) (events.Leave k) (λ front worked. IsAt.is_last k c worked.0 refl)
        (λ front reply worked. left_with k c outcome front reply worked))
        (λ reply. goes-give _ _ (Ended outcome) Ended outcome (λ front ended. ended)))
    keeps-entered reply =
        goes-give _ _ (Entering name reply) Ended (outcomes.Replied reply)
        (λ front entering.
        subst (Ended (outcomes.Replied reply)) (sym entering.2) (
          IsWhole.unbegun entering.0 name reply tt entering.1,
          IsOutcome.is_reply reply refl (parts_push (λ step. EndsBy step reply) entering.0 (events.Enter name, reply) (refl, inr (name, refl, tt))),
        ))

    keeps-operates : Keeps IsWhole (operates name work) Ended
    keeps-operates =
        goes-then _ _ IsWhole (Entering name) Ended (asks (events.Enter name)) (entered work)
        (goes-asks _ _ IsWhole (Entering name) (events.Enter name) (λ front whole. IsAt.is_first command has first whole) (λ front reply whole. (front, whole, refl)))
        keeps-entered

  keeps-other : (command : Command) → Contains given command → (found : Option Event) → event_of command ≡ found → Keeps IsWhole (runs_event found) Ended
  keeps-other command has None is = goes-never _ _ IsWhole Ended
  keeps-other command has (Some event) is = keeps-runs_event command event has is

  keeps-runs : (world : World) → world.images ≡ images → (command : Command) → Contains given command → Keeps IsWhole (runs world command) Ended
  keeps-runs world same (commands.Load context image) has =
      keeps-operates (commands.Load context image) context has refl (loads world image)
      (λ c. subst (λ (is : List FileReading). Works (load_scope is image c) (λ trace. Unit {0}) (loads world image c) IsNamed) same (works-loads world image c (λ trace. Unit {0})))
      (λ c. (order-loads world image c).stops)
  keeps-runs world same (commands.Bind context name version) has =
      keeps-operates (commands.Bind context name version) context has refl (λ c. binds world (record { context = c; name = name; version = version }))
      (λ c. subst (λ (is : List FileReading). Works (bind_scope is (record { context = c; name = name; version = version })) (λ trace. Unit {0})
      (binds world (record { context = c; name = name; version = version })) IsNamed) same
      (works-binds world (record { context = c; name = name; version = version }) (λ trace. Unit {0})))
      (λ c. (order-binds world (record { context = c; name = name; version = version })).stops)
  keeps-runs world same command has = keeps-other command has (event_of command) refl

  -- so many commands have ended so, after those of which this holds
  abbrev AreEnded : List CommandEnd → Fact
  AreEnded ends trace = IsWhole trace × AreEnds images given ends trace

  keeps-with_end : (world : World) → world.images ≡ images → (command : Command) → Contains given command →
      Keeps IsWhole (with_end (runs world command)) (λ end trace. IsWhole trace × IsEndOf images given end trace)
  keeps-with_end world same command has =
      goes-then _ _ IsWhole Ended (λ end trace. IsWhole trace × IsEndOf images given end trace) (runs world command) _ (keeps-runs world same command has)
      (λ outcome. goes-give _ _ (Ended outcome) (λ end trace. IsWhole trace × IsEndOf images given end trace) (end_of outcome) (λ front ended. (ended.0, (refl, ended.1))))

  -- what holds of what came before holds after more
  keeps-also : {A : Type 0} (Also : Fact) (task : Asking A) (Gives : A → Fact) →
      ((front more : List (Event × Reply)) → Also front → Also (front ++ more)) → Keeps IsWhole task Gives →
      Keeps (λ trace. IsWhole trace × Also trace) task (λ value trace. Gives value trace × Also trace)
  keeps-also {A} Also task Gives later keeps = record {
    ways = λ here there front trace end before way. at front trace end before.1 (keeps.ways here there front trace end before.0 way);
  }
    where
      at : (front trace : List (Event × Reply)) (end : Ending A) → Also front → Comes Gives (λ outcome trace. ⊥) (IsAt images given) end (front ++ trace) →
          Comes (λ value trace. Gives value trace × Also trace) (λ outcome trace. ⊥) (IsAt images given) end (front ++ trace)
      at front trace (Ok value) also comes = (comes, later front trace also)
      at front trace (Err (Refused outcome)) also comes = comes
      at front trace (Err (Stopped event)) also comes = comes

  keeps-all : (world : World) → world.images ≡ images → (some : List Command) → AllByRecursion (Contains given) some →
      Keeps IsWhole (runs_all world some) AreEnded
  unfolding for_each
  keeps-all world same [] has = goes-give _ _ IsWhole AreEnded [] (λ front whole. (whole, tt))
  keeps-all world same (command ∷ some) has =
      goes-then _ _ IsWhole (λ end trace. IsWhole trace × IsEndOf images given end trace) AreEnded (with_end (runs world command)) _
      (keeps-with_end world same command has.0)
      (λ end. goes-then _ _ (λ trace. IsWhole trace × IsEndOf images given end trace) (λ ends trace. AreEnded ends trace × IsEndOf images given end trace) AreEnded
      (runs_all world some) _
      (keeps-also (IsEndOf images given end) (runs_all world some) AreEnded
      (λ front more ended. (ended.0, outcome-later images given end.outcome front more ended.1)) (keeps-all world same some has.1))
      (λ ends. goes-give _ _ (λ trace. AreEnded ends trace × IsEndOf images given end trace) AreEnded (end ∷ ends)
      (λ front ended. (ended.0.0, (ended.1, ended.0.1)))))

-- each element of a list is in it
each_in : {X : Type 0} (xs : List X) → AllByRecursion (Contains xs) xs
each_in {X} xs = by_parts (Contains xs) xs (λ before x after parts. subst (λ (ys : List X). Contains ys x) (sym parts) (at before x after))
  where
    at : (before : List X) (x : X) (after : List X) → Contains (before ++ x ∷ after) x
    at [] x after = (0, omega arith, refl)
    at (b ∷ before) x after = let has = at before x after in (suc has.0, omega (arith, has.1), has.2)

-- where a thread is when the event is due
pub due_at : (world : World) (given : List Command) (trace : List (Event × Reply)) (event : Event) → IsDue (runs_all world given) trace event →
    IsAt world.images given event trace
due_at world given trace event due = (keeps-all world.images given world refl given (each_in given)).ways tt tt [] trace (Err (Stopped event)) IsWhole.nothing due

-- what the commands of a thread ended with
pub ends_at : (world : World) (given : List Command) (trace : List (Event × Reply)) (ends : List CommandEnd) → IsWay (runs_all world given) trace (Ok ends) →
    AreEnds world.images given ends trace
ends_at world given trace ends way = ((keeps-all world.images given world refl given (each_in given)).ways tt tt [] trace (Ok ends) IsWhole.nothing way).1
