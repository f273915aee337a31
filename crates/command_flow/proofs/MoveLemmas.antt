-- Why a thread may go on as its code does.
use Rattle.std.proofs.Common.{◌≡◌, ◌∙◌, ◌<◌, ◌≤◌, ℕ, sym, ap, subst, refl, true, false, List, [], length, get_or, slice_get, nat_lt, All, Option, Some, None, IsSome, Err, arith}
use Rattle.std.specs.Option.{option_map}
use Rattle.std.proofs.lemmas.Bool.Decides.{nat_tests}
use Rattle.std.proofs.lemmas.List.{length-map}
use Rattle.std.proofs.lemmas.Option.{get_or_from_slice_get, slice_get_read, slice_get_within}
use Rattle.assembly_image.specs.Reading.{FileReading}
use Rattle.assembly_name.specs.declared.version.Version.{Version}
use Rattle.cli_words.specs.declared.check.FailedCheck.{FailedCheck}
use Rattle.host_events.specs.declared.event.Event.{Event}
use Rattle.host_events.specs.declared.order.Answer.{Answer}
use Rattle.host_events.specs.declared.order.Order.{Order}
use Rattle.host_events.specs.declared.outcome.CommandEnd.{CommandEnd}
use Rattle.host_events.specs.declared.outcome.Outcome.{Outcome}
use Rattle.host_events.specs.declared.outcome.Outcome.TheVariants as outcomes
use Rattle.host_events.specs.declared.reply.Reply.{Reply}
use Rattle.host_events.specs.Asking.{IsDue}
use Rattle.host_events.specs.Steps.{Step, without_codes}
use Rattle.host_events.specs.Task.Why.{Refused}
use Rattle.bind_flow.specs.declared.images.ImageCode.{ImageCode}
use Rattle.bind_flow.specs.Binds.{Binds, binds}
use Rattle.bind_flow.specs.Flow.{Plan as BindPlan, IsAsked as IsBindAsked, IsEnd as IsBindEnd, world_of}
use Rattle.bind_flow.specs.Images.{reading_at}
use Rattle.bind_flow.specs.State.{Bind, fresh as fresh_bind}
use Rattle.host_script.specs.declared.command.Command.{Command}
use Rattle.host_script.specs.declared.command.Command.TheVariants as commands
use Rattle.command_flow.specs.declared.turn.Wait.{Wait}
use Rattle.command_flow.specs.Flow.{HasImage, IsAsked, Plan, is_bind}
use Rattle.command_flow.specs.Run.{loads, most_within}
use Rattle.command_flow.specs.State.{CanResume, CanWait, IsBetween, IsEntered, IsInside, IsLeaving, IsStarting, bound_trace}
use Rattle.command_flow.specs.Turns.{first_event, first_wait, order_for, refused, work_in}
use Rattle.command_flow.proofs.FlowLemmas.{asked-first}
use Rattle.command_flow.proofs.StateLemmas.{leaving-within}
use Rattle.command_flow.proofs.WayLemmas.{loads-refused, within-ended, within-limited}

-- the next command may begin
starting-first : (plan : Plan) (trace : List Step) (ends : List CommandEnd) (command : Command) (order : Order ImageCode) → IsBetween plan trace ends →
    slice_get plan.commands (length ends) ≡ Some command → first_event command ≡ Some order.event → IsStarting plan trace ends (first_wait command) order.event
starting-first plan trace ends command order between here first = record { between = between; command = command; here = here; first = first; waits = refl }

pub can_wait-first : (plan : Plan) (trace : List Step) (ends : List CommandEnd) (command : Command) (wait : Wait) (order : Order ImageCode) → IsBetween plan trace ends →
    slice_get plan.commands (length ends) ≡ Some command → first_event command ≡ Some order.event → wait ≡ first_wait command → CanWait plan trace ends wait order
can_wait-first plan trace ends command wait order between here first is =
    subst (λ (w : Wait). CanWait plan trace ends w order) (sym is) (by_command command (starting-first plan trace ends command order between here first))
  where
    by_command : (c : Command) → IsStarting plan trace ends (first_wait c) order.event → CanWait plan trace ends (first_wait c) order
    by_command (commands.Load context image) starting = starting
    by_command c starting = starting

pub asked-starting : (plan : Plan) (trace : List Step) (ends : List CommandEnd) (command : Command) (order : Order ImageCode) → IsBetween plan trace ends →
    slice_get plan.commands (length ends) ≡ Some command → first_event command ≡ Some order.event → order ≡ order_for order.event → IsAsked plan trace order
asked-starting plan trace ends command order between here first is =
    asked-first plan trace ends (first_wait command) order (starting-first plan trace ends command order between here first) is

-- a bind that has gone on is within its operation
inside-later : (plan : Plan) (trace : List Step) (ends : List CommandEnd) (k count : ℕ) (flow later : Bind) (last : Option Answer) →
    CanResume plan trace ends k count flow last → later.plan ≡ flow.plan → later.trace ≡ bound_trace flow last →
    IsInside plan trace ends k later.trace (λ world. binds world later.plan.wanted) true
inside-later plan trace ends k count flow later last can kept told =
    subst (λ (t : List Step). IsInside plan trace ends k t (λ world. binds world later.plan.wanted) true) (sym told)
    (subst (λ (p : BindPlan). IsInside plan trace ends k (bound_trace flow last) (λ world. binds world p.wanted) true) (sym kept) can.inside)

images-later : (plan : Plan) (trace : List Step) (ends : List CommandEnd) (k count : ℕ) (flow later : Bind) (last : Option Answer) →
    CanResume plan trace ends k count flow last → later.plan ≡ flow.plan → later.plan.images ≡ plan.images
images-later plan trace ends k count flow later last can kept = ap (λ (p : BindPlan). p.images) kept ∙ can.images

not_below : (count most : ℕ) → count ≤ most → nat_lt count most ≡ false → count ≡ most
not_below count most within full = grind (arith, nat_tests)

-- A bind asks for one event more than may be made.
pub leaving-limited : (plan : Plan) (trace : List Step) (ends : List CommandEnd) (k count : ℕ) (flow later : Bind) (last : Option Answer) (order : Order ImageCode) →
    CanResume plan trace ends k count flow last → later.plan ≡ flow.plan → later.trace ≡ bound_trace flow last → IsBindAsked later.plan later.trace order →
    nat_lt count most_within ≡ false → IsLeaving plan trace ends k outcomes.EventLimit
leaving-limited plan trace ends k count flow later last order can kept told asked full =
    let all : length later.trace ≡ most_within = ap length told ∙ sym can.counted ∙ not_below count most_within can.within full in
    leaving-within plan trace ends k later.trace (λ world. binds world later.plan.wanted) true outcomes.EventLimit (inside-later plan trace ends k count flow later last can kept told)
    (omega (arith, all))
    (λ assemblies agree.
    within-limited (binds (world_of assemblies plan.images) later.plan.wanted) (without_codes later.trace) order.event
    (subst (λ (is : List FileReading). IsDue (binds (world_of assemblies is) later.plan.wanted) (without_codes later.trace) order.event)
    (images-later plan trace ends k count flow later last can kept) (asked.due assemblies agree))
    (length-map {B = Event × Reply} later.trace (λ (s : Step). (s.event, s.reply)) ∙ all))

-- A bind has ended so.
pub leaving-ended : (plan : Plan) (trace : List Step) (ends : List CommandEnd) (k count : ℕ) (flow later : Bind) (last : Option Answer) (outcome : Outcome) →
    CanResume plan trace ends k count flow last → later.plan ≡ flow.plan → later.trace ≡ bound_trace flow last → IsBindEnd later.plan later.trace outcome →
    IsLeaving plan trace ends k outcome
leaving-ended plan trace ends k count flow later last outcome can kept told ended =
    let few : length later.trace ≤ most_within = omega (arith, ap length told, can.counted, can.within) in
    leaving-within plan trace ends k later.trace (λ world. binds world later.plan.wanted) true outcome (inside-later plan trace ends k count flow later last can kept told) few
    (λ assemblies agree.
    let bound = subst (λ (is : List FileReading). Binds (world_of assemblies is) later.plan.wanted (without_codes later.trace) outcome)
    (images-later plan trace ends k count flow later last can kept) (ended assemblies agree) in
    within-ended (binds (world_of assemblies plan.images) later.plan.wanted) (without_codes later.trace) bound.0 outcome bound.1 bound.2
    (omega (arith, few, length-map {B = Event × Reply} later.trace (λ (s : Step). (s.event, s.reply)))))

-- The file that is to be loaded is no image.
pub leaving-refused : (plan : Plan) (trace : List Step) (ends : List CommandEnd) (k image c : ℕ) (failed : FailedCheck) →
    IsInside plan trace ends k [] (λ world. loads world image c) false → option_map refused (reading_at plan.images image) ≡ Some (Some failed) →
    IsLeaving plan trace ends k (outcomes.BadImage failed)
leaving-refused plan trace ends k image c failed inside is = by_reading (reading_at plan.images image) refl is
  where
    by_reading : (o : Option FileReading) → reading_at plan.images image ≡ o → option_map refused o ≡ Some (Some failed) → IsLeaving plan trace ends k (outcomes.BadImage failed)
    by_reading None at is = cc
    by_reading (Some reading) at is =
        let bad : refused reading ≡ Some failed = cc is in
        leaving-within plan trace ends k [] (λ world. loads world image c) false (outcomes.BadImage failed) inside (omega arith)
        (λ assemblies agree.
        within-ended (loads (world_of assemblies plan.images) image c) [] (Err (Refused (outcomes.BadImage failed))) (outcomes.BadImage failed)
        (loads-refused (world_of assemblies plan.images) image c reading failed at bad) refl (omega arith))

command_is : (plan : Plan) (trace : List Step) (ends : List CommandEnd) (k c : ℕ) (entered : IsEntered plan trace ends k c) (command : Command) →
    slice_get plan.commands (length ends) ≡ Some command → entered.command ≡ command
command_is plan trace ends k c entered command here =
    let same : ◌≡◌ {A = Option Command} (Some entered.command) (Some command) = sym entered.here ∙ here in cc same

-- the operation of a `load` has begun
pub inside-load : (plan : Plan) (trace : List Step) (ends : List CommandEnd) (k c image : ℕ) (context : List ℕ) → IsEntered plan trace ends k c →
    slice_get plan.commands (length ends) ≡ Some (commands.Load context image) → IsInside plan trace ends k [] (λ world. loads world image c) false
inside-load plan trace ends k c image context entered here =
    subst (λ (command : Command). IsInside plan trace ends k [] (work_in command c) (is_bind (Some command)))
    (command_is plan trace ends k c entered (commands.Load context image) here) entered.inside

pub image-there : (plan : Plan) (n image : ℕ) (context : List ℕ) → All (HasImage plan.images) plan.commands → slice_get plan.commands n ≡ Some (commands.Load context image) →
    IsSome (reading_at plan.images image)
image-there plan n image context there here =
    let command = commands.Load context image in
    subst (HasImage plan.images) (get_or_from_slice_get plan.commands n command command here) (there n command (slice_get_within plan.commands n command here)) image refl

-- the operation of a `bind` has begun
pub resume-first : (plan : Plan) (trace : List Step) (ends : List CommandEnd) (k c : ℕ) (context name : List ℕ) (version : Version) (flow : Bind) → IsEntered plan trace ends k c →
    slice_get plan.commands (length ends) ≡ Some (commands.Bind context name version) →
    flow ≡ fresh_bind (record { wanted = record { context = c; name = name; version = version }; images = plan.images }) →
    CanResume plan trace ends k 0 flow None
resume-first plan trace ends k c context name version flow entered here is =
    subst (λ (f : Bind). CanResume plan trace ends k 0 f None) (sym is) (record {
      inside = subst (λ (command : Command). IsInside plan trace ends k [] (work_in command c) (is_bind (Some command)))
          (command_is plan trace ends k c entered (commands.Bind context name version) here) entered.inside;
      images = refl;
      takes = tt;
      counted = refl;
      within = omega arith;
      agrees = ((λ a. None), tt);
    })

-- one event more may be made
pub below_from : (count most : ℕ) → nat_lt count most ≡ true → count < most
below_from count most is = grind (arith, nat_tests)

-- the command that was read at an index
pub command_at : (all seen : List Command) (index n : ℕ) (command : Command) → seen ≡ all → index ≡ n → index < length seen → command ≡ get_or seen index command →
    slice_get all n ≡ Some command
command_at all seen index n command same counted within read =
    slice_get_read all (length all) n command refl (omega (arith, within, counted, ap length same))
    (read ∙ ap (λ (cs : List Command). get_or cs index command) same ∙ ap (λ i. get_or all i command) counted)
