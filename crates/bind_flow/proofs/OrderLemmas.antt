-- A bind has one way for its replies, and each of its events was due.
use Rattle.std.proofs.Common.{◌≡◌, ◌∙◌, ◌==◌, ℕ, sym, subst, Bool, List, [], ◌∷◌, ◌++◌, Option, Some, Ok, Err}
use Rattle.std.proofs.lemmas.List.{append-nil, append_cancel_left}
use Rattle.assembly_name.specs.declared.version.Version.{Version}
use Rattle.assembly_name.specs.Version.{is_at_least}
use Rattle.assembly_image.specs.Module.{Module}
use Rattle.assembly_image.specs.Names.{assembly_version}
use Rattle.assembly_image.specs.Reading.{FileReading}
use Rattle.assembly_image.specs.Reading.FileReading.{Absent, TooLong, Refused as NoImage, Good}
use Rattle.host_events.specs.declared.event.AskStep.{AskStep}
use Rattle.host_events.specs.declared.event.AskStep.TheVariants.{Load, Default, Resolving, Resolve}
use Rattle.host_events.specs.declared.event.Candidate.{Candidate}
use Rattle.host_events.specs.declared.event.Candidate.TheVariants as candidates
use Rattle.host_events.specs.declared.event.Event.{Event}
use Rattle.host_events.specs.declared.outcome.Outcome.{Outcome}
use Rattle.host_events.specs.declared.outcome.Outcome.TheVariants as outcomes
use Rattle.host_events.specs.declared.reply.Reply.{Reply}
use Rattle.host_events.specs.declared.reply.Reply.TheVariants as replies
use Rattle.host_events.specs.Asking.{Asking, Ending, asks, refuses}
use Rattle.host_events.specs.Task.{give, never, pick, if_some, ◌>>=◌}
use Rattle.host_events.specs.Task.Why.{Refused, Stopped}
use Rattle.host_events.specs.TaskLaws.{CanStop, EndsTrace, IsExact}
use Rattle.host_events.proofs.Tasks.{due_before, event_asked, exact-asks, exact-if_some, exact-look, exact-never, exact-pick, exact-then, one_due, stops-asks, stops-if_some, stops-look, stops-never, stops-pick, stops-then}
use Rattle.bind_flow.specs.Binds.{EndsWith, Wanted, answered, asked_in_order, binds, if_fits, if_module, if_serves, image_published, looked_up, published, publishes, publishes_default, publishes_image, steps_in}
use Rattle.bind_flow.specs.Images.{World, assembly_version_in, reading_at}
use Rattle.bind_flow.specs.Laws.{BindsInOrder, OneBind}

-- the task has one way for its replies, and each of its events was due
pub record InOrder {A : Type 0} (task : Asking A) : Type 0 where
  pub exact : IsExact task
  pub stops : CanStop event_asked task

pub order-never : {A : Type 0} → InOrder {A = A} never
order-never = record { exact = exact-never; stops = stops-never event_asked }

pub order-give : {A : Type 0} (a : A) → InOrder (give a)
order-give a = record { exact = exact-look _; stops = stops-look event_asked _ }

order-refuses : {A : Type 0} (outcome : Outcome) → InOrder {A = A} (refuses outcome)
order-refuses outcome = record { exact = exact-look _; stops = stops-look event_asked _ }

order-pick : {A : Type 0} (b : Bool) (first second : Asking A) → InOrder first → InOrder second → InOrder (pick b first second)
order-pick b first second f s = record { exact = exact-pick b first second f.exact s.exact; stops = stops-pick event_asked b first second f.stops s.stops }

pub order-if_some : {X A : Type 0} (x : Option X) (task : X → Asking A) (other : Asking A) → ((value : X) → InOrder (task value)) → InOrder other →
    InOrder (if_some x task other)
order-if_some x task other t o = record {
  exact = exact-if_some x task other (λ value. (t value).exact) o.exact;
  stops = stops-if_some event_asked x task other (λ value. (t value).stops) o.stops;
}

pub order-then : {A B : Type 0} (first : Asking A) (next : A → Asking B) → InOrder first → ((value : A) → InOrder (next value)) → InOrder (first >>= next)
order-then first next f n = record {
  exact = exact-then first next f.exact (λ value. (n value).exact);
  stops = stops-then event_asked first next f.stops (λ value. (n value).stops);
}

pub order-asks : {A : Type 0} (event : Event) (next : Reply → Asking A) → ((reply : Reply) → InOrder (next reply)) → InOrder (asks event >>= next)
order-asks event next n = order-then (asks event) next (record { exact = exact-asks event; stops = stops-asks event }) n

order-if_serves : (wanted : Wanted) (next : Asking ℕ) (found : Option Version) → InOrder next → InOrder (if_serves wanted next found)
order-if_serves wanted next found n =
    order-if_some found _ never (λ version. order-pick (is_at_least version wanted.version) next _ n (order-refuses (outcomes.VersionLow wanted.name version))) order-never

order-published : (world : World) (wanted : Wanted) (reply : Reply) → InOrder (published world wanted reply)
order-published world wanted (replies.Bound a) = order-give a
order-published world wanted (replies.Shared a) = order-give a
order-published world wanted (replies.Lost a) = order-if_serves wanted (give a) (assembly_version_in world a) (order-give a)
order-published world wanted (replies.NotCollectible a) = order-refuses (outcomes.NotCollectible a)
order-published world wanted reply = order-never

order-publishes : (world : World) (wanted : Wanted) (candidate : Candidate) → InOrder (publishes world wanted candidate)
order-publishes world wanted candidate = order-asks _ _ (order-published world wanted)

pub order-image_published : (reply : Reply) → InOrder (image_published reply)
order-image_published (replies.Bound a) = order-give a
order-image_published (replies.Lost a) = order-give a
order-image_published reply = order-never

order-publishes_default : (world : World) (wanted : Wanted) (image : ℕ) → InOrder (publishes_default world wanted image)
order-publishes_default world wanted image =
    order-asks _ _ (λ reply. order-then (image_published reply) _ (order-image_published reply)
    (λ a. order-if_serves wanted _ (assembly_version_in world a) (order-publishes world wanted (candidates.Assembly a))))

order-publishes_image : (world : World) (wanted : Wanted) (step : AskStep) (image : ℕ) → InOrder (publishes_image world wanted step image)
order-publishes_image world wanted Load image = order-publishes world wanted (candidates.Image image)
order-publishes_image world wanted Resolving image = order-publishes world wanted (candidates.Image image)
order-publishes_image world wanted Resolve image = order-publishes world wanted (candidates.Image image)
order-publishes_image world wanted Default image =
    order-pick (wanted.context == 0) _ _ (order-publishes world wanted (candidates.Image image)) (order-publishes_default world wanted image)

order-if_fits : (wanted : Wanted) (next : Asking ℕ) (m : Module) → InOrder next → InOrder (if_fits wanted next m)
order-if_fits wanted next m n = order-pick _ _ _ (order-if_serves wanted next (Some (assembly_version m)) n) (order-refuses (outcomes.NameMismatch wanted.name))

pub order-if_module : (next : Module → Asking ℕ) (reading : FileReading) → ((m : Module) → InOrder (next m)) → InOrder (if_module next reading)
order-if_module next Absent n = order-refuses _
order-if_module next TooLong n = order-refuses _
order-if_module next (NoImage failed) n = order-refuses _
order-if_module next (Good m) n = n m

order-answered : (world : World) (wanted : Wanted) (step : AskStep) (later : Asking ℕ) (reply : Reply) → InOrder later → InOrder (answered world wanted step later reply)
order-answered world wanted step later replies.Nothing l = l
order-answered world wanted step later (replies.Image i) l =
    order-if_some (reading_at world.images i) _ never
    (λ reading. order-if_module _ reading (λ m. order-if_fits wanted _ m (order-publishes_image world wanted step i))) order-never
order-answered world wanted step later (replies.Foreign a) l =
    order-if_serves wanted _ (assembly_version_in world a) (order-publishes world wanted (candidates.Assembly a))
order-answered world wanted step later reply l = order-never

order-asked : (world : World) (wanted : Wanted) (steps : List AskStep) → InOrder (asked_in_order world wanted steps)
order-asked world wanted [] = order-refuses (outcomes.NotFound wanted.name)
order-asked world wanted (step ∷ steps) =
    order-asks _ _ (λ reply. order-answered world wanted step (asked_in_order world wanted steps) reply (order-asked world wanted steps))

order-looked_up : (world : World) (wanted : Wanted) (reply : Reply) → InOrder (looked_up world wanted reply)
order-looked_up world wanted replies.Miss = order-asked world wanted (steps_in wanted.context)
order-looked_up world wanted (replies.Hit a) = order-give a
order-looked_up world wanted (replies.Low a) =
    order-if_some (assembly_version_in world a) _ never (λ version. order-refuses (outcomes.VersionLow wanted.name version)) order-never
order-looked_up world wanted reply = order-never

pub order-binds : (world : World) (wanted : Wanted) → InOrder (binds world wanted)
unfolding binds
order-binds world wanted = order-asks _ _ (order-looked_up world wanted)

ends_trace : (end : Ending ℕ) (outcome : Outcome) (rest : List (Event × Reply)) → EndsWith end outcome → EndsTrace end rest
ends_trace (Ok a) outcome rest ends = tt
ends_trace (Err (Refused refusal)) outcome rest ends = tt
ends_trace (Err (Stopped event)) outcome rest ends = absurd ends

one_outcome : (end : Ending ℕ) (outcome other : Outcome) → EndsWith end outcome → EndsWith end other → outcome ≡ other
one_outcome (Ok a) outcome other is also = is ∙ sym also
one_outcome (Err (Refused refusal)) outcome other is also = is ∙ sym also
one_outcome (Err (Stopped event)) outcome other is also = absurd is

pub one_bind_each : OneBind
one_bind_each world wanted trace more outcome other (end, way, ends) (last, whole, lasts) =
    let one = (order-binds world wanted).exact.one tt tt tt trace (trace ++ more) more [] end last way whole (sym (append-nil (trace ++ more)))
    (ends_trace end outcome more ends) (ends_trace last other [] lasts) in
    let none : [] ≡ more = append_cancel_left trace [] more (append-nil trace ∙ one.0) in
    (sym none, one_outcome last outcome other (subst (λ (e : Ending ℕ). EndsWith e outcome) one.2 ends) lasts)

pub in_order_each : BindsInOrder
in_order_each world wanted before event reply after outcome (end, way, ends) =
    let order = order-binds world wanted in
    let due = due_before (binds world wanted) order.stops before after (event, reply) end way in
    (due, λ other also. one_due (binds world wanted) order.exact before other event also due)
