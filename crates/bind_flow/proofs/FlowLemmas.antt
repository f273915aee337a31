-- What is left of a bind after its trace.
use Rattle.std.proofs.Common.{◌≡◌, ◌∙◌, ◌||◌, ℕ, zero, suc, sym, ap, subst, refl, inl, inr, Bool, true, false, List, [], ◌∷◌, ◌++◌, Option, Some, None, IsSome, Result, Ok, Err, IfOk, append_assoc}
use Rattle.std.specs.declared.alloc.AllocError.{AllocError}
use Rattle.std.specs.List.{cons_option, filter_map, list_any, slice_get}
use Rattle.std.proofs.lemmas.List.{append-nil, map-append}
use Rattle.std.proofs.lemmas.List.Elements.{filter_map-append}
use Rattle.std.proofs.lemmas.List.Folds.{list_any-append}
use Rattle.host_events.specs.declared.event.Event.{Event}
use Rattle.host_events.specs.declared.order.CodeOf.{CodeOf}
use Rattle.host_events.specs.declared.order.Order.{Order}
use Rattle.host_events.specs.declared.outcome.Outcome.{Outcome}
use Rattle.host_events.specs.declared.outcome.Outcome.TheVariants as outcomes
use Rattle.host_events.specs.declared.reply.Reply.{Reply}
use Rattle.host_events.specs.Asking.{Asking, Ending, IsWay, asks}
use Rattle.host_events.specs.Assemblies.{assembly_in}
use Rattle.host_events.specs.Operations.{begun_operation}
use Rattle.host_events.specs.Steps.{Step, AgreeWith, step_of, without_codes}
use Rattle.host_events.specs.Task.{look, ◌>>=◌}
use Rattle.host_events.specs.Task.Why.{Refused, Stopped}
use Rattle.bind_flow.specs.declared.images.ImageCode.{ImageCode}
use Rattle.bind_flow.specs.declared.images.ImageFile.{ImageFile}
use Rattle.bind_flow.specs.declared.turn.Turn.{Turn}
use Rattle.bind_flow.specs.declared.turn.Turn.TheVariants as turns
use Rattle.bind_flow.specs.declared.turn.Wait.{Wait}
use Rattle.bind_flow.specs.declared.turn.Wait.TheVariants as waits
use Rattle.bind_flow.specs.Binds.{binds}
use Rattle.bind_flow.specs.Flow.{Plan, IsAsked, IsEnd, IsOrder, world_of}
use Rattle.bind_flow.specs.Images.{reading_at}
use Rattle.bind_flow.specs.Readings.{meaning, readings}
use Rattle.bind_flow.specs.State.{CanGo, CanWait, IsLeft, has_published, is_publication, is_second}
use Rattle.bind_flow.specs.Turns.{event_at, left_with, turn_with}
use Rattle.bind_flow.proofs.TurnLemmas.{FitsAfter, goes, second_after}

-- how the image reads that comes after so many others
pub reading_of_file : (files : List ImageFile) (image k : ℕ) (file : ImageFile) → image ≡ suc k → slice_get files k ≡ Some file →
    reading_at (readings files) image ≡ Some (meaning file.reading)
reading_of_file files image k file is at = ap (reading_at (readings files)) is ∙ read files k file at
  where
    read : (fs : List ImageFile) (i : ℕ) (f : ImageFile) → slice_get fs i ≡ Some f → slice_get (readings fs) i ≡ Some (meaning f.reading)
    read [] i f at = cc
    read (g ∷ gs) zero f at = let same : g ≡ f = cc in ap (λ (x : ImageFile). Some (meaning x.reading)) same
    read (g ∷ gs) (suc i) f at = read gs i f at

-- at first a bind waits for the look-up
pub CanWait-first : (plan : Plan) → CanWait plan [] waits.Lookup
unfolding binds
CanWait-first plan = record { left = λ assemblies agree more end way. way; ready = tt; second = refl }

-- the codes of a trace with one step more
agree_front : (assemblies : ℕ → Option CodeOf) (trace : List Step) (step : Step) → AgreeWith assemblies (trace ++ step ∷ []) →
    AgreeWith assemblies trace × ((a : ℕ) → assembly_in step.reply ≡ Some a → step.code ≡ assemblies a)
agree_front assemblies [] step agree = (tt, agree.0)
agree_front assemblies (s ∷ trace) step agree = let rest = agree_front assemblies trace step agree.1 in ((agree.0, rest.0), rest.1)

-- an event with its reply, and then a way of what is left
way-asked : (event : Event) (reply : Reply) (next : Reply → Asking ℕ) (more : List (Event × Reply)) (end : Ending ℕ) →
    IsWay (next reply) more end → IsWay (asks event >>= next) ((event, reply) ∷ more) end
unfolding ◌>>=◌ asks
way-asked event reply next more end way = inl (reply, tt, (event, reply) ∷ [], more, (refl, inl (reply, refl, refl)), way, refl)

way-due : (event : Event) (next : Reply → Asking ℕ) → IsWay (asks event >>= next) [] (Err (Stopped event))
unfolding ◌>>=◌ asks
way-due event next = inr (Stopped event, (refl, inr (refl, refl)), refl)

pub IsLeft-push : (plan : Plan) (trace : List Step) (wait : Wait) (event : Event) (reply : Reply) (code : Option CodeOf) (made : Turn) →
    IsLeft plan trace (turns.Asks wait) → event ≡ event_at plan.wanted wait → turn_with plan.wanted plan.images wait reply code ≡ Some made →
    IsLeft plan (trace ++ step_of event reply code ∷ []) made
IsLeft-push plan trace wait event reply code made left asked is assemblies agree more end way =
    let parts = agree_front assemblies trace (step_of event reply code) agree in
    let within = (goes plan.wanted plan.images wait reply code made is).within assemblies parts.1 in
    let rest : IsWay (left_with (world_of assemblies plan.images) plan.wanted wait reply) more end = within.ways tt tt more end way in
    let whole = left assemblies parts.0 ((event_at plan.wanted wait, reply) ∷ more) end
    (way-asked (event_at plan.wanted wait) reply (left_with (world_of assemblies plan.images) plan.wanted wait) more end rest) in
    let same : without_codes trace ++ ((event_at plan.wanted wait, reply) ∷ more) ≡ without_codes (trace ++ step_of event reply code ∷ []) ++ more =
    ap (λ (e : Event). without_codes trace ++ ((e, reply) ∷ more)) (sym asked)
    ∙ sym (append_assoc (without_codes trace) ((event, reply) ∷ []) more)
    ∙ ap (λ t. t ++ more) (sym (map-append (λ (s : Step). (s.event, s.reply)) trace (step_of event reply code ∷ []))) in
    subst (λ t. IsWay (binds (world_of assemblies plan.images) plan.wanted) t end) same whole

-- what a flow that waits can do with a reply
pub CanGo-push : (plan : Plan) (trace : List Step) (wait : Wait) (event : Event) (reply : Reply) (code : Option CodeOf) (made : Turn) →
    CanWait plan trace wait → event ≡ event_at plan.wanted wait → turn_with plan.wanted plan.images wait reply code ≡ Some made →
    CanGo plan (trace ++ step_of event reply code ∷ []) made
CanGo-push plan trace wait event reply code made can asked is =
    by_turn made (IsLeft-push plan trace wait event reply code made can.left asked is) (goes plan.wanted plan.images wait reply code made is).fits
  where
    published : (w : Wait) → is_second w || is_publication (event_at plan.wanted w) ≡ second_after w
    published waits.Lookup = refl
    published (waits.Ask step) = refl
    published (waits.PublishDefault image) = refl
    published (waits.Publish candidate) = refl
    published (waits.Share a) = refl

    or_false : (b : Bool) → (b || false) ≡ b
    or_false true = refl
    or_false false = refl

    second : has_published (trace ++ step_of event reply code ∷ []) ≡ second_after wait
    second =
        list_any-append (λ (s : Step). is_publication s.event) trace (step_of event reply code ∷ [])
        ∙ ap (λ b. b || list_any (λ (s : Step). is_publication s.event) (step_of event reply code ∷ [])) can.second
        ∙ ap (λ b. is_second wait || b) (or_false (is_publication event))
        ∙ ap (λ (e : Event). is_second wait || is_publication e) asked
        ∙ published wait

    by_turn : (t : Turn) → IsLeft plan (trace ++ step_of event reply code ∷ []) t → FitsAfter (second_after wait) plan.images t →
        CanGo plan (trace ++ step_of event reply code ∷ []) t
    by_turn (turns.Asks w) left fits = record { left = left; ready = fits.0; second = second ∙ sym fits.1 }
    by_turn (turns.Found a) left fits = left
    by_turn (turns.Refused outcome) left fits = left

-- the event that it waits for is due
pub IsAsked-due : (plan : Plan) (trace : List Step) (wait : Wait) (order : Order ImageCode) → CanWait plan trace wait → order.event ≡ event_at plan.wanted wait →
    IsOrder plan.images order.event order → IsAsked plan trace order
IsAsked-due plan trace wait order can asked brings = record {
  due = λ assemblies agree.
      let way = can.left assemblies agree [] (Err (Stopped (event_at plan.wanted wait)))
      (way-due (event_at plan.wanted wait) (left_with (world_of assemblies plan.images) plan.wanted wait)) in
      subst (λ (e : Event). IsWay (binds (world_of assemblies plan.images) plan.wanted) (without_codes trace) (Err (Stopped e))) (sym asked)
      (subst (λ t. IsWay (binds (world_of assemblies plan.images) plan.wanted) t (Err (Stopped (event_at plan.wanted wait)))) (append-nil (without_codes trace)) way);
  brings = brings;
}

-- nothing is left: the trace is a whole bind
pub IsEnd-found : (plan : Plan) (trace : List Step) (a : ℕ) → IsLeft plan trace (turns.Found a) → IsEnd plan trace (outcomes.Assembly a)
unfolding look
IsEnd-found plan trace a left assemblies agree =
    (Ok a, subst (λ t. IsWay (binds (world_of assemblies plan.images) plan.wanted) t (Ok a)) (append-nil (without_codes trace)) (left assemblies agree [] (Ok a) (refl, refl, refl)), refl)

pub IsEnd-refused : (plan : Plan) (trace : List Step) (outcome : Outcome) → IsLeft plan trace (turns.Refused outcome) → IsEnd plan trace outcome
unfolding look
IsEnd-refused plan trace outcome left assemblies agree =
    let end : Ending ℕ = Err (Refused outcome) in
    (end, subst (λ t. IsWay (binds (world_of assemblies plan.images) plan.wanted) t end) (append-nil (without_codes trace)) (left assemblies agree [] end (refl, refl, refl)), refl)

-- no reply began an operation
pub quiet-push : (plan : Plan) (trace : List Step) (wait : Wait) (event : Event) (reply : Reply) (code : Option CodeOf) (made : Turn) →
    turn_with plan.wanted plan.images wait reply code ≡ Some made → filter_map (λ step. begun_operation step.1) (without_codes trace) ≡ [] →
    filter_map (λ step. begun_operation step.1) (without_codes (trace ++ step_of event reply code ∷ [])) ≡ []
quiet-push plan trace wait event reply code made is quiet =
    ap (filter_map (λ step. begun_operation step.1)) (map-append (λ (s : Step). (s.event, s.reply)) trace (step_of event reply code ∷ []))
    ∙ filter_map-append (λ (step : Event × Reply). begun_operation step.1) (without_codes trace) ((event, reply) ∷ [])
    ∙ ap (λ ks. ks ++ cons_option (begun_operation reply) []) quiet
    ∙ ap (λ o. cons_option o []) (goes plan.wanted plan.images wait reply code made is).quiet

-- what came for the event that was due began none
pub quiet-came : (plan : Plan) (trace : List Step) (wait : Wait) (event : Event) (reply : Reply) (code : Option CodeOf) →
    IsSome (turn_with plan.wanted plan.images wait reply code) → filter_map (λ step. begun_operation step.1) (without_codes trace) ≡ [] →
    filter_map (λ step. begun_operation step.1) (without_codes (trace ++ step_of event reply code ∷ [])) ≡ []
quiet-came plan trace wait event reply code came quiet = by_turn (turn_with plan.wanted plan.images wait reply code) refl came
  where
    by_turn : (o : Option Turn) → turn_with plan.wanted plan.images wait reply code ≡ o → IsSome o →
        filter_map (λ step. begun_operation step.1) (without_codes (trace ++ step_of event reply code ∷ [])) ≡ []
    by_turn None is came = cc
    by_turn (Some made) is came = quiet-push plan trace wait event reply code made is quiet

-- a turn that was made is one that the flow can go on with
pub CanGo-made : (plan : Plan) (trace : List Step) (wait : Wait) (event : Event) (reply : Reply) (code : Option CodeOf) (result : Result Turn AllocError) →
    CanWait plan trace wait → event ≡ event_at plan.wanted wait → IfOk result (λ made. turn_with plan.wanted plan.images wait reply code ≡ Some made) →
    IfOk result (CanGo plan (trace ++ step_of event reply code ∷ []))
CanGo-made plan trace wait event reply code (Ok made) can asked is = CanGo-push plan trace wait event reply code made can asked is
CanGo-made plan trace wait event reply code (Err error) can asked is = tt
