-- The stand of a flow, and how an answer changes it (own).
use Rattle.std.specs.Prelude.{ℕ, ◌≡◌, List, [], ◌∷◌, ◌++◌, Option, Some, None}
use Rattle.host_events.specs.declared.event.Event.{Event}
use Rattle.host_events.specs.declared.event.Event.TheVariants as events
use Rattle.host_events.specs.declared.flow.Next.{Next}
use Rattle.host_events.specs.declared.flow.Next.TheVariants as nexts
use Rattle.host_events.specs.declared.order.CodeOf.{CodeOf}
use Rattle.host_events.specs.declared.reply.Reply.{Reply}
use Rattle.host_events.specs.Operations.{open_in}
use Rattle.host_events.specs.Steps.{Step, step_of, without_codes}

-- how far a flow is
pub data Stand (Order : Type 0) : Type 0 where
  -- it was not yet resumed
  Fresh : Stand Order
  -- it waits for the answer to this order
  Waiting : Order → Stand Order
  Ended : Stand Order
  WithoutMemory : Stand Order

-- A flow is resumed with nothing at first, and later with an answer that it takes to its order.
abbrev pub IsResumable : {Order Answer : Type 0} → (Order → Reply → Option CodeOf → Type 0) →
    (Answer → Reply) → (Answer → Option CodeOf) → Stand Order → Option Answer → Type 0
IsResumable takes reply code Stand.Fresh None = Unit {0}
IsResumable takes reply code Stand.Fresh (Some answer) = ⊥
IsResumable takes reply code (Stand.Waiting order) None = ⊥
IsResumable takes reply code (Stand.Waiting order) (Some answer) = takes order (reply answer) (code answer)
IsResumable takes reply code Stand.Ended last = ⊥
IsResumable takes reply code Stand.WithoutMemory last = ⊥

-- an answer adds a step to the trace
abbrev pub trace_after : {Order Answer : Type 0} → (Order → Event) →
    (Answer → Reply) → (Answer → Option CodeOf) → List Step → Stand Order → Option Answer → List Step
trace_after event reply code trace (Stand.Waiting order) (Some answer) =
    trace ++ step_of (event order) (reply answer) (code answer) ∷ []
trace_after event reply code trace (Stand.Waiting order) None = trace
trace_after event reply code trace Stand.Fresh last = trace
trace_after event reply code trace Stand.Ended last = trace
trace_after event reply code trace Stand.WithoutMemory last = trace

-- what was given is the new stand
abbrev pub stand_after : {Order End : Type 0} → Next Order End → Stand Order
stand_after (nexts.Ask order) = Stand.Waiting order
stand_after (nexts.End end) = Stand.Ended
stand_after nexts.OutOfMemory = Stand.WithoutMemory

-- what is asked may be asked, and the end is one of the trace
abbrev pub Gives : {Order End : Type 0} → (Order → Type 0) → (End → Type 0) → Next Order End → Type 0
Gives asks ends (nexts.Ask order) = asks order
Gives asks ends (nexts.End end) = ends end
Gives asks ends nexts.OutOfMemory = Unit {0}

-- the order of the `Leave` of the one operation that is open, and none where no operation is
abbrev pub Owes : {Order : Type 0} → (Order → Event) → (Order → Type 0) → List Step → Option Order → Type 0
Owes event leaves trace None = open_in (without_codes trace) ≡ []
Owes event leaves trace (Some order) =
    leaves order × (k : ℕ) × (open_in (without_codes trace) ≡ k ∷ []) × (event order ≡ events.Leave k)
