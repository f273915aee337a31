-- How one entry more changes the steps of its thread, and leaves those of the others.
use Rattle.std.proofs.Common.{◌≡◌, ◌≢◌, ℕ, cond, List, [], ◌∷◌, ◌++◌, Option, Some, refl, sym, ap, ◌∙◌, append_assoc, append-nil, length, ◌<◌, arith}
use Rattle.std.proofs.lemmas.List.{length_push}
use Rattle.std.proofs.lemmas.Bool.{eq-eqb, ne_eqb}
use Rattle.host_events.specs.declared.event.Event.{Event}
use Rattle.host_events.specs.declared.reply.Reply.{Reply}
use Rattle.host_events.specs.declared.journal.Entry.{Entry}
use Rattle.host_events.specs.declared.flow.Next.{Next}
use Rattle.host_events.specs.declared.flow.Next.TheVariants as nexts
use Rattle.host_events.specs.declared.order.CodeOf.{CodeOf}
use Rattle.host_events.specs.Flows.{Stand, trace_after}
use Rattle.host_events.specs.Steps.{Step, entry_of, one_step, own_steps, step_of, steps_after}
use Rattle.host_threads.specs.Seats.{IfGoesOn}
use Rattle.host_events.proofs.Steps.{own_steps-push}

steps_after-append : (code_of : List Entry → Entry → Option CodeOf) (thread : ℕ) (before journal later : List Entry) →
    steps_after code_of thread before (journal ++ later)
    ≡ steps_after code_of thread before journal ++ steps_after code_of thread (before ++ journal) later
steps_after-append code_of thread before [] later = ap (λ b. steps_after code_of thread b later) (sym (append-nil before))
steps_after-append code_of thread before (e ∷ journal) later =
    ap (λ steps. one_step code_of thread before e ++ steps) (steps_after-append code_of thread (before ++ e ∷ []) journal later
    ∙ ap (λ b. steps_after code_of thread (before ++ e ∷ []) journal ++ steps_after code_of thread b later) (append_assoc before (e ∷ []) journal))
    ∙ sym (append_assoc (one_step code_of thread before e) (steps_after code_of thread (before ++ e ∷ []) journal)
    (steps_after code_of thread (before ++ e ∷ journal) later))

-- the steps in a journal are those in its beginning, and those after it
pub own_steps-append : (code_of : List Entry → Entry → Option CodeOf) (journal later : List Entry) (thread : ℕ) →
    own_steps code_of (journal ++ later) thread ≡ own_steps code_of journal thread ++ steps_after code_of thread journal later
own_steps-append code_of journal later thread = steps_after-append code_of thread [] journal later

-- an entry is one step more of its thread
pub own_steps-own : (code_of : List Entry → Entry → Option CodeOf) (journal : List Entry) (thread : ℕ) (event : Event) (reply : Reply) →
    own_steps code_of (journal ++ entry_of thread event reply ∷ []) thread
    ≡ own_steps code_of journal thread ++ step_of event reply (code_of journal (entry_of thread event reply)) ∷ []
own_steps-own code_of journal thread event reply =
    own_steps-push code_of journal (entry_of thread event reply) thread
    ∙ ap (λ b. own_steps code_of journal thread ++ cond b (step_of event reply (code_of journal (entry_of thread event reply)) ∷ []) []) (eq-eqb thread thread refl)

-- and none of any other
pub own_steps-other : (code_of : List Entry → Entry → Option CodeOf) (journal : List Entry) (entry : Entry) (thread : ℕ) → entry.thread ≢ thread →
    own_steps code_of (journal ++ entry ∷ []) thread ≡ own_steps code_of journal thread
own_steps-other code_of journal entry thread differs =
    own_steps-push code_of journal entry thread
    ∙ ap (λ b. own_steps code_of journal thread ++ cond b (step_of entry.event entry.reply (code_of journal entry) ∷ []) []) (ne_eqb entry.thread thread differs)
    ∙ append-nil (own_steps code_of journal thread)

pub own_steps-after_other : (code_of : List Entry → Entry → Option CodeOf) (journal after : List Entry) (entry : Entry) (thread : ℕ) → entry.thread ≢ thread →
    after ≡ journal ++ entry ∷ [] → own_steps code_of after thread ≡ own_steps code_of journal thread
own_steps-after_other code_of journal after entry thread differs pushed =
    ap (λ j. own_steps code_of j thread) pushed ∙ own_steps-other code_of journal entry thread differs

-- a flow that waits takes the answer as one step more
pub trace_after-answer : {Order Answer : Type 0} (event : Order → Event) (reply : Answer → Reply) (code : Answer → Option CodeOf)
    (trace : List Step) (stand : Stand Order) (order : Order) (answer : Answer) → stand ≡ Stand.Waiting order →
    trace_after event reply code trace stand (Some answer) ≡ trace ++ step_of (event order) (reply answer) (code answer) ∷ []
trace_after-answer event reply code trace stand order answer waits =
    ap (λ s. trace_after event reply code trace s (Some answer)) waits

pub IfGoesOn-always : {Order End : Type 0} (next : Next Order End) (fact : Type 0) → fact → IfGoesOn next fact
IfGoesOn-always (nexts.Ask order) fact holds = holds
IfGoesOn-always (nexts.End end) fact holds = holds
IfGoesOn-always nexts.OutOfMemory fact holds = tt

pub longer_after : (journal after : List Entry) (entry : Entry) → after ≡ journal ++ entry ∷ [] → length journal < length after
longer_after journal after entry pushed = omega (arith, length_push journal entry, ap length pushed)
