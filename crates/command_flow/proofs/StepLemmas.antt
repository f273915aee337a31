-- How one step more changes where a thread is, and what it has open.
use Rattle.std.proofs.Common.{◌≡◌, ◌∙◌, ◌+◌, ℕ, sym, ap, subst, refl, Bool, true, false, not, cond, if◌then◌else◌, List, [], ◌∷◌, ◌++◌, Some, None, arith}
use Rattle.std.specs.List.{cons_option, filter, list_any}
use Rattle.std.proofs.lemmas.Bool.{false_from_ne_true, or_from, or_right}
use Rattle.std.proofs.lemmas.List.{append-nil, map-append}
use Rattle.std.proofs.lemmas.List.Folds.{list_any-append}
use Rattle.host_events.specs.declared.event.Event.{Event}
use Rattle.host_events.specs.declared.journal.Entry.{Entry}
use Rattle.host_events.specs.declared.reply.Reply.{Reply}
use Rattle.host_events.specs.Assemblies.{code_of}
use Rattle.host_events.specs.Files.{Files}
use Rattle.host_events.specs.Journal.{Fits, IsProper, own_entries}
use Rattle.host_events.specs.Operations.{begun_operation, ends, open_in}
use Rattle.host_events.specs.Reply.{IsReply}
use Rattle.host_events.specs.Steps.{Step, own_steps, without_codes}
use Rattle.host_events.proofs.Numbering.{number_bounds}
use Rattle.host_events.proofs.Operations.{ended_own}
use Rattle.host_events.proofs.Parts.{PartsAt, parts-append, parts_any}
use Rattle.host_events.proofs.Push.{list_any-push}
use Rattle.host_events.proofs.Quiet.{begins}
use Rattle.host_events.proofs.Steps.{own_steps-entries}
use Rattle.host_events.proofs.Within.{begun_by, ends-leave, number-begun, numbered, open_in-push, within_began}
use Rattle.command_flow.specs.Flow.{Progress, is_last, progress_after, progress_by, progress_of}

progress-push : (trace : List Step) (step : Step) → progress_of (trace ++ step ∷ []) ≡ progress_after (progress_of trace) step
progress-push trace step = from (record { ended = 0; own = [] }) trace
  where
    from : (place : Progress) (steps : List Step) → progress_by place (steps ++ step ∷ []) ≡ progress_after (progress_by place steps) step
    from place [] = refl
    from place (s ∷ steps) = from (progress_after place s) steps

progress-by : (trace : List Step) (step : Step) (place : Progress) (last : Bool) → progress_of trace ≡ place → is_last step ≡ last →
    progress_of (trace ++ step ∷ []) ≡ (if last then record { ended = place.ended + 1; own = [] } else record { ended = place.ended; own = place.own ++ step ∷ [] })
progress-by trace step place last at is =
    progress-push trace step
    ∙ ap (λ (p : Progress). progress_after p step) at
    ∙ ap (λ (b : Bool). if b then record { ended = place.ended + 1; own = [] } else record { ended = place.ended; own = place.own ++ step ∷ [] }) is

-- the last step of a command
pub place-last : (trace : List Step) (step : Step) (ended : ℕ) (own : List Step) → progress_of trace ≡ record { ended = ended; own = own } → is_last step ≡ true →
    progress_of (trace ++ step ∷ []) ≡ record { ended = ended + 1; own = [] }
place-last trace step ended own at is = progress-by trace step (record { ended = ended; own = own }) true at is

-- a step that is not the last of its command
pub place-more : (trace : List Step) (step : Step) (ended : ℕ) (own : List Step) → progress_of trace ≡ record { ended = ended; own = own } → is_last step ≡ false →
    progress_of (trace ++ step ∷ []) ≡ record { ended = ended; own = own ++ step ∷ [] }
place-more trace step ended own at is = progress-by trace step (record { ended = ended; own = own }) false at is

open-push : (trace : List Step) (step : Step) →
    open_in (without_codes (trace ++ step ∷ []))
    ≡ filter (λ k. not (ends k step.event)) (open_in (without_codes trace))
    ++ filter (λ k. not (list_any (λ (s : Event × Reply). ends k s.0) (without_codes trace ++ (step.event, step.reply) ∷ []))) (cons_option (begun_operation step.reply) [])
open-push trace step =
    ap open_in (map-append (λ (s : Step). (s.event, s.reply)) trace (step ∷ [])) ∙ open_in-push (without_codes trace) (step.event, step.reply)

-- a step that begins none, where these are open
open-quiet : (trace : List Step) (step : Step) (open_now : List ℕ) → open_in (without_codes trace) ≡ open_now → begun_operation step.reply ≡ None →
    open_in (without_codes (trace ++ step ∷ [])) ≡ filter (λ k. not (ends k step.event)) open_now
open-quiet trace step open_now now none =
    open-push trace step
    ∙ ap (λ o. filter (λ k. not (ends k step.event)) (open_in (without_codes trace))
    ++ filter (λ k. not (list_any (λ (s : Event × Reply). ends k s.0) (without_codes trace ++ (step.event, step.reply) ∷ []))) (cons_option o [])) none
    ∙ append-nil (filter (λ k. not (ends k step.event)) (open_in (without_codes trace)))
    ∙ ap (filter (λ k. not (ends k step.event))) now

pub open-none : (trace : List Step) (step : Step) → open_in (without_codes trace) ≡ [] → begun_operation step.reply ≡ None →
    open_in (without_codes (trace ++ step ∷ [])) ≡ []
open-none trace step now none = open-quiet trace step [] now none

open-one : (trace : List Step) (step : Step) (k : ℕ) (ended : Bool) → open_in (without_codes trace) ≡ k ∷ [] → begun_operation step.reply ≡ None → ends k step.event ≡ ended →
    open_in (without_codes (trace ++ step ∷ [])) ≡ cond (not ended) (k ∷ []) []
open-one trace step k ended now none is = open-quiet trace step (k ∷ []) now none ∙ ap (λ b. cond (not b) (k ∷ []) []) is

-- an event within an operation leaves it open
pub open-stays : (trace : List Step) (step : Step) (k : ℕ) → open_in (without_codes trace) ≡ k ∷ [] → begun_operation step.reply ≡ None → ends k step.event ≡ false →
    open_in (without_codes (trace ++ step ∷ [])) ≡ k ∷ []
open-stays trace step k now none is = open-one trace step k false now none is

-- the end of an operation leaves none open
pub open-left : (trace : List Step) (step : Step) (k : ℕ) → open_in (without_codes trace) ≡ k ∷ [] → begun_operation step.reply ≡ None → ends k step.event ≡ true →
    open_in (without_codes (trace ++ step ∷ [])) ≡ []
open-left trace step k now none is = open-one trace step k true now none is

-- an operation that was begun, and that no step before ended
pub open-begun : (trace : List Step) (step : Step) (k : ℕ) → open_in (without_codes trace) ≡ [] → begun_operation step.reply ≡ Some k → ends k step.event ≡ false →
    list_any (λ (s : Event × Reply). ends k s.0) (without_codes trace) ≡ false → open_in (without_codes (trace ++ step ∷ [])) ≡ k ∷ []
open-begun trace step k now begun here before =
    let any : list_any (λ (s : Event × Reply). ends k s.0) (without_codes trace ++ (step.event, step.reply) ∷ []) ≡ false =
    list_any-push (λ (s : Event × Reply). ends k s.0) (without_codes trace) (step.event, step.reply)
    ∙ or_from (list_any (λ (s : Event × Reply). ends k s.0) (without_codes trace)) (ends k step.event) before here in
    open-push trace step
    ∙ ap (λ ks. filter (λ n. not (ends n step.event)) ks
    ++ filter (λ n. not (list_any (λ (s : Event × Reply). ends n s.0) (without_codes trace ++ (step.event, step.reply) ∷ []))) (cons_option (begun_operation step.reply) [])) now
    ∙ ap (λ o. filter (λ n. not (list_any (λ (s : Event × Reply). ends n s.0) (without_codes trace ++ (step.event, step.reply) ∷ []))) (cons_option o [])) begun
    ∙ ap (λ b. cond (not b) (k ∷ []) []) any

-- What a thread begins now it did not end before.
pub not_ended : (files : Files) (journal : List Entry) (thread : ℕ) (before trace : List Step) (event : Event) (reply : Reply) (k : ℕ) → IsProper files journal →
    own_steps code_of journal thread ≡ before ++ trace → IsReply files journal event reply → begun_operation reply ≡ Some k →
    list_any (λ (s : Event × Reply). ends k s.0) (without_codes trace) ≡ false
not_ended files journal thread before trace event reply k proper own replied begun =
    false_from_ne_true (list_any (λ (s : Event × Reply). ends k s.0) (without_codes trace))
    (λ ended.
    let entries : without_codes before ++ without_codes trace ≡ own_entries journal thread =
    sym (map-append (λ (s : Step). (s.event, s.reply)) before trace) ∙ sym (ap without_codes own) ∙ own_steps-entries code_of journal thread in
    let any : list_any (λ (s : Event × Reply). ends k s.0) (own_entries journal thread) ≡ true =
    sym (ap (list_any (λ (s : Event × Reply). ends k s.0)) entries)
    ∙ list_any-append (λ (s : Event × Reply). ends k s.0) (without_codes before) (without_codes trace)
    ∙ or_right (list_any (λ (s : Event × Reply). ends k s.0) (without_codes before)) (list_any (λ (s : Event × Reply). ends k s.0) (without_codes trace)) ended in
    let p = parts_any (λ (e : Entry). ends k e.event) journal (ended_own k journal thread any) in
    let began : PartsAt (λ e. begun_by p.here.thread e ≡ Some k) p.before =
    within_began p.before p.here.thread k
    (subst (λ (e : Event). Fits p.before p.here.thread e) (ends-leave k p.here.event p.holds) (proper.fits p.before p.here p.after p.parted)) in
    let there : PartsAt (λ e. begun_by p.here.thread e ≡ Some k) journal =
    subst (PartsAt (λ e. begun_by p.here.thread e ≡ Some k)) (sym p.parted)
    (parts-append (λ e. begun_by p.here.thread e ≡ Some k) p.before (p.here ∷ p.after) began) in
    let bounds = number_bounds files begun_operation (number-begun files) journal k proper.legal (numbered journal p.here.thread k there) in
    let most = bounds.1 in
    let number = (begins files journal event reply k replied begun).number_is in
    omega arith)
