-- How the steps of a thread change when one entry comes.
use Rattle.std.proofs.Common.{◌≡◌, ℕ, Bool, true, false, cond, eqb, List, [], ◌∷◌, ◌++◌, Option, map, refl, sym, ap, ◌∙◌, append_assoc, append-nil}
use Rattle.std.specs.List.{filter}
use Rattle.host_events.specs.declared.event.Event.{Event}
use Rattle.host_events.specs.declared.reply.Reply.{Reply}
use Rattle.host_events.specs.declared.journal.Entry.{Entry}
use Rattle.host_events.specs.declared.order.CodeOf.{CodeOf}
use Rattle.host_events.specs.Journal.{own_entries}
use Rattle.host_events.specs.Steps.{Step, step_of, without_codes, one_step, steps_after, own_steps}

steps_after-push : (code_of : List Entry → Entry → Option CodeOf) (thread : ℕ) (before rest : List Entry) (entry : Entry) →
    steps_after code_of thread before (rest ++ entry ∷ []) ≡ steps_after code_of thread before rest ++ one_step code_of thread (before ++ rest) entry
steps_after-push code_of thread before [] entry =
    append-nil (one_step code_of thread before entry) ∙ ap (λ b. one_step code_of thread b entry) (sym (append-nil before))
steps_after-push code_of thread before (x ∷ xs) entry =
    ap (λ s. one_step code_of thread before x ++ s) (steps_after-push code_of thread (before ++ x ∷ []) xs entry
    ∙ ap (λ b. steps_after code_of thread (before ++ x ∷ []) xs ++ one_step code_of thread b entry) (append_assoc before (x ∷ []) xs))
    ∙ sym (append_assoc (one_step code_of thread before x) (steps_after code_of thread (before ++ x ∷ []) xs) (one_step code_of thread (before ++ x ∷ xs) entry))

pub own_steps-push : (code_of : List Entry → Entry → Option CodeOf) (journal : List Entry) (entry : Entry) (thread : ℕ) →
    own_steps code_of (journal ++ entry ∷ []) thread ≡ own_steps code_of journal thread ++ one_step code_of thread journal entry
own_steps-push code_of journal entry thread = steps_after-push code_of thread [] journal entry

without_codes-after : (code_of : List Entry → Entry → Option CodeOf) (thread : ℕ) (before rest : List Entry) →
    without_codes (steps_after code_of thread before rest) ≡ own_entries rest thread
without_codes-after code_of thread before [] = refl
without_codes-after code_of thread before (x ∷ xs) = at (eqb x.thread thread) (without_codes-after code_of thread (before ++ x ∷ []) xs)
  where
    own : Entry → Event × Reply
    own e = (e.event, e.reply)

    step : Step
    step = step_of x.event x.reply (code_of before x)

    later : List Step
    later = steps_after code_of thread (before ++ x ∷ []) xs

    mine : List Entry
    mine = filter (λ e. eqb e.thread thread) xs

    at : (b : Bool) → without_codes later ≡ map own mine →
        without_codes (cond b (step ∷ []) [] ++ later) ≡ map own (cond b (x ∷ mine) mine)
    at true same = ap (λ v. own x ∷ v) same
    at false same = same

-- without their codes they are the thread's own entries
pub own_steps-entries : (code_of : List Entry → Entry → Option CodeOf) (journal : List Entry) (thread : ℕ) →
    without_codes (own_steps code_of journal thread) ≡ own_entries journal thread
own_steps-entries code_of journal thread = without_codes-after code_of thread [] journal
