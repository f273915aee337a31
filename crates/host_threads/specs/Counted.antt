-- What the tests drive: a journal of three threads, and flows that count (own).
use Rattle.std.specs.Prelude.{ℕ, Bool, true, false, ◌≡◌, ◌<◌, ◌≤◌, ◌==◌, if◌then◌else◌, List, [], ◌∷◌, ◌++◌, length, map, None}
use Rattle.std.specs.List.{filter}
use Rattle.std.proofs.Common.{◌+◌, ◌^◌, cond, eqb, refl, ap, arith}
use Rattle.std.proofs.lemmas.Bool.Decides.{nat_tests}
use Rattle.host_events.specs.declared.event.Event.{Event}
use Rattle.host_events.specs.declared.event.Event.TheVariants as events
use Rattle.host_events.specs.declared.reply.Reply.{Reply}
use Rattle.host_events.specs.declared.reply.Reply.TheVariants as replies
use Rattle.host_events.specs.declared.journal.Entry.{Entry}
use Rattle.host_events.specs.Journal.{own_entries}
use Rattle.host_events.specs.Operations.{ends}
use Rattle.host_events.specs.Steps.{Step, step_of}
use Rattle.host_threads.specs.Turns.{IsThread}

-- The third thread's events begin the operation 7 and end it. Those of the others make contexts, numbered by the
-- count of entries.
abbrev pub counted_reply : List Entry → ℕ → Event → Reply
counted_reply before thread event =
    if thread == 3 then (if ends 7 event then replies.Left else replies.Entered 7 0) else replies.Made (length before)

-- no thread has more than its share, which is small
pub record IsCounted (share : ℕ) (journal : List Entry) : Type 0 where
  pub small : share ≤ 100
  pub each : (t : ℕ) → length (own_entries journal t) ≤ share
  pub replied : (before : List Entry) (entry : Entry) (after : List Entry) → journal ≡ before ++ entry ∷ after →
      IsThread 3 entry.thread × (entry.reply ≡ counted_reply before entry.thread entry.event)

abbrev pub MayCount : ℕ → List Entry → ℕ → Type 0
MayCount share journal thread = IsThread 3 thread × (length (own_entries journal thread) < share)

-- the reply with a number: of an operation that began, or of a context that was made
abbrev pub numbered_reply : Bool → ℕ → Reply
numbered_reply true n = replies.Entered n 0
numbered_reply false n = replies.Made n

-- a flow's steps, by the numbers that it was told
abbrev pub counted_steps : Bool → List ℕ → List Step
counted_steps enters numbers = map (λ n. step_of events.Collect (numbered_reply enters n) None) numbers

one_more : (e : Entry) (es : List Entry) (t : ℕ) → length (own_entries (e ∷ es) t) ≡ cond (eqb e.thread t) 1 0 + length (own_entries es t)
one_more e es t = at (eqb e.thread t)
  where
    mine : List Entry
    mine = filter (λ (x : Entry). eqb x.thread t) es

    own : Entry → Event × Reply
    own x = (x.event, x.reply)

    at : (b : Bool) → length (map own (cond b (e ∷ mine) mine)) ≡ cond b 1 0 + length (map own mine)
    at true = omega arith
    at false = omega arith

one_of_three : (t : ℕ) → IsThread 3 t → cond (eqb t 1) 1 0 + cond (eqb t 2) 1 0 + cond (eqb t 3) 1 0 ≡ 1
one_of_three t h = grind (arith, nat_tests)

-- each entry is one of the three threads' own
three : (journal : List Entry) → ((before : List Entry) (entry : Entry) (after : List Entry) → journal ≡ before ++ entry ∷ after → IsThread 3 entry.thread) →
    length journal ≡ length (own_entries journal 1) + length (own_entries journal 2) + length (own_entries journal 3)
three [] all = refl
three (e ∷ es) all =
    let here : IsThread 3 e.thread = all [] e es refl in
    let rest = three es (λ before entry after at. all (e ∷ before) entry after (ap (λ xs. e ∷ xs) at)) in
    let first : length (own_entries (e ∷ es) 1) ≡ cond (eqb e.thread 1) 1 0 + length (own_entries es 1) = one_more e es 1 in
    let second : length (own_entries (e ∷ es) 2) ≡ cond (eqb e.thread 2) 1 0 + length (own_entries es 2) = one_more e es 2 in
    let third : length (own_entries (e ∷ es) 3) ≡ cond (eqb e.thread 3) 1 0 + length (own_entries es 3) = one_more e es 3 in
    let sum : cond (eqb e.thread 1) 1 0 + cond (eqb e.thread 2) 1 0 + cond (eqb e.thread 3) 1 0 ≡ 1 = one_of_three e.thread here in
    omega arith

pub length-counted : (share : ℕ) (journal : List Entry) → IsCounted share journal →
    length journal ≡ length (own_entries journal 1) + length (own_entries journal 2) + length (own_entries journal 3)
length-counted share journal counted = three journal (λ before entry after at. (counted.replied before entry after at).0)

-- so a journal is shorter than 2 ^ 32
pub few_counted : (share : ℕ) (journal : List Entry) → IsCounted share journal → length journal < 2 ^ 32
few_counted share journal counted =
    omega (arith, length-counted share journal counted, counted.each 1, counted.each 2, counted.each 3, counted.small)
