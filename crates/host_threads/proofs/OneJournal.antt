-- Turns and what follows a thread's own entries determine the journal.
use Rattle.std.proofs.Common.{◌≡◌, ◌≢◌, ℕ, Bool, true, false, ◌%◌, ◌||◌, cond, eqb, List, [], ◌∷◌, ◌++◌, length, map, Option, Some, None, ◌⊎◌, inl, inr, refl, sym, ap, subst, ◌∙◌, append_assoc, append-nil}
use Rattle.std.specs.List.{filter, list_any, range_with_len, slice_get}
use Rattle.std.proofs.lemmas.Bool.{eq-eqb}
use Rattle.std.proofs.lemmas.Bool.Decides.{eqb_tells}
use Rattle.std.proofs.lemmas.List.{map-append}
use Rattle.std.proofs.lemmas.List.Elements.{filter-append, filter_agree}
use Rattle.host_events.specs.declared.event.Event.{Event}
use Rattle.host_events.specs.declared.reply.Reply.{Reply}
use Rattle.host_events.specs.declared.journal.Entry.{Entry}
use Rattle.host_events.specs.declared.order.CodeOf.{CodeOf}
use Rattle.host_events.specs.Files.{Files}
use Rattle.host_events.specs.Journal.{IsLegal, own_entries}
use Rattle.host_events.specs.Reply.{IsReply}
use Rattle.host_events.specs.Steps.{Step, own_steps, step_of, steps_after}
use Rattle.host_events.proofs.Replies.{one_reply_each}
use Rattle.host_threads.specs.Laws.{IsRunBy, HasOneJournal}
use Rattle.host_threads.specs.Turns.{IsOfThreads, IsThread, TakesTurns, unfinished, digit_at}
use Rattle.host_threads.proofs.OwnSteps.{own_steps-append}

own_entries-append : (before after : List Entry) (t : ℕ) → own_entries (before ++ after) t ≡ own_entries before t ++ own_entries after t
own_entries-append before after t =
    ap (map own) (filter-append (λ (e : Entry). eqb e.thread t) before after)
    ∙ map-append own (filter (λ (e : Entry). eqb e.thread t) before) (filter (λ (e : Entry). eqb e.thread t) after)
  where
    own : Entry → Event × Reply
    own e = (e.event, e.reply)

-- a test of whether the thread has one of the entries
abbrev has : ℕ → List Entry → Bool
has t entries = list_any (λ (entry : Entry). eqb entry.thread t) entries

none_own : (t : ℕ) (entries : List Entry) → has t entries ≡ false → own_entries entries t ≡ []
none_own t [] none = refl
none_own t (e ∷ es) none = at (eqb e.thread t) (none_own t es) none
  where
    own : Entry → Event × Reply
    own x = (x.event, x.reply)

    mine : List Entry
    mine = filter (λ (x : Entry). eqb x.thread t) es

    at : (b : Bool) → (has t es ≡ false → map own mine ≡ []) → (b || has t es) ≡ false → map own (cond b (e ∷ mine) mine) ≡ []
    at true later none = cc
    at false later none = later none

-- where it has none, it has what it had before
own_entries-none : (t : ℕ) (before after : List Entry) → has t after ≡ false → own_entries (before ++ after) t ≡ own_entries before t
own_entries-none t before after none =
    own_entries-append before after t ∙ ap (λ es. own_entries before t ++ es) (none_own t after none) ∙ append-nil (own_entries before t)

none_after : (code_of : List Entry → Entry → Option CodeOf) (t : ℕ) (before entries : List Entry) → has t entries ≡ false → steps_after code_of t before entries ≡ []
none_after code_of t before [] none = refl
none_after code_of t before (e ∷ es) none = at (eqb e.thread t) (none_after code_of t (before ++ e ∷ []) es) none
  where
    later : List Step
    later = steps_after code_of t (before ++ e ∷ []) es

    at : (b : Bool) → (has t es ≡ false → later ≡ []) → (b || has t es) ≡ false → cond b (step_of e.event e.reply (code_of before e) ∷ []) [] ++ later ≡ []
    at true rest none = cc
    at false rest none = rest none

own_steps-none : (code_of : List Entry → Entry → Option CodeOf) (t : ℕ) (before after : List Entry) → has t after ≡ false →
    own_steps code_of (before ++ after) t ≡ own_steps code_of before t
own_steps-none code_of t before after none =
    own_steps-append code_of before after t ∙ ap (λ steps. own_steps code_of before t ++ steps) (none_after code_of t before after none)
    ∙ append-nil (own_steps code_of before t)

-- where it has one, it has a first
record HasFirst (t : ℕ) (entries : List Entry) : Type 0 where
  others : List Entry
  entry : Entry
  after : List Entry
  parted : entries ≡ others ++ entry ∷ after
  by : entry.thread ≡ t
  none : has t others ≡ false

first_of : (t : ℕ) (entries : List Entry) → has t entries ≡ true → HasFirst t entries
first_of t [] some = cc
first_of t (e ∷ es) some = at (eqb_tells e.thread t) (first_of t es)
  where
    at : ((eqb e.thread t ≡ true) × (e.thread ≡ t)) ⊎ ((eqb e.thread t ≡ false) × (e.thread ≢ t)) → (has t es ≡ true → HasFirst t es) → HasFirst t (e ∷ es)
    at (inl p) later = record { others = []; entry = e; after = es; parted = refl; by = p.1; none = refl }
    at (inr p) later =
        let rest = later (sym (ap (λ b. b || has t es) p.0) ∙ some) in
        record {
          others = e ∷ rest.others;
          entry = rest.entry;
          after = rest.after;
          parted = ap (λ xs. e ∷ xs) rest.parted;
          by = rest.by;
          none = ap (λ b. b || has t rest.others) p.0 ∙ rest.none;
        }

same_entry : (x y : Entry) → x.thread ≡ y.thread → x.event ≡ y.event → x.reply ≡ y.reply → x ≡ y
same_entry x y thread event reply =
    ap (λ t. record { thread = t; event = x.event; reply = x.reply }) thread
    ∙ ap (λ e. record { thread = y.thread; event = e; reply = x.reply }) event
    ∙ ap (λ r. record { thread = y.thread; event = y.event; reply = r }) reply

-- Threads ran, in the turns of a schedule, to their ends, where `own` tells what a thread has in a journal.
pub record IsRunOf {X : Type 0} (own : List Entry → ℕ → List X) (follows : ℕ → List X → Event → Type 0) (is_whole : ℕ → List X → Type 0)
    (files : Files) (threads : ℕ) (schedule : List ℕ) (journal : List Entry) : Type 0 where
  pub legal : IsLegal files journal
  pub turns : TakesTurns threads journal schedule
  pub of_threads : IsOfThreads threads journal
  pub followed : (before : List Entry) (entry : Entry) (after : List Entry) → journal ≡ before ++ entry ∷ after →
      follows entry.thread (own before entry.thread) entry.event
  pub whole : (t : ℕ) → IsThread threads t → is_whole t (own journal t)

-- `own` tells what a thread has in a journal; entries without the thread leave it as it was
module _ {X : Type 0} (own : List Entry → ℕ → List X)
    (has_none : (t : ℕ) (before after : List Entry) → has t after ≡ false → own (before ++ after) t ≡ own before t)
    (follows : ℕ → List X → Event → Type 0) (is_whole : ℕ → List X → Type 0)
    (one : (t : ℕ) (had : List X) (first second : Event) → follows t had first → follows t had second → first ≡ second)
    (last : (t : ℕ) (had : List X) (event : Event) → is_whole t had → follows t had event → ⊥)
    (files : Files) (threads : ℕ) (schedule : List ℕ) where
  -- a thread that has an entry later had no whole run yet
  not_whole : (before after : List Entry) (t : ℕ) → IsRunOf own follows is_whole files threads schedule (before ++ after) → has t after ≡ true →
      is_whole t (own before t) → ⊥
  not_whole before after t run some whole =
      let f = first_of t after some in
      let followed = run.followed (before ++ f.others) f.entry f.after (ap (λ xs. before ++ xs) f.parted ∙ sym (append_assoc before f.others (f.entry ∷ f.after))) in
      let had : own (before ++ f.others) f.entry.thread ≡ own before t =
      ap (λ u. own (before ++ f.others) u) f.by ∙ has_none t before f.others f.none in
      last t (own before t) f.entry.event whole
      (subst (λ (mine : List X). follows t mine f.entry.event) had
      (subst (λ (u : ℕ). follows u (own (before ++ f.others) f.entry.thread) f.entry.event) f.by followed))

  -- it is one of the threads
  is_thread : (before after : List Entry) (t : ℕ) → IsRunOf own follows is_whole files threads schedule (before ++ after) → has t after ≡ true → IsThread threads t
  is_thread before after t run some =
      let f = first_of t after some in
      subst (IsThread threads) f.by
      (run.of_threads (before ++ f.others) f.entry f.after (ap (λ xs. before ++ xs) f.parted ∙ sym (append_assoc before f.others (f.entry ∷ f.after))))

  -- so a thread that has an entry later in one journal has one in the other
  has_too : (before xs ys : List Entry) (t : ℕ) → IsRunOf own follows is_whole files threads schedule (before ++ xs) → IsRunOf own follows is_whole files threads schedule (before ++ ys) →
      has t xs ≡ true → has t ys ≡ true
  has_too before xs ys t run other some = at (has t ys) refl
    where
      at : (b : Bool) → has t ys ≡ b → has t ys ≡ true
      at true e = e
      at false e = absurd (not_whole before xs t run some
          (subst (λ (mine : List X). is_whole t mine) (has_none t before ys e) (other.whole t (is_thread before xs t run some))))

  same_has : (before xs ys : List Entry) (t : ℕ) → IsRunOf own follows is_whole files threads schedule (before ++ xs) → IsRunOf own follows is_whole files threads schedule (before ++ ys) →
      has t xs ≡ has t ys
  same_has before xs ys t run other = at (has t xs) (has t ys) refl refl
    where
      at : (b c : Bool) → has t xs ≡ b → has t ys ≡ c → b ≡ c
      at true true p q = refl
      at false false p q = refl
      at true false p q = sym (has_too before xs ys t run other p) ∙ q
      at false true p q = sym p ∙ has_too before ys xs t other run q

  -- a first entry of one journal is none where the other ends
  not_ended : (before xs : List Entry) (x : Entry) → IsRunOf own follows is_whole files threads schedule (before ++ x ∷ xs) → IsRunOf own follows is_whole files threads schedule (before ++ []) → ⊥
  not_ended before xs x run other =
      let some : has x.thread (x ∷ xs) ≡ true = ap (λ b. b || has x.thread xs) (eq-eqb x.thread x.thread refl) in
      not_whole before (x ∷ xs) x.thread run some
      (subst (λ (mine : List X). is_whole x.thread mine) (has_none x.thread before [] refl)
      (other.whole x.thread (is_thread before (x ∷ xs) x.thread run some)))

  same_first : (before xs ys : List Entry) (x y : Entry) → IsRunOf own follows is_whole files threads schedule (before ++ x ∷ xs) → IsRunOf own follows is_whole files threads schedule (before ++ y ∷ ys) → x ≡ y
  same_first before xs ys x y run other =
      let waiting : unfinished threads (y ∷ ys) ≡ unfinished threads (x ∷ xs) =
      filter_agree (λ t. has t (y ∷ ys)) (λ t. has t (x ∷ xs)) (λ t. same_has before (y ∷ ys) (x ∷ xs) t other run) (range_with_len 1 threads) in
      let turn : slice_get (unfinished threads (x ∷ xs)) (digit_at schedule (length before) % length (unfinished threads (x ∷ xs))) ≡ Some y.thread =
      subst (λ (ws : List ℕ). slice_get ws (digit_at schedule (length before) % length ws) ≡ Some y.thread) waiting (other.turns before y ys refl) in
      let same : Some x.thread ≡ Some y.thread = sym (run.turns before x xs refl) ∙ turn in
      let thread : x.thread ≡ y.thread = cc in
      let event : x.event ≡ y.event =
      one x.thread (own before x.thread) x.event y.event (run.followed before x xs refl)
      (subst (λ (t : ℕ). follows t (own before t) y.event) (sym thread) (other.followed before y ys refl)) in
      let reply = one_reply_each files before x.event x.reply y.reply (run.legal before x xs refl)
      (subst (λ (e : Event). IsReply files before e y.reply) (sym event) (other.legal before y ys refl)) in
      same_entry x y thread event reply

  same_from : (before xs ys : List Entry) → IsRunOf own follows is_whole files threads schedule (before ++ xs) → IsRunOf own follows is_whole files threads schedule (before ++ ys) →
      xs ≡ ys
  same_from before [] [] run other = refl
  same_from before [] (y ∷ ys) run other = absurd (not_ended before ys y other run)
  same_from before (x ∷ xs) [] run other = absurd (not_ended before xs x run other)
  same_from before (x ∷ xs) (y ∷ ys) run other =
      let first = same_first before xs ys x y run other in
      let rest = same_from (before ++ x ∷ []) xs ys
      (subst (IsRunOf own follows is_whole files threads schedule) (sym (append_assoc before (x ∷ []) xs)) run)
      (subst (λ (e : Entry). IsRunOf own follows is_whole files threads schedule ((before ++ e ∷ []) ++ ys)) (sym first)
      (subst (IsRunOf own follows is_whole files threads schedule) (sym (append_assoc before (y ∷ []) ys)) other)) in
      ap (λ e. e ∷ xs) first ∙ ap (λ es. y ∷ es) rest

  -- Where the event after what a thread has is determined, and none follows a whole run, there is one journal.
  pub one_journal_each : (journal other : List Entry) → IsRunOf own follows is_whole files threads schedule journal → IsRunOf own follows is_whole files threads schedule other →
      journal ≡ other
  one_journal_each journal other run run' = same_from [] journal other run run'

-- so for the steps of threads
pub one_journal_of_steps : (code_of : List Entry → Entry → Option CodeOf) (follows : ℕ → List Step → Event → Type 0) (is_whole : ℕ → List Step → Type 0)
    (one : (t : ℕ) (steps : List Step) (first second : Event) → follows t steps first → follows t steps second → first ≡ second)
    (last : (t : ℕ) (steps : List Step) (event : Event) → is_whole t steps → follows t steps event → ⊥)
    (files : Files) (threads : ℕ) (schedule : List ℕ) (journal other : List Entry) →
    IsRunOf (own_steps code_of) follows is_whole files threads schedule journal →
    IsRunOf (own_steps code_of) follows is_whole files threads schedule other → journal ≡ other
one_journal_of_steps code_of follows is_whole one last files threads schedule journal other =
    one_journal_each (own_steps code_of) (own_steps-none code_of) follows is_whole one last files threads schedule journal other

of_entries : (follows : ℕ → List (Event × Reply) → Event → Type 0) (is_whole : ℕ → List (Event × Reply) → Type 0)
    (files : Files) (threads : ℕ) (schedule : List ℕ) (journal : List Entry) →
    IsRunBy follows is_whole files threads schedule journal → IsRunOf own_entries follows is_whole files threads schedule journal
of_entries follows is_whole files threads schedule journal run = record {
  legal = run.legal;
  turns = run.turns;
  of_threads = run.of_threads;
  followed = run.followed;
  whole = run.whole;
}

-- and for their entries
pub has_one_journal : HasOneJournal
has_one_journal next files threads schedule journal other run run' =
    one_journal_each own_entries own_entries-none follows is_whole
    (λ t own first second p q. let e : Some first ≡ Some second = sym p ∙ q in cc)
    (λ t own event none some. let e : None ≡ Some event = sym none ∙ some in cc)
    files threads schedule journal other
    (of_entries follows is_whole files threads schedule journal run) (of_entries follows is_whole files threads schedule other run')
  where
    follows : ℕ → List (Event × Reply) → Event → Type 0
    follows t own event = next t own ≡ Some event

    is_whole : ℕ → List (Event × Reply) → Type 0
    is_whole t own = next t own ≡ None
