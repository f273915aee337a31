-- Operations that are open.
use Rattle.std.proofs.Common.{◌≡◌, ℕ, Bool, true, false, not, ◌||◌, cond, eqb, List, [], ◌∷◌, ◌++◌, None, map, refl, sym, ap, subst, ◌∙◌, inl, inr, append_assoc}
use Rattle.std.specs.List.{cons_option, filter, filter_map, list_all, list_any}
use Rattle.std.proofs.lemmas.Bool.{and_parts, or_cases, or_left, or_right}
use Rattle.host_events.specs.declared.event.Event.{Event}
use Rattle.host_events.specs.declared.reply.Reply.{Reply}
use Rattle.host_events.specs.declared.journal.Entry.{Entry}
use Rattle.host_events.specs.Files.{Files}
use Rattle.host_events.specs.Journal.{HasNoOpen, IsLegal, own_entries}
use Rattle.host_events.specs.Laws.{OwnEntriesTellOpen}
use Rattle.host_events.specs.Operations.{begun_operation, ends, is_command}
use Rattle.host_events.specs.Reply.{IsReply}
use Rattle.host_events.proofs.Quiet.{command-quiet}

-- what passes one test passes another, so where nothing passes the other, nothing passes the one
filter-none : {X : Type 0} (p q : X → Bool) (xs : List X) → ((x : X) → q x ≡ true → p x ≡ true) →
    filter p xs ≡ [] → filter q xs ≡ []
filter-none p q [] within none = refl
filter-none p q (x ∷ xs) within none = at (p x) (q x) (within x) (filter-none p q xs within) none
  where
    at : (b c : Bool) → (c ≡ true → b ≡ true) → (filter p xs ≡ [] → filter q xs ≡ []) →
        cond b (x ∷ filter p xs) (filter p xs) ≡ [] → cond c (x ∷ filter q xs) (filter q xs) ≡ []
    at true c passes later h = cc
    at false true passes later h = cc (passes refl)
    at false false passes later h = later h

-- what a thread began stands in its own entries
pub begun_own : (journal : List Entry) (thread : ℕ) →
    filter_map (λ step. begun_operation step.1) (own_entries journal thread)
    ≡ filter_map (λ entry. cond (eqb entry.thread thread) (begun_operation entry.reply) None) journal
begun_own [] thread = refl
begun_own (e ∷ es) thread = at (eqb e.thread thread) (begun_own es thread)
  where
    own : Entry → Event × Reply
    own x = (x.event, x.reply)

    mine : List Entry
    mine = filter (λ x. eqb x.thread thread) es

    theirs : List ℕ
    theirs = filter_map (λ x. cond (eqb x.thread thread) (begun_operation x.reply) None) es

    at : (b : Bool) → filter_map (λ step. begun_operation step.1) (map own mine) ≡ theirs →
        filter_map (λ step. begun_operation step.1) (map own (cond b (e ∷ mine) mine))
        ≡ cons_option (cond b (begun_operation e.reply) None) theirs
    at true later = ap (λ ks. cons_option (begun_operation e.reply) ks) later
    at false later = later

-- what a thread ended was ended
pub ended_own : (k : ℕ) (journal : List Entry) (thread : ℕ) → list_any (λ step. ends k step.0) (own_entries journal thread) ≡ true →
    list_any (λ entry. ends k entry.event) journal ≡ true
ended_own k [] thread h = cc
ended_own k (e ∷ es) thread h = at (eqb e.thread thread) (ended_own k es thread) h
  where
    own : Entry → Event × Reply
    own x = (x.event, x.reply)

    mine : List Entry
    mine = filter (λ x. eqb x.thread thread) es

    theirs : Bool
    theirs = list_any (λ entry. ends k entry.event) es

    at : (b : Bool) → (list_any (λ step. ends k step.0) (map own mine) ≡ true → theirs ≡ true) →
        list_any (λ step. ends k step.0) (map own (cond b (e ∷ mine) mine)) ≡ true → (ends k e.event || theirs) ≡ true
    at true later ended = elim (or_cases (ends k e.event) (list_any (λ step. ends k step.0) (map own mine)) ended) [
      | inl here ↦ or_left (ends k e.event) theirs here
      | inr there ↦ or_right (ends k e.event) theirs (later there)
    ]
    at false later ended = or_right (ends k e.event) theirs (later ended)

not-true : (a b : Bool) → (b ≡ true → a ≡ true) → not a ≡ true → not b ≡ true
not-true true b h none = cc
not-true false true h none = cc (h refl)
not-true false false h none = refl

pub own_entries_tell_open_each : OwnEntriesTellOpen
own_entries_tell_open_each journal thread none =
    subst (λ (ks : List ℕ). filter (λ k. not (list_any (λ entry. ends k entry.event) journal)) ks ≡ []) (begun_own journal thread)
    (filter-none (λ k. not (list_any (λ step. ends k step.0) (own_entries journal thread)))
    (λ k. not (list_any (λ entry. ends k entry.event) journal))
    (filter_map (λ step. begun_operation step.1) (own_entries journal thread))
    (λ k. not-true (list_any (λ entry. ends k entry.event) journal) (list_any (λ step. ends k step.0) (own_entries journal thread)) (ended_own k journal thread))
    none)

-- what is a command by itself begins no operation
pub begun-command : (files : Files) (journal : List Entry) (event : Event) (reply : Reply) →
    is_command event ≡ true → IsReply files journal event reply → begun_operation reply ≡ None
begun-command files journal event reply command is = (command-quiet files journal event reply command is).begun

-- what a thread began by commands alone: nothing
begun-commands : (files : Files) (before after : List Entry) (thread : ℕ) → IsLegal files (before ++ after) →
    list_all (λ step. is_command step.0) (own_entries after thread) ≡ true →
    filter_map (λ step. begun_operation step.1) (own_entries after thread) ≡ []
begun-commands files before [] thread legal commands = refl
begun-commands files before (e ∷ es) thread legal commands =
    let here : IsReply files before e.event e.reply = legal before e es refl in
    let later : IsLegal files ((before ++ e ∷ []) ++ es) = subst (IsLegal files) (sym (append_assoc before (e ∷ []) es)) legal in
    at (eqb e.thread thread) (begun-commands files (before ++ e ∷ []) es thread later) (λ command. begun-command files before e.event e.reply command here) commands
  where
    own : Entry → Event × Reply
    own x = (x.event, x.reply)

    mine : List Entry
    mine = filter (λ x. eqb x.thread thread) es

    at : (b : Bool) →
        (list_all (λ step. is_command step.0) (map own mine) ≡ true → filter_map (λ step. begun_operation step.1) (map own mine) ≡ []) →
        (is_command e.event ≡ true → begun_operation e.reply ≡ None) →
        list_all (λ step. is_command step.0) (map own (cond b (e ∷ mine) mine)) ≡ true →
        filter_map (λ step. begun_operation step.1) (map own (cond b (e ∷ mine) mine)) ≡ []
    at true later first all =
        let parts = and_parts (is_command e.event) (list_all (λ step. is_command step.0) (map own mine)) all in
        ap (λ o. cons_option o (filter_map (λ step. begun_operation step.1) (map own mine))) (first parts.0) ∙ later parts.1
    at false later first all = later all

-- a thread that has asked for commands alone is within no operation
pub no_open-commands : (files : Files) (journal : List Entry) (thread : ℕ) → IsLegal files journal →
    list_all (λ step. is_command step.0) (own_entries journal thread) ≡ true → HasNoOpen journal thread
no_open-commands files journal thread legal commands =
    own_entries_tell_open_each journal thread
    (ap (filter (λ k. not (list_any (λ step. ends k step.0) (own_entries journal thread)))) (begun-commands files [] journal thread legal commands))
