-- How the contexts that are there change when one entry comes.
use Rattle.std.proofs.Common.{◌≡◌, ◌≢◌, ℕ, ◌+◌, ◌<◌, ◌≤◌, Bool, true, false, not, ◌&&◌, ◌||◌, cond, eqb, List, [], ◌∷◌, ◌++◌, map, Option, Some, None, refl, sym, ap, subst, ◌∙◌, append_assoc, append-nil, true≢false, arith}
use Rattle.std.specs.Prelude.{Contains}
use Rattle.std.specs.List.{AllByRecursion, cons_option, filter, filter_map, list_any}
use Rattle.std.specs.Option.{is_some}
use Rattle.std.proofs.lemmas.Bool.{eqb-true}
use Rattle.std.proofs.lemmas.Bool.Decides.{nat_tests}
use Rattle.std.proofs.lemmas.List.Elements.{Contains-append_right, filter_map-append}
use Rattle.load_context.specs.declared.contexts.Context.{Context}
use Rattle.load_context.specs.Contexts.{Contexts, added, default_context, unloaded, unloaded_if}
use Rattle.host_events.specs.declared.event.ContextKind.{ContextKind}
use Rattle.host_events.specs.declared.event.Event.{Event}
use Rattle.host_events.specs.declared.event.Event.TheVariants as events
use Rattle.host_events.specs.declared.journal.Entry.{Entry}
use Rattle.host_events.specs.declared.reply.Reply.{Reply}
use Rattle.host_events.specs.declared.reply.Reply.TheVariants as replies
use Rattle.host_events.specs.Contexts.{freed_contexts, is_collectible, is_collectible_kind, is_freed, is_live, is_made, is_number, is_unloaded, made_context, made_count, makes, named, new_of, unloading_context, unloads}
use Rattle.host_events.specs.Files.{Files}
use Rattle.host_events.specs.Journal.{IsLegal}
use Rattle.host_events.specs.Reachable.HasCause.{loaded}
use Rattle.host_events.specs.Reachable.IsPath.{here}
use Rattle.host_events.specs.Reply.{IsReply, ListsUnkept, reply_to_unload}
use Rattle.host_events.specs.Reserved.{sealed}
use Rattle.host_events.proofs.Cases.{new-each, unload-each}
use Rattle.host_events.proofs.Numbering.{is_number-true}
use Rattle.host_events.proofs.Numbers.{is_number-some, list_any-parts, number_of_live, number_of_made}
use Rattle.host_events.proofs.Parts.{any_parts}
use Rattle.host_events.proofs.Push.{IsLegal-prefix, is_live-push, is_unloaded-push}
use Rattle.host_core.specs.Allowed.{makes_context_by}
use Rattle.host_core.specs.After.{contexts_after, without}
use Rattle.host_core.specs.Tables.{context_made, context_now, contexts_of}
use Rattle.host_core.proofs.Freed.{freed_none}
use Rattle.host_core.proofs.Once.{made_count-front, or_false}
use Rattle.host_core.proofs.Seen.{made_collectible, not_unloaded_by, zero_stays}
use Rattle.host_core.proofs.Taken.{eqb-swap}
use Rattle.host_core.proofs.Used.{contexts-count}

-- the contexts that the entries made, as they are after a journal
abbrev pub rows_in : List Entry → List Entry → List Context
rows_in journal entries = filter_map (λ entry. context_made journal (new_of entry.event) (made_context entry.reply)) entries

rows-push : (journal : List Entry) (entry : Entry) (o : Option Context) →
    context_made (journal ++ entry ∷ []) (new_of entry.event) (made_context entry.reply) ≡ o →
    contexts_of (journal ++ entry ∷ []) ≡ default_context ∷ (rows_in (journal ++ entry ∷ []) journal ++ cons_option o [])
rows-push journal entry o is =
    ap (λ l. default_context ∷ l)
    (filter_map-append (λ (e : Entry). context_made (journal ++ entry ∷ []) (new_of e.event) (made_context e.reply)) journal (entry ∷ [])
    ∙ ap (λ t. rows_in (journal ++ entry ∷ []) journal ++ cons_option t []) is)

abbrev then : (Context → Option Context) → Option Context → Option Context
then k None = None
then k (Some x) = k x

then_cond : (k : Context → Option Context) (b : Bool) (x : Context) → cond b (k x) None ≡ then k (cond b (Some x) None)
then_cond k true x = refl
then_cond k false x = refl

then_first : (k : Context → Option Context) (o : Option Context) (xs : List Context) → cons_option (then k o) (filter_map k xs) ≡ filter_map k (cons_option o xs)
then_first k None xs = refl
then_first k (Some x) xs = refl

-- what is there of a context after a journal is turned into what is there of it after a later one
abbrev Turns : (Context → Option Context) → List Entry → List Entry → ℕ → Type 0
Turns k journal later c =
    (new : List ℕ × ContextKind) → cond (is_live later c) (Some (context_now later c new)) None ≡ cond (is_live journal c) (k (context_now journal c new)) None

made_to : (k : Context → Option Context) (journal later : List Entry) (new : Option (List ℕ × ContextKind)) (made : Option ℕ) →
    ((c : ℕ) → made ≡ Some c → Turns k journal later c) → context_made later new made ≡ then k (context_made journal new made)
made_to k journal later None made each = refl
made_to k journal later (Some n) None each = refl
made_to k journal later (Some n) (Some c) each = each c refl n ∙ then_cond k (is_live journal c) (context_now journal c n)

-- the entry makes nothing that the journal did not make
abbrev pub MakesOf : List Entry → Entry → Type 0
MakesOf journal entry = (c : ℕ) → made_context entry.reply ≡ Some c → is_made journal c ≡ true

rows_to : (k : Context → Option Context) (journal later entries : List Entry) → ((c : ℕ) → is_made journal c ≡ true → Turns k journal later c) →
    AllByRecursion (MakesOf journal) entries → rows_in later entries ≡ filter_map k (rows_in journal entries)
rows_to k journal later [] turns made = refl
rows_to k journal later (e ∷ es) turns made =
    ap (λ o. cons_option o (rows_in later es)) (made_to k journal later (new_of e.event) (made_context e.reply) (λ c is. turns c (made.0 c is)))
    ∙ ap (cons_option (then k (context_made journal (new_of e.event) (made_context e.reply)))) (rows_to k journal later es turns made.1)
    ∙ then_first k (context_made journal (new_of e.event) (made_context e.reply)) (rows_in journal es)

all_parts : {X : Type 0} (P : X → Type 0) (before xs : List X) → ((b : List X) (x : X) (a : List X) → before ++ xs ≡ b ++ x ∷ a → P x) → AllByRecursion P xs
all_parts P before [] each = tt
all_parts P before (x ∷ xs) each =
    (each before x xs refl, all_parts P (before ++ x ∷ []) xs (λ b y a is. each b y a (sym (append_assoc before (x ∷ []) xs) ∙ is)))

pub all_made : (journal : List Entry) → AllByRecursion (MakesOf journal) journal
all_made journal =
    all_parts (MakesOf journal) [] journal
    (λ b x a is c makes_it.
    any_parts (λ e. makes c e.reply) journal (record { before = b; here = x; after = a; parted = is; holds = is_number-true c (made_context x.reply) makes_it }))

-- a context that was made, as it is given up or not
abbrev context_with : ℕ → List ℕ × ContextKind → Bool → Context
context_with c new unloaded = record { number = c; row = record { name = new.0; collectible = is_collectible_kind new.1; unloaded = unloaded } }

turns_same : (journal later : List Entry) (c : ℕ) → is_live later c ≡ is_live journal c → is_unloaded later c ≡ is_unloaded journal c → Turns Some journal later c
turns_same journal later c live given_up new =
    ap (λ b. cond b (Some (context_now later c new)) None) live
    ∙ ap (λ u. cond (is_live journal c) (Some (context_with c new u)) None) given_up

unloaded_or : (c : ℕ) (new : List ℕ × ContextKind) (u b : Bool) → context_with c new (u || b) ≡ cond b (context_with c new true) (context_with c new u)
unloaded_or c new true true = refl
unloaded_or c new true false = refl
unloaded_or c new false true = refl
unloaded_or c new false false = refl

turns_unloaded : (journal later : List Entry) (given c : ℕ) → is_live later c ≡ is_live journal c → is_unloaded later c ≡ (is_unloaded journal c || eqb given c) →
    Turns (λ x. Some (unloaded_if given x)) journal later c
turns_unloaded journal later given c live given_up new =
    ap (λ b. cond b (Some (context_now later c new)) None) live
    ∙ ap (λ u. cond (is_live journal c) (Some (context_with c new u)) None) (given_up ∙ ap (λ b. is_unloaded journal c || b) (eqb-swap given c))
    ∙ ap (λ x. cond (is_live journal c) (Some x) None) (unloaded_or c new (is_unloaded journal c) (eqb c given))

cond_and : (a b : Bool) (o : Option Context) → cond (a && b) o None ≡ cond a (cond b o None) None
cond_and true b o = refl
cond_and false b o = refl

turns_freed : (journal later : List Entry) (numbers : List ℕ) (c : ℕ) → is_live later c ≡ (is_live journal c && not (list_any (λ d. eqb d c) numbers)) →
    is_unloaded later c ≡ is_unloaded journal c →
    Turns (λ x. cond (not (list_any (λ d. eqb d x.number) numbers)) (Some x) None) journal later c
turns_freed journal later numbers c live given_up new =
    ap (λ b. cond b (Some (context_now later c new)) None) live
    ∙ ap (λ u. cond (is_live journal c && not (list_any (λ d. eqb d c) numbers)) (Some (context_with c new u)) None) given_up
    ∙ cond_and (is_live journal c) (not (list_any (λ d. eqb d c) numbers)) (Some (context_now journal c new))

all_kept : (xs : List Context) → filter_map Some xs ≡ xs
all_kept [] = refl
all_kept (x ∷ xs) = ap (λ l. x ∷ l) (all_kept xs)

mapped : (f : Context → Context) (xs : List Context) → filter_map (λ x. Some (f x)) xs ≡ map f xs
mapped f [] = refl
mapped f (x ∷ xs) = ap (λ l. f x ∷ l) (mapped f xs)

filtered : (p : Context → Bool) (xs : List Context) → filter_map (λ x. cond (p x) (Some x) None) xs ≡ filter p xs
filtered p [] = refl
filtered p (x ∷ xs) = at (p x) ∙ ap (λ l. cond (p x) (x ∷ l) l) (filtered p xs)
  where
    at : (b : Bool) → cons_option (cond b (Some x) None) (filter_map (λ y. cond (p y) (Some y) None) xs)
        ≡ cond b (x ∷ filter_map (λ y. cond (p y) (Some y) None) xs) (filter_map (λ y. cond (p y) (Some y) None) xs)
    at true = refl
    at false = refl

-- a context that an entry neither makes nor frees is there after it where it was before
live_same : (journal : List Entry) (entry : Entry) (c : ℕ) → makes c entry.reply ≡ false → freed_contexts entry.reply ≡ [] →
    is_live (journal ++ entry ∷ []) c ≡ is_live journal c
live_same journal entry c none kept =
    is_live-push journal entry c
    ∙ ap (λ b. eqb c 0 || ((is_made journal c || b) && not (is_freed journal c || list_any (λ d. eqb d c) (freed_contexts entry.reply)))) none
    ∙ ap (λ l. eqb c 0 || ((is_made journal c || false) && not (is_freed journal c || list_any (λ d. eqb d c) l))) kept
    ∙ ap (λ b. eqb c 0 || (b && not (is_freed journal c || false))) (or_false (is_made journal c))
    ∙ ap (λ b. eqb c 0 || (is_made journal c && not b)) (or_false (is_freed journal c))

unloaded_same : (journal : List Entry) (entry : Entry) (c : ℕ) → unloads c entry.event entry.reply ≡ false →
    is_unloaded (journal ++ entry ∷ []) c ≡ is_unloaded journal c
unloaded_same journal entry c none =
    is_unloaded-push journal entry c ∙ ap (λ b. is_unloaded journal c || b) none ∙ or_false (is_unloaded journal c)

made_nothing : (journal : List Entry) (event : Event) → (o : Option ℕ) → o ≡ None → (new : Option (List ℕ × ContextKind)) → context_made journal new o ≡ None
made_nothing journal event None none None = refl
made_nothing journal event None none (Some new) = refl
made_nothing journal event (Some c) none new = cc

-- an entry that makes, gives up and frees nothing leaves all contexts as they are
pub contexts_of-same : (journal : List Entry) (entry : Entry) → made_context entry.reply ≡ None → freed_contexts entry.reply ≡ [] →
    ((c : ℕ) → unloads c entry.event entry.reply ≡ false) → contexts_of journal ≡ contexts_of (journal ++ entry ∷ [])
contexts_of-same journal entry none kept stays =
    let later : List Entry = journal ++ entry ∷ [] in
    let rows = rows_to Some journal (journal ++ entry ∷ []) journal
    (λ c made. turns_same journal (journal ++ entry ∷ []) c (live_same journal entry c (ap (is_number c) none) kept) (unloaded_same journal entry c (stays c)))
    (all_made journal) in
    sym (
    rows-push journal entry None (made_nothing (journal ++ entry ∷ []) entry.event (made_context entry.reply) none (new_of entry.event))
    ∙ ap (λ l. default_context ∷ l) (append-nil (rows_in (journal ++ entry ∷ []) journal) ∙ rows ∙ all_kept (rows_in journal journal))
    )

contains_any : (c : ℕ) (xs : List ℕ) → list_any (λ d. eqb d c) xs ≡ true → Contains xs c
contains_any c xs any =
    let parts = list_any-parts (λ d. eqb d c) xs any in
    let same : parts.1 ≡ c = eqb-true parts.1 c parts.4 in
    subst (λ l. Contains l c) (sym parts.3) (Contains-append_right parts.0 (parts.1 ∷ parts.2) c (0, omega arith, same))

-- what a reply says was freed was there
freed_live : (files : Files) (journal : List Entry) (event : Event) (reply : Reply) → IsReply files journal event reply → (c : ℕ) →
    list_any (λ d. eqb d c) (freed_contexts reply) ≡ true → is_live journal c ≡ true
freed_live files journal events.Collect reply is c freed =
    let listed : list_any (λ d. eqb d c) is.0 ≡ true = ap (λ r. list_any (λ d. eqb d c) (freed_contexts r)) (sym is.2) ∙ freed in
    ((is.1.each c).0 (contains_any c is.0 listed)).0
freed_live files journal event reply is c freed =
    absurd (true≢false (sym freed ∙ ap (list_any (λ d. eqb d c)) (freed_none files journal event reply is refl)))

-- no number beyond those that were made was freed
not_freed : (files : Files) (journal : List Entry) (c : ℕ) → IsLegal files journal → made_count journal < c → is_freed journal c ≡ false
not_freed files journal c legal past = at (is_freed journal c) refl
  where
    at : (b : Bool) → is_freed journal c ≡ b → b ≡ false
    at false is = refl
    at true is =
        let parts = list_any-parts (λ (e : Entry). list_any (λ d. eqb d c) (freed_contexts e.reply)) journal is in
        let before : List Entry = parts.0 in
        let live = freed_live files parts.0 parts.1.event parts.1.reply (legal parts.0 parts.1 parts.2 parts.3) c parts.4 in
        let few : c ≤ made_count parts.0 =
        number_of_live files parts.0 c (IsLegal-prefix files parts.0 (parts.1 ∷ parts.2) (subst (IsLegal files) parts.3 legal)) live in
        let fewer : made_count parts.0 ≤ made_count journal =
        subst (λ (j : List Entry). made_count parts.0 ≤ made_count j) (sym parts.3) (made_count-front parts.0 (parts.1 ∷ parts.2)) in
        absurd (omega (arith, few, fewer, past))

collectible_by : (journal : List Entry) (o : Option ℕ) (reply : Reply) (c : ℕ) → reply ≡ reply_to_unload journal o → unloading_context reply ≡ Some c →
    is_collectible journal c ≡ true
collectible_by journal None reply c is unloading = cc
collectible_by journal (Some d) reply c is unloading = at (is_collectible journal d) (is_unloaded journal d) refl (ap unloading_context (sym is) ∙ unloading)
  where
    at : (collectible unloaded : Bool) → is_collectible journal d ≡ collectible →
        unloading_context (cond (not collectible) (replies.Fixed d) (cond unloaded (replies.Already d) (replies.Unloading d))) ≡ Some c → is_collectible journal c ≡ true
    at false unloaded is none = cc
    at true true is none = cc
    at true false is some = let same : d ≡ c = cc in subst (λ (k : ℕ). is_collectible journal k ≡ true) same is

-- what is given up was made as a collectible context
given_up_collectible : (files : Files) (journal : List Entry) (event : Event) (reply : Reply) (c : ℕ) → IsReply files journal event reply →
    unloads c event reply ≡ true → is_collectible journal c ≡ true
given_up_collectible files journal (events.Unload name) reply c is unloading =
    collectible_by journal (named journal name) reply c is (is_number-some c (unloading_context reply) unloading)
given_up_collectible files journal event reply c is unloading = absurd (true≢false (sym unloading))

-- no number beyond those that were made was given up
not_given_up : (files : Files) (journal : List Entry) (c : ℕ) → IsLegal files journal → made_count journal < c → is_unloaded journal c ≡ false
not_given_up files journal c legal past = at (is_unloaded journal c) refl
  where
    at : (b : Bool) → is_unloaded journal c ≡ b → b ≡ false
    at false is = refl
    at true is =
        let parts = list_any-parts (λ (e : Entry). unloads c e.event e.reply) journal is in
        let collectible = given_up_collectible files parts.0 parts.1.event parts.1.reply c (legal parts.0 parts.1 parts.2 parts.3) parts.4 in
        let numbers = number_of_made files parts.0 c (IsLegal-prefix files parts.0 (parts.1 ∷ parts.2) (subst (IsLegal files) parts.3 legal))
        (made_collectible c parts.0 collectible) in
        let fewer : made_count parts.0 ≤ made_count journal =
        subst (λ (j : List Entry). made_count parts.0 ≤ made_count j) (sym parts.3) (made_count-front parts.0 (parts.1 ∷ parts.2)) in
        absurd (omega (arith, numbers.1, fewer, past))

or_all : (z m : Bool) → (z || ((m || true) && true)) ≡ true
or_all true m = refl
or_all false true = refl
or_all false false = refl

made_live : (z m s f : Bool) → s ≡ true → f ≡ false → (z || ((m || s) && not (f || false))) ≡ true
made_live z m s f is none =
    ap (λ t. z || ((m || t) && not (f || false))) is ∙ ap (λ t. z || ((m || true) && not (t || false))) none ∙ or_all z m

contexts_of-made : (files : Files) (journal : List Entry) (thread : ℕ) (name : List ℕ) (kind : ContextKind) (c : ℕ) → IsLegal files journal → c ≡ made_count journal + 1 →
    contexts_of journal ++ added c name (is_collectible_kind kind) ∷ []
    ≡ contexts_of (journal ++ record { thread = thread; event = events.New name kind; reply = replies.Made c } ∷ [])
contexts_of-made files journal thread name kind c legal number = sym (rows-push journal entry (Some (added c name (is_collectible_kind kind))) here ∙ ap (λ l. default_context ∷ (l ++ added c name (is_collectible_kind kind) ∷ [])) (rows ∙ all_kept (rows_in journal journal)))
  where
    entry : Entry
    entry = record { thread = thread; event = events.New name kind; reply = replies.Made c }

    past : made_count journal < c
    past = omega (arith, number)

    other : (d : ℕ) → is_made journal d ≡ true → eqb c d ≡ false
    other d made = let few : d ≤ made_count journal = (number_of_made files journal d legal made).1 in let below : d < c = omega (arith, few, past) in grind (arith, nat_tests)

    rows : rows_in (journal ++ entry ∷ []) journal ≡ filter_map Some (rows_in journal journal)
    rows = rows_to Some journal (journal ++ entry ∷ []) journal
        (λ d made. turns_same journal (journal ++ entry ∷ []) d (live_same journal entry d (other d made) refl) (unloaded_same journal entry d refl))
        (all_made journal)

    live : is_live (journal ++ entry ∷ []) c ≡ true
    live = is_live-push journal entry c ∙ made_live (eqb c 0) (is_made journal c) (eqb c c) (is_freed journal c) (is_number-true c (Some c) refl) (not_freed files journal c legal past)

    stays : is_unloaded (journal ++ entry ∷ []) c ≡ false
    stays = unloaded_same journal entry c refl ∙ not_given_up files journal c legal past

    here : context_made (journal ++ entry ∷ []) (new_of entry.event) (made_context entry.reply) ≡ Some (added c name (is_collectible_kind kind))
    here =
        ap (λ b. cond b (Some (context_now (journal ++ entry ∷ []) c (name, kind))) None) live
        ∙ ap (λ u. Some (context_with c (name, kind) u)) stays

contexts_of-unloaded : (journal : List Entry) (thread : ℕ) (name : List ℕ) (given : ℕ) → given ≢ 0 →
    unloaded given (contexts_of journal) ≡ contexts_of (journal ++ record { thread = thread; event = events.Unload name; reply = replies.Unloading given } ∷ [])
contexts_of-unloaded journal thread name given other =
    sym (
    rows-push journal entry None refl
    ∙ ap (λ l. default_context ∷ l) (append-nil (rows_in (journal ++ entry ∷ []) journal) ∙ rows ∙ mapped (unloaded_if given) (rows_in journal journal))
    ∙ ap (λ x. x ∷ map (unloaded_if given) (rows_in journal journal)) (sym default)
    )
  where
    entry : Entry
    entry = record { thread = thread; event = events.Unload name; reply = replies.Unloading given }

    rows : rows_in (journal ++ entry ∷ []) journal ≡ filter_map (λ x. Some (unloaded_if given x)) (rows_in journal journal)
    rows = rows_to (λ x. Some (unloaded_if given x)) journal (journal ++ entry ∷ []) journal
        (λ d made. turns_unloaded journal (journal ++ entry ∷ []) given d (live_same journal entry d refl refl) (is_unloaded-push journal entry d))
        (all_made journal)

    apart : eqb 0 given ≡ false
    apart = grind (arith, nat_tests)

    default : unloaded_if given default_context ≡ default_context
    default = ap (λ b. cond b (record default_context { row = record default_context.row { unloaded = true } }) default_context) apart

live_freed : (m f a : Bool) → (false || ((m || false) && not (f || a))) ≡ ((false || (m && not f)) && not a)
live_freed true true a = refl
live_freed true false a = refl
live_freed false f a = refl

contexts_of-freed : (files : Files) (journal : List Entry) (thread : ℕ) (numbers : List ℕ) → IsLegal files journal → list_any (λ d. eqb d 0) numbers ≡ false →
    without numbers (contexts_of journal) ≡ contexts_of (journal ++ record { thread = thread; event = events.Collect; reply = replies.Freed (sealed numbers) } ∷ [])
contexts_of-freed files journal thread numbers legal default =
    ap (λ b. cond (not b) (default_context ∷ without numbers (rows_in journal journal)) (without numbers (rows_in journal journal))) default
    ∙ sym (
    rows-push journal entry None refl
    ∙ ap (λ l. default_context ∷ l)
    (append-nil (rows_in (journal ++ entry ∷ []) journal) ∙ rows ∙ filtered (λ x. not (list_any (λ d. eqb d x.number) numbers)) (rows_in journal journal))
    )
  where
    entry : Entry
    entry = record { thread = thread; event = events.Collect; reply = replies.Freed (sealed numbers) }

    apart : (d : ℕ) → is_made journal d ≡ true → eqb d 0 ≡ false
    apart d made = let some : 0 < d = (number_of_made files journal d legal made).0 in grind (arith, nat_tests)

    live : (d : ℕ) → is_made journal d ≡ true → is_live (journal ++ entry ∷ []) d ≡ (is_live journal d && not (list_any (λ x. eqb x d) numbers))
    live d made =
        is_live-push journal entry d
        ∙ ap (λ z. z || ((is_made journal d || false) && not (is_freed journal d || list_any (λ x. eqb x d) numbers))) (apart d made)
        ∙ live_freed (is_made journal d) (is_freed journal d) (list_any (λ x. eqb x d) numbers)
        ∙ ap (λ z. (z || (is_made journal d && not (is_freed journal d))) && not (list_any (λ x. eqb x d) numbers)) (sym (apart d made))

    rows : rows_in (journal ++ entry ∷ []) journal ≡ filter_map (λ x. cond (not (list_any (λ d. eqb d x.number) numbers)) (Some x) None) (rows_in journal journal)
    rows = rows_to (λ x. cond (not (list_any (λ d. eqb d x.number) numbers)) (Some x) None) journal (journal ++ entry ∷ []) journal
        (λ d made. turns_freed journal (journal ++ entry ∷ []) numbers d (live d made) (unloaded_same journal entry d refl))
        (all_made journal)

-- a collection does not free context 0
pub zero_kept : (files : Files) (journal : List Entry) (numbers : List ℕ) → IsLegal files journal → ListsUnkept journal numbers → Contains numbers 0 → ⊥
zero_kept files journal numbers legal lists has =
    ((lists.each 0).0 has).1 (0, record { live = refl; cause = loaded (λ gone. true≢false (sym gone ∙ zero_stays files journal legal)) }, here)

zero_not_freed : (files : Files) (journal : List Entry) (numbers : List ℕ) → IsLegal files journal → ListsUnkept journal numbers →
    list_any (λ d. eqb d 0) numbers ≡ false
zero_not_freed files journal numbers legal lists = at (list_any (λ d. eqb d 0) numbers) refl
  where
    at : (b : Bool) → list_any (λ d. eqb d 0) numbers ≡ b → b ≡ false
    at false is = refl
    at true is = absurd (zero_kept files journal numbers legal lists (contains_any 0 numbers is))

-- only a `New` makes a context
pub made_none : (files : Files) (journal : List Entry) (event : Event) (reply : Reply) → IsReply files journal event reply → makes_context_by event ≡ false →
    made_context reply ≡ None
made_none files journal event reply is other = at (made_context reply) refl
  where
    at : (o : Option ℕ) → made_context reply ≡ o → o ≡ None
    at None none = refl
    at (Some c) made = absurd (true≢false (sym (contexts-count files journal event reply is (ap is_some made)) ∙ other))

-- the contexts after one more event with its reply
pub contexts_of-push : (files : Files) (journal : List Entry) (thread : ℕ) (event : Event) (reply : Reply) (t : Contexts) → IsLegal files journal →
    IsReply files journal event reply → t.list ≡ contexts_of journal →
    (contexts_after event reply t).list ≡ contexts_of (journal ++ record { thread = thread; event = event; reply = reply } ∷ [])
contexts_of-push files journal thread (events.New name kind) reply t legal is same =
    subst (λ r. (contexts_after (events.New name kind) r t).list ≡ contexts_of (journal ++ record { thread = thread; event = events.New name kind; reply = r } ∷ [])) (sym is)
    (new-each (λ r. (contexts_after (events.New name kind) r t).list ≡ contexts_of (journal ++ record { thread = thread; event = events.New name kind; reply = r } ∷ []))
    journal (named journal name)
    (ap (λ l. l ++ added (made_count journal + 1) name (is_collectible_kind kind) ∷ []) same ∙ contexts_of-made files journal thread name kind (made_count journal + 1) legal refl)
    (λ c. same ∙ contexts_of-same journal (record { thread = thread; event = events.New name kind; reply = replies.Exists c }) refl refl (λ d. refl)))
contexts_of-push files journal thread (events.Unload name) reply t legal is same =
    subst (λ r. (contexts_after (events.Unload name) r t).list ≡ contexts_of (journal ++ record { thread = thread; event = events.Unload name; reply = r } ∷ [])) (sym is)
    (unload-each (λ r. (unloading_context r ≡ Some 0 → ⊥) → (contexts_after (events.Unload name) r t).list ≡ contexts_of (journal ++ record { thread = thread; event = events.Unload name; reply = r } ∷ []))
    journal (named journal name)
    (λ other. same ∙ contexts_of-same journal (record { thread = thread; event = events.Unload name; reply = replies.NoContext }) refl refl (λ d. refl))
    (λ c other. same ∙ contexts_of-same journal (record { thread = thread; event = events.Unload name; reply = replies.Fixed c }) refl refl (λ d. refl))
    (λ c other. same ∙ contexts_of-same journal (record { thread = thread; event = events.Unload name; reply = replies.Already c }) refl refl (λ d. refl))
    (λ c other. ap (unloaded c) same ∙ contexts_of-unloaded journal thread name c (λ zero_is. other (ap Some zero_is)))
    (λ zero_is. not_unloaded_by files journal (named journal name) (reply_to_unload journal (named journal name)) legal refl zero_is))
contexts_of-push files journal thread events.Collect reply t legal is same =
    subst (λ r. (contexts_after events.Collect r t).list ≡ contexts_of (journal ++ record { thread = thread; event = events.Collect; reply = r } ∷ [])) (sym is.2)
    (ap (without is.0) same ∙ contexts_of-freed files journal thread is.0 legal (zero_not_freed files journal is.0 legal is.1))
contexts_of-push files journal thread event reply t legal is same =
    same ∙ contexts_of-same journal (record { thread = thread; event = event; reply = reply }) (made_none files journal event reply is refl)
    (freed_none files journal event reply is refl) (λ d. refl)
