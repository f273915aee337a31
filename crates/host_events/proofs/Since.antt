-- The replies of an operation since it began, and what they told, after one more entry.
use Rattle.std.proofs.Common.{◌≡◌, ℕ, Bool, true, false, ◌||◌, cond, eqb, List, [], ◌∷◌, ◌++◌, map, Option, Some, None, refl, sym, ap, ◌∙◌, append_assoc, append-nil, arith}
use Rattle.std.proofs.ByRecursion as all
use Rattle.std.specs.List.{AllByRecursion, cons_option, filter, filter_map, flat_map, list_any}
use Rattle.std.specs.Option.{option_and_then, option_to_list}
use Rattle.std.proofs.lemmas.Bool.{eq-eqb, or_parts}
use Rattle.std.proofs.lemmas.Grind.{flat_map-append}
use Rattle.std.proofs.lemmas.List.{map-append}
use Rattle.std.proofs.lemmas.List.Elements.{filter-append}
use Rattle.host_events.specs.declared.event.Event.{Event}
use Rattle.host_events.specs.declared.reply.Reply.{Reply}
use Rattle.host_events.specs.declared.reply.Reply.TheVariants as replies
use Rattle.host_events.specs.declared.journal.Entry.{Entry}
use Rattle.host_events.specs.Assemblies.{assembly_in, context_of}
use Rattle.host_events.specs.Contexts.{is_number}
use Rattle.host_events.specs.Files.{Files}
use Rattle.host_events.specs.Journal.{IsLegal, IsProper, own_entries}
use Rattle.host_events.specs.Laws.{OwnEntriesTellReplies}
use Rattle.host_events.specs.Operations.{IsWithin, begun_operation, contexts_in, contexts_told, replies_from, replies_since, replies_to, told_assemblies, told_contexts}
use Rattle.host_events.proofs.Bound.{IsKnown, context_of-stays}
use Rattle.host_events.proofs.Named.{NamesOf, named_known, replies_since_all}
use Rattle.host_events.proofs.Numbering.{is_number-true, none_before, none_beyond}
use Rattle.host_events.proofs.Parts.{PartsAt, filter_map-push, filter_map-same, flat_map-same}
use Rattle.host_events.proofs.Push.{IsLegal-prefix}
use Rattle.host_events.proofs.Within.{begun_by, begun_by-parts, number-begun, numbered, within_began}

-- the replies of an operation are that of the entry that began it, and those to its thread from there on
replies_since-parts : (k : ℕ) (before : List Entry) (e : Entry) (after : List Entry) →
    list_any (λ x. is_number k (begun_operation x.reply)) before ≡ false → begun_operation e.reply ≡ Some k →
    replies_since k (before ++ e ∷ after) ≡ e.reply ∷ replies_to e.thread after
replies_since-parts k [] e after none begun =
    ap (λ b. cond b (e.reply ∷ replies_to e.thread after) (replies_since k after)) (is_number-true k (begun_operation e.reply) begun)
replies_since-parts k (b ∷ before) e after none begun =
    let parts = or_parts (is_number k (begun_operation b.reply)) (list_any (λ x. is_number k (begun_operation x.reply)) before) none in
    ap (λ c. cond c (b.reply ∷ replies_to b.thread (before ++ e ∷ after)) (replies_since k (before ++ e ∷ after))) parts.0
    ∙ replies_since-parts k before e after parts.1 begun

own_replies : (entries : List Entry) → map (λ (step : Event × Reply). step.1) (map (λ (x : Entry). (x.event, x.reply)) entries) ≡ map (λ x. x.reply) entries
own_replies [] = refl
own_replies (e ∷ entries) = ap (λ rs. e.reply ∷ rs) (own_replies entries)

-- the same of the thread's own entries
replies_from-parts : (k : ℕ) (before : List Entry) (e : Entry) (after : List Entry) (thread : ℕ) → eqb e.thread thread ≡ true →
    list_any (λ x. is_number k (begun_operation x.reply)) before ≡ false → begun_operation e.reply ≡ Some k →
    replies_from k (own_entries (before ++ e ∷ after) thread) ≡ e.reply ∷ replies_to thread after
replies_from-parts k [] e after thread own none begun =
    ap (λ b. replies_from k (map (λ (x : Entry). (x.event, x.reply)) (cond b (e ∷ filter (λ x. eqb x.thread thread) after) (filter (λ x. eqb x.thread thread) after)))) own
    ∙ ap (λ b. cond b (e.reply ∷ map (λ (step : Event × Reply). step.1) (own_entries after thread)) (replies_from k (own_entries after thread))) (is_number-true k (begun_operation e.reply) begun)
    ∙ ap (λ rs. e.reply ∷ rs) (own_replies (filter (λ x. eqb x.thread thread) after))
replies_from-parts k (b ∷ before) e after thread own none begun =
    at (eqb b.thread thread) (replies_from-parts k before e after thread own parts.1 begun)
  where
    parts : (is_number k (begun_operation b.reply) ≡ false) × (list_any (λ x. is_number k (begun_operation x.reply)) before ≡ false)
    parts = or_parts (is_number k (begun_operation b.reply)) (list_any (λ x. is_number k (begun_operation x.reply)) before) none

    pair : Entry → Event × Reply
    pair x = (x.event, x.reply)

    mine : List Entry
    mine = filter (λ x. eqb x.thread thread) (before ++ e ∷ after)

    at : (c : Bool) → replies_from k (map pair mine) ≡ e.reply ∷ replies_to thread after →
        replies_from k (map pair (cond c (b ∷ mine) mine)) ≡ e.reply ∷ replies_to thread after
    at true later =
        ap (λ d. cond d (b.reply ∷ map (λ (step : Event × Reply). step.1) (map pair mine)) (replies_from k (map pair mine))) parts.0 ∙ later
    at false later = later

-- where the operation began within which a thread is
began_first : (files : Files) (journal : List Entry) (thread k : ℕ) → IsLegal files journal → (p : PartsAt (λ e. begun_by thread e ≡ Some k) journal) →
    list_any (λ x. is_number k (begun_operation x.reply)) p.before ≡ false
unfolding numbered
began_first files journal thread k legal p = none_before files begun_operation (number-begun files) journal k legal (numbered journal thread k p)

-- The replies of a thread's open operation are those to its own entries since it began.
pub own_entries_tell_replies_each : OwnEntriesTellReplies
own_entries_tell_replies_each files journal thread k proper within =
    let p = within_began journal thread k within in
    let begun = begun_by-parts thread p.here k p.holds in
    let none = began_first files journal thread k proper.legal p in
    ap (replies_since k) p.parted
    ∙ replies_since-parts k p.before p.here p.after none begun.1
    ∙ ap (λ t. p.here.reply ∷ replies_to t p.after) begun.0
    ∙ sym (replies_from-parts k p.before p.here p.after thread (eq-eqb p.here.thread thread begun.0) none begun.1)
    ∙ ap (λ j. replies_from k (own_entries j thread)) (sym p.parted)

-- an operation that own events began has the replies to all that come after
pub replies_from-append : (k : ℕ) (trace more : List (Event × Reply)) → list_any (λ s. is_number k (begun_operation s.1)) trace ≡ true →
    replies_from k (trace ++ more) ≡ replies_from k trace ++ map (λ s. s.1) more
replies_from-append k [] more begun = cc
replies_from-append k (step ∷ trace) more begun = at (is_number k (begun_operation step.1)) (replies_from-append k trace more) begun
  where
    replies_of : List (Event × Reply) → List Reply
    replies_of steps = map (λ (s : Event × Reply). s.1) steps

    at : (b : Bool) →
        (list_any (λ (s : Event × Reply). is_number k (begun_operation s.1)) trace ≡ true → replies_from k (trace ++ more) ≡ replies_from k trace ++ replies_of more) →
        (b || list_any (λ (s : Event × Reply). is_number k (begun_operation s.1)) trace) ≡ true →
        cond b (replies_of (step ∷ (trace ++ more))) (replies_from k (trace ++ more)) ≡ cond b (replies_of (step ∷ trace)) (replies_from k trace) ++ replies_of more
    at true later h = ap (λ rs. step.1 ∷ rs) (map-append (λ (s : Event × Reply). s.1) trace more)
    at false later h = later h

replies-cond : (e : Entry) (b : Bool) → map (λ (x : Entry). x.reply) (cond b (e ∷ []) []) ≡ cond b (e.reply ∷ []) []
replies-cond e true = refl
replies-cond e false = refl

replies_to-push : (thread : ℕ) (journal : List Entry) (e : Entry) →
    replies_to thread (journal ++ e ∷ []) ≡ replies_to thread journal ++ cond (eqb e.thread thread) (e.reply ∷ []) []
replies_to-push thread journal e =
    ap (map (λ x. x.reply)) (filter-append (λ x. eqb x.thread thread) journal (e ∷ []))
    ∙ map-append (λ x. x.reply) (filter (λ x. eqb x.thread thread) journal) (filter (λ x. eqb x.thread thread) (e ∷ []))
    ∙ ap (λ rs. replies_to thread journal ++ rs) (replies-cond e (eqb e.thread thread))

-- an operation that just began has one reply
pub replies_since-begun : (files : Files) (journal : List Entry) (entry : Entry) (k : ℕ) → IsLegal files (journal ++ entry ∷ []) →
    begun_operation entry.reply ≡ Some k → replies_since k (journal ++ entry ∷ []) ≡ entry.reply ∷ []
replies_since-begun files journal entry k legal begun =
    let number = number-begun files journal entry.event entry.reply k (legal journal entry [] refl) begun in
    replies_since-parts k journal entry []
    (none_beyond files begun_operation (number-begun files) journal k (IsLegal-prefix files journal (entry ∷ []) legal) (omega arith)) begun

-- the replies of the operation within which a thread is grow by those to the thread
pub replies_since-push : (files : Files) (journal : List Entry) (entry : Entry) (thread k : ℕ) → IsLegal files journal → IsWithin journal thread k →
    replies_since k (journal ++ entry ∷ []) ≡ replies_since k journal ++ cond (eqb entry.thread thread) (entry.reply ∷ []) []
replies_since-push files journal entry thread k legal within =
    let p = within_began journal thread k within in
    let begun = begun_by-parts thread p.here k p.holds in
    let none = began_first files journal thread k legal p in
    ap (λ j. replies_since k (j ++ entry ∷ [])) p.parted
    ∙ ap (replies_since k) (append_assoc p.before (p.here ∷ p.after) (entry ∷ []))
    ∙ replies_since-parts k p.before p.here (p.after ++ entry ∷ []) none begun.1
    ∙ ap (λ rs. p.here.reply ∷ rs) (replies_to-push p.here.thread p.after entry)
    ∙ ap (λ t. (p.here.reply ∷ replies_to p.here.thread p.after) ++ cond (eqb entry.thread t) (entry.reply ∷ []) []) begun.0
    ∙ ap (λ rs. rs ++ cond (eqb entry.thread thread) (entry.reply ∷ []) [])
    (sym (replies_since-parts k p.before p.here p.after none begun.1) ∙ ap (replies_since k) (sym p.parted))

pub replies_since-own : (files : Files) (journal : List Entry) (entry : Entry) (k : ℕ) → IsLegal files journal → IsWithin journal entry.thread k →
    replies_since k (journal ++ entry ∷ []) ≡ replies_since k journal ++ entry.reply ∷ []
replies_since-own files journal entry k legal within =
    replies_since-push files journal entry entry.thread k legal within
    ∙ ap (λ b. replies_since k journal ++ cond b (entry.reply ∷ []) []) (eq-eqb entry.thread entry.thread refl)

pub replies_since-other : (files : Files) (journal : List Entry) (entry : Entry) (thread k : ℕ) → IsLegal files journal → IsWithin journal thread k →
    eqb entry.thread thread ≡ false → replies_since k (journal ++ entry ∷ []) ≡ replies_since k journal
replies_since-other files journal entry thread k legal within other =
    replies_since-push files journal entry thread k legal within
    ∙ ap (λ b. replies_since k journal ++ cond b (entry.reply ∷ []) []) other
    ∙ append-nil (replies_since k journal)

-- what a reply tells stays, once the assembly is known that it names
told-stays : (journal later : List Entry) (reply : Reply) → NamesOf (IsKnown journal) reply →
    contexts_told (journal ++ later) reply ≡ contexts_told journal reply
told-stays journal later reply known = at (assembly_in reply) refl
  where
    at : (o : Option ℕ) → assembly_in reply ≡ o →
        contexts_in reply ++ option_to_list (option_and_then (context_of (journal ++ later)) o) ≡ contexts_in reply ++ option_to_list (option_and_then (context_of journal) o)
    at None is = refl
    at (Some a) is = ap (λ c. contexts_in reply ++ option_to_list c) (context_of-stays journal later a (known a is))

-- the replies of an operation name known assemblies
since_known : (files : Files) (journal : List Entry) (k : ℕ) → IsProper files journal → AllByRecursion (NamesOf (IsKnown journal)) (replies_since k journal)
since_known files journal k proper = replies_since_all (NamesOf (IsKnown journal)) k journal (named_known files journal proper)

-- what replies told is the same after more entries
told_before : (files : Files) (journal later : List Entry) (k : ℕ) → IsProper files journal →
    flat_map (contexts_told (journal ++ later)) (replies_since k journal) ≡ flat_map (contexts_told journal) (replies_since k journal)
told_before files journal later k proper =
    flat_map-same (contexts_told (journal ++ later)) (contexts_told journal) (replies_since k journal)
    (all.All-weaker (NamesOf (IsKnown journal)) (λ r. contexts_told (journal ++ later) r ≡ contexts_told journal r)
    (told-stays journal later) (replies_since k journal) (since_known files journal k proper))

-- what an operation was told of, once it began
pub told_contexts-begun : (files : Files) (journal : List Entry) (entry : Entry) (k : ℕ) → IsLegal files (journal ++ entry ∷ []) →
    begun_operation entry.reply ≡ Some k → told_contexts (journal ++ entry ∷ []) k ≡ 0 ∷ contexts_told (journal ++ entry ∷ []) entry.reply
told_contexts-begun files journal entry k legal begun =
    ap (λ rs. 0 ∷ flat_map (contexts_told (journal ++ entry ∷ [])) rs) (replies_since-begun files journal entry k legal begun)
    ∙ ap (λ cs. 0 ∷ cs) (append-nil (contexts_told (journal ++ entry ∷ []) entry.reply))

pub told_assemblies-begun : (files : Files) (journal : List Entry) (entry : Entry) (k : ℕ) → IsLegal files (journal ++ entry ∷ []) →
    begun_operation entry.reply ≡ Some k → told_assemblies (journal ++ entry ∷ []) k ≡ 0 ∷ cons_option (assembly_in entry.reply) []
told_assemblies-begun files journal entry k legal begun =
    ap (λ rs. 0 ∷ filter_map assembly_in rs) (replies_since-begun files journal entry k legal begun)

-- one more entry of its thread
pub told_contexts-own : (files : Files) (journal : List Entry) (entry : Entry) (k : ℕ) → IsProper files journal → IsWithin journal entry.thread k →
    told_contexts (journal ++ entry ∷ []) k ≡ told_contexts journal k ++ contexts_told (journal ++ entry ∷ []) entry.reply
told_contexts-own files journal entry k proper within =
    ap (λ rs. 0 ∷ flat_map (contexts_told (journal ++ entry ∷ [])) rs) (replies_since-own files journal entry k proper.legal within)
    ∙ ap (λ cs. 0 ∷ cs) (flat_map-append (contexts_told (journal ++ entry ∷ [])) (replies_since k journal) (entry.reply ∷ []))
    ∙ ap (λ cs. 0 ∷ (flat_map (contexts_told (journal ++ entry ∷ [])) (replies_since k journal) ++ cs)) (append-nil (contexts_told (journal ++ entry ∷ []) entry.reply))
    ∙ ap (λ cs. 0 ∷ (cs ++ contexts_told (journal ++ entry ∷ []) entry.reply)) (told_before files journal (entry ∷ []) k proper)

pub told_assemblies-own : (files : Files) (journal : List Entry) (entry : Entry) (k : ℕ) → IsLegal files journal → IsWithin journal entry.thread k →
    told_assemblies (journal ++ entry ∷ []) k ≡ told_assemblies journal k ++ cons_option (assembly_in entry.reply) []
told_assemblies-own files journal entry k legal within =
    ap (λ rs. 0 ∷ filter_map assembly_in rs) (replies_since-own files journal entry k legal within)
    ∙ ap (λ assemblies. 0 ∷ assemblies) (filter_map-push assembly_in (replies_since k journal) entry.reply)

-- one more entry of another thread
pub told_contexts-other : (files : Files) (journal : List Entry) (entry : Entry) (thread k : ℕ) → IsProper files journal → IsWithin journal thread k →
    eqb entry.thread thread ≡ false → told_contexts (journal ++ entry ∷ []) k ≡ told_contexts journal k
told_contexts-other files journal entry thread k proper within other =
    ap (λ rs. 0 ∷ flat_map (contexts_told (journal ++ entry ∷ [])) rs) (replies_since-other files journal entry thread k proper.legal within other)
    ∙ ap (λ cs. 0 ∷ cs) (told_before files journal (entry ∷ []) k proper)

pub told_assemblies-other : (files : Files) (journal : List Entry) (entry : Entry) (thread k : ℕ) → IsLegal files journal → IsWithin journal thread k →
    eqb entry.thread thread ≡ false → told_assemblies (journal ++ entry ∷ []) k ≡ told_assemblies journal k
told_assemblies-other files journal entry thread k legal within other =
    ap (λ rs. 0 ∷ filter_map assembly_in rs) (replies_since-other files journal entry thread k legal within other)

-- what an operation was told of follows from its thread's own entries
pub told_contexts-from_own : (files : Files) (journal : List Entry) (thread k : ℕ) → IsProper files journal → IsWithin journal thread k →
    told_contexts journal k ≡ 0 ∷ flat_map (contexts_told journal) (replies_from k (own_entries journal thread))
told_contexts-from_own files journal thread k proper within =
    ap (λ rs. 0 ∷ flat_map (contexts_told journal) rs) (own_entries_tell_replies_each files journal thread k proper within)

pub told_assemblies-from_own : (files : Files) (journal : List Entry) (thread k : ℕ) → IsProper files journal → IsWithin journal thread k →
    told_assemblies journal k ≡ 0 ∷ filter_map assembly_in (replies_from k (own_entries journal thread))
told_assemblies-from_own files journal thread k proper within =
    ap (λ rs. 0 ∷ filter_map assembly_in rs) (own_entries_tell_replies_each files journal thread k proper within)
