-- How what names are bound to, and which rules there are, changes when one entry comes.
use Rattle.std.proofs.Common.{◌≡◌, ℕ, ◌⊎◌, inl, inr, Bool, true, false, cond, List, [], ◌∷◌, ◌++◌, Some, None, ap, ◌∙◌, append-nil}
use Rattle.std.specs.List.{cons_option, filter_map, slice_get}
use Rattle.std.proofs.lemmas.List.Elements.{filter_map-append}
use Rattle.host_events.specs.declared.event.AskStep.{AskStep}
use Rattle.host_events.specs.declared.journal.Entry.{Entry}
use Rattle.host_events.specs.Bindings.{binding, binds_by, is_platform_name}
use Rattle.host_events.specs.Rules.{rule_by, rules_for}
use Rattle.host_events.proofs.Parts.{PartsAt, filter_map-push, first-append, first-none, first_of_option, parts_first_given}

-- a name that is bound stays bound
pub binding-stays : (journal later : List Entry) (c : ℕ) (n : List ℕ) (a : ℕ) → binding journal c n ≡ Some a →
    binding (journal ++ later) c n ≡ Some a
binding-stays journal later c n a h = at (is_platform_name n) h
  where
    at : (b : Bool) → cond b (Some 0) (slice_get (filter_map (λ entry. binds_by c n entry.event entry.reply) journal) 0) ≡ Some a →
        cond b (Some 0) (slice_get (filter_map (λ entry. binds_by c n entry.event entry.reply) (journal ++ later)) 0) ≡ Some a
    at true is = is
    at false is =
        ap (λ bound. slice_get bound 0) (filter_map-append (λ entry. binds_by c n entry.event entry.reply) journal later)
        ∙ first-append (filter_map (λ entry. binds_by c n entry.event entry.reply) journal)
        (filter_map (λ entry. binds_by c n entry.event entry.reply) later) a is

-- a name that is not bound is bound to what the entry binds it to, if it binds it
pub binding-push : (journal : List Entry) (entry : Entry) (c : ℕ) (n : List ℕ) → binding journal c n ≡ None →
    binding (journal ++ entry ∷ []) c n ≡ binds_by c n entry.event entry.reply
binding-push journal entry c n h = at (is_platform_name n) h
  where
    at : (b : Bool) → cond b (Some 0) (slice_get (filter_map (λ e. binds_by c n e.event e.reply) journal) 0) ≡ None →
        cond b (Some 0) (slice_get (filter_map (λ e. binds_by c n e.event e.reply) (journal ++ entry ∷ [])) 0) ≡ binds_by c n entry.event entry.reply
    at true none = cc none
    at false none =
        ap (λ bound. slice_get bound 0) (filter_map-push (λ e. binds_by c n e.event e.reply) journal entry)
        ∙ first-none (filter_map (λ e. binds_by c n e.event e.reply) journal) (cons_option (binds_by c n entry.event entry.reply) []) none
        ∙ first_of_option (binds_by c n entry.event entry.reply)

-- an entry that does not bind a name leaves it as it is
pub binding-other : (journal : List Entry) (entry : Entry) (c : ℕ) (n : List ℕ) → binds_by c n entry.event entry.reply ≡ None →
    binding (journal ++ entry ∷ []) c n ≡ binding journal c n
binding-other journal entry c n none =
    ap (λ bound. cond (is_platform_name n) (Some 0) (slice_get bound 0))
    (filter_map-push (λ e. binds_by c n e.event e.reply) journal entry
    ∙ ap (λ o. filter_map (λ e. binds_by c n e.event e.reply) journal ++ cons_option o []) none
    ∙ append-nil (filter_map (λ e. binds_by c n e.event e.reply) journal))

-- a name that is bound is the platform's, or an entry bound it
pub binding_parts : (journal : List Entry) (c : ℕ) (n : List ℕ) (a : ℕ) → binding journal c n ≡ Some a →
    (a ≡ 0) ⊎ PartsAt (λ entry. binds_by c n entry.event entry.reply ≡ Some a) journal
binding_parts journal c n a h = at (is_platform_name n) h
  where
    at : (b : Bool) → cond b (Some 0) (slice_get (filter_map (λ e. binds_by c n e.event e.reply) journal) 0) ≡ Some a →
        (a ≡ 0) ⊎ PartsAt (λ entry. binds_by c n entry.event entry.reply ≡ Some a) journal
    at true is = inl (cc is)
    at false is = inr (parts_first_given (λ e. binds_by c n e.event e.reply) journal a is)

-- the rule of an entry comes last
pub rules_for-push : (journal : List Entry) (entry : Entry) (step : AskStep) (c : ℕ) (n : List ℕ) →
    rules_for (journal ++ entry ∷ []) step c n ≡ rules_for journal step c n ++ cons_option (rule_by step c n entry.event entry.reply) []
rules_for-push journal entry step c n = filter_map-push (λ e. rule_by step c n e.event e.reply) journal entry
