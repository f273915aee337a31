-- How the tables follow one more entry: each gains at its end what the entry adds.
use Rattle.std.proofs.Common.{◌≡◌, List, [], ◌∷◌, ◌++◌, Option, refl, ap, ◌∙◌}
use Rattle.std.specs.List.{cons_option, filter_map}
use Rattle.std.proofs.lemmas.List.Elements.{filter_map-append}
use Rattle.host_events.specs.declared.journal.Entry.{Entry}
use Rattle.host_events.specs.Assemblies.{bound_assembly}
use Rattle.host_events.specs.Bindings.{assembly_published}
use Rattle.host_events.specs.Rules.{set_context}
use Rattle.host_core.specs.Tables.{binding_made, bindings_of, code_made, codes_of, rule_set, rules_of}

picked-push : {X Y : Type 0} (f : X → Option Y) (xs : List X) (x : X) (o : Option Y) → f x ≡ o → filter_map f (xs ++ x ∷ []) ≡ filter_map f xs ++ cons_option o []
picked-push f xs x o is = filter_map-append f xs (x ∷ []) ∙ ap (λ t. filter_map f xs ++ cons_option t []) is

pub rules_of-push : (journal : List Entry) (entry : Entry) → rules_of (journal ++ entry ∷ []) ≡ rules_of journal ++ cons_option (rule_set entry.event (set_context entry.reply)) []
rules_of-push journal entry = picked-push (λ (e : Entry). rule_set e.event (set_context e.reply)) journal entry (rule_set entry.event (set_context entry.reply)) refl

pub bindings_of-push : (journal : List Entry) (entry : Entry) →
    bindings_of (journal ++ entry ∷ []) ≡ bindings_of journal ++ cons_option (binding_made entry.event (assembly_published entry.reply)) []
bindings_of-push journal entry =
    picked-push (λ (e : Entry). binding_made e.event (assembly_published e.reply)) journal entry (binding_made entry.event (assembly_published entry.reply)) refl

pub codes_of-push : (journal : List Entry) (entry : Entry) →
    codes_of (journal ++ entry ∷ []) ≡ codes_of journal ++ cons_option (code_made entry.event (bound_assembly entry.reply)) []
codes_of-push journal entry =
    picked-push (λ (e : Entry). code_made e.event (bound_assembly e.reply)) journal entry (code_made entry.event (bound_assembly entry.reply)) refl
