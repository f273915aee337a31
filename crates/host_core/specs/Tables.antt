-- What the host's tables hold: each is what the journal says (own).
use Rattle.std.specs.Prelude.{ℕ, ◌≡◌, ◌+◌, ◌≤◌, ◌||◌, not, List, ◌∷◌, length, map, Option, Some, None, if◌then◌else◌, IsTrue}
use Rattle.std.specs.List.{filter, filter_map}
use Rattle.bind_cache.specs.declared.bindings.Binding.{Binding}
use Rattle.load_context.specs.Contexts.{default_context}
use Rattle.load_context.specs.declared.contexts.Context.{Context}
use Rattle.probing.specs.declared.rules.Rule.{Rule}
use Rattle.probing.specs.declared.rules.RulePlace.{RulePlace}
use Rattle.probing.specs.declared.rules.RulePlace.TheVariants as places
use Rattle.host_events.specs.declared.event.ContextKind.{ContextKind}
use Rattle.host_events.specs.declared.event.Event.{Event}
use Rattle.host_events.specs.declared.event.Event.TheVariants as events
use Rattle.host_events.specs.declared.event.RuleAt.{RuleAt}
use Rattle.host_events.specs.declared.event.RuleAt.TheVariants as ats
use Rattle.host_events.specs.declared.journal.Entry.{Entry}
use Rattle.host_events.specs.declared.order.CodeOf.{CodeOf}
use Rattle.host_events.specs.Assemblies.{bound_assembly, code_published}
use Rattle.host_events.specs.Bindings.{assembly_published}
use Rattle.host_events.specs.Contexts.{is_collectible_kind, is_freed, is_live, is_unloaded, made_context, made_count, new_of}
use Rattle.host_events.specs.Operations.{begun_count}
use Rattle.host_events.specs.Rules.{set_context}
use Rattle.host_core.specs.declared.bounds.Bounds.{Bounds}
use Rattle.host_core.specs.declared.tables.Loaded.{Loaded}
use Rattle.host_core.specs.declared.tables.Tables.{Tables}
use Rattle.host_core.specs.Allowed.{sets_rule}

-- the context is there, or it was not freed
abbrev pub IsNotGone : List Entry → ℕ → Type 0
IsNotGone journal c = IsTrue (is_live journal c || not (is_freed journal c))

-- a context that was made, as it is after the journal
abbrev pub context_now : List Entry → ℕ → List ℕ × ContextKind → Context
context_now journal c new = record {
  number = c;
  row = record { name = new.0; collectible = is_collectible_kind new.1; unloaded = is_unloaded journal c };
}

-- the context that an entry made, if it is there after the journal
abbrev pub context_made : List Entry → Option (List ℕ × ContextKind) → Option ℕ → Option Context
context_made journal None made = None
context_made journal (Some new) None = None
context_made journal (Some new) (Some c) = if is_live journal c then Some (context_now journal c new) else None

-- the contexts that are there: `default`, and those that were made and not freed
abbrev pub contexts_of : List Entry → List Context
contexts_of journal =
    default_context ∷ filter_map (λ entry. context_made journal (new_of entry.event) (made_context entry.reply)) journal

-- the place of a rule, with the number of the context in which it is set
abbrev pub place_in : RuleAt → ℕ → RulePlace
place_in (ats.On name) c = places.Load c
place_in (ats.Resolving name) c = places.Resolving c
place_in ats.Resolve c = places.Resolve

-- the rule that an event set in a context
abbrev pub rule_in : ℕ → Event → Option Rule
rule_in c (events.Rule place name answer) = Some (record { place = place_in place c; name = name; answer = answer })
rule_in c _ = None

abbrev pub rule_set : Event → Option ℕ → Option Rule
rule_set event None = None
rule_set event (Some c) = rule_in c event

-- the rules that were set
abbrev pub rules_of : List Entry → List Rule
rules_of journal = filter_map (λ entry. rule_set entry.event (set_context entry.reply)) journal

-- the name to which an event bound an assembly, and the context in which it did
abbrev pub binding_to : ℕ → Event → Option Binding
binding_to a (events.Publish context name candidate) = Some (record { context = context; name = name; assembly = a })
binding_to a _ = None

abbrev pub binding_made : Event → Option ℕ → Option Binding
binding_made event None = None
binding_made event (Some a) = binding_to a event

-- the bindings that were published
abbrev pub bindings_of : List Entry → List Binding
bindings_of journal = filter_map (λ entry. binding_made entry.event (assembly_published entry.reply)) journal

abbrev pub code_made : Event → Option ℕ → Option CodeOf
code_made event None = None
code_made event (Some a) = code_published event

-- where the codes of the assemblies come from, from assembly 1 on
abbrev pub codes_of : List Entry → List CodeOf
codes_of journal = filter_map (λ entry. code_made entry.event (bound_assembly entry.reply)) journal

-- where a code that the host has comes from
abbrev pub loaded_of : {C : Type 0} → (C → ℕ) → Loaded C → CodeOf
loaded_of image loaded = record { image = image loaded.code; context = loaded.context }

-- the tables hold what the journal says
pub record Represents {C : Type 0} (image : C → ℕ) (tables : Tables C) (journal : List Entry) : Type 0 where
  pub contexts : tables.contexts.list ≡ contexts_of journal
  pub rules : tables.rules.list ≡ rules_of journal
  pub bindings : tables.bindings.list ≡ bindings_of journal
  pub codes : map (loaded_of image) tables.codes.items ≡ codes_of journal
  pub made : tables.made ≡ made_count journal
  pub begun : tables.begun ≡ begun_count journal

-- how many rules were set
abbrev pub set_count : List Entry → ℕ
set_count journal = length (filter (λ entry. sets_rule entry.reply) journal)

-- the tables have room for all that the bounds still allow
pub record HaveRoom {C : Type 0} (bounds : Bounds) (tables : Tables C) (journal : List Entry) (capacity : ℕ) : Type 0 where
  pub contexts : bounds.contexts ≤ tables.contexts.spare + (made_count journal + 1)
  pub rules : bounds.rules ≤ tables.rules.spare + set_count journal
  pub bindings : bounds.events ≤ tables.bindings.spare + length journal
  pub codes : bounds.events ≤ capacity
