-- The tables after one more event with its reply (own).
use Rattle.std.specs.Prelude.{ℕ, ◌≡◌, ◌≢◌, ◌+◌, ◌-◌, ◌<◌, ◌≤◌, ◌^◌, ◌==◌, not, List, [], ◌∷◌, ◌++◌, length, Option, Some, None, if◌then◌else◌, is_some, IsSome, IfSome, Contains}
use Rattle.std.specs.List.{AllByRecursion, cons_option, filter, list_any}
use Rattle.std.specs.List.Sorted.{IsStrictlyIncreasing}
use Rattle.std.specs.Option.{option_map, option_map_or}
use Rattle.std.specs.Vec.{vec_capacity}
use Rattle.bind_cache.specs.Bindings.{Bindings, published}
use Rattle.load_context.specs.Contexts.{Contexts, added, row_of, unloaded}
use Rattle.load_context.specs.declared.contexts.Context.{Context}
use Rattle.probing.specs.Rules.{Rules}
use Rattle.host_events.specs.declared.event.ContextKind.{ContextKind}
use Rattle.host_events.specs.declared.event.Event.{Event}
use Rattle.host_events.specs.declared.event.Event.TheVariants as events
use Rattle.host_events.specs.declared.event.RuleAnswer.{RuleAnswer}
use Rattle.host_events.specs.declared.event.RuleAt.{RuleAt}
use Rattle.host_events.specs.declared.reply.Reply.{Reply}
use Rattle.host_events.specs.Assemblies.{bound_assembly}
use Rattle.host_events.specs.Bindings.{assembly_published}
use Rattle.host_events.specs.Contexts.{freed_contexts, is_collectible_kind, made_context, unloading_context}
use Rattle.host_events.specs.Operations.{begun_operation}
use Rattle.host_events.specs.Rules.{set_context}
use Rattle.host_core.specs.declared.tables.Loaded.{Loaded}
use Rattle.host_core.specs.declared.tables.Tables.{Tables}
use Rattle.host_core.specs.Tables.{place_in}

-- the contexts without those of these numbers
abbrev pub without : List ℕ → List Context → List Context
without numbers contexts = filter (λ context. not (list_any (λ d. d == context.number) numbers)) contexts

-- the contexts with one more
abbrev pub with_context : Contexts → List ℕ → ContextKind → ℕ → Contexts
with_context contexts name kind c = record {
  list = contexts.list ++ added c name (is_collectible_kind kind) ∷ [];
  spare = contexts.spare - 1;
}

-- the contexts with one of them unloaded
abbrev pub with_unloaded : Contexts → ℕ → Contexts
with_unloaded contexts c = record contexts { list = unloaded c contexts.list }

-- the contexts without those that are freed, whose room is spare again
abbrev pub with_freed : Contexts → List ℕ → Contexts
with_freed contexts numbers =
    record { list = without numbers contexts.list; spare = contexts.spare + length numbers }

-- the rules with one more
abbrev pub with_rule : Rules → RuleAt → List ℕ → RuleAnswer → ℕ → Rules
with_rule rules place name answer c = record {
  list = rules.list ++ record { place = place_in place c; name = name; answer = answer } ∷ [];
  spare = rules.spare - 1;
}

-- the code that is brought of an assembly that is made in a context
abbrev pub loaded_in : {C : Type 0} → ℕ → Option C → Option ℕ → Option (Loaded C)
loaded_in context code None = None
loaded_in context code (Some a) = option_map (λ brought. record { code = brought; context = context }) code

abbrev pub contexts_after : Event → Reply → Contexts → Contexts
contexts_after (events.New name kind) reply contexts =
    option_map_or (with_context contexts name kind) (made_context reply) contexts
contexts_after (events.Unload name) reply contexts =
    option_map_or (with_unloaded contexts) (unloading_context reply) contexts
contexts_after events.Collect reply contexts = with_freed contexts (freed_contexts reply)
contexts_after _ reply contexts = contexts

abbrev pub rules_after : Event → Reply → Rules → Rules
rules_after (events.Rule place name answer) reply rules =
    option_map_or (with_rule rules place name answer) (set_context reply) rules
rules_after _ reply rules = rules

abbrev pub bindings_after : Event → Reply → Bindings → Bindings
bindings_after (events.Publish context name candidate) reply bindings =
    option_map_or (published bindings context name) (assembly_published reply) bindings
bindings_after _ reply bindings = bindings

abbrev pub loaded_after : {C : Type 0} → Event → Option C → Reply → Option (Loaded C)
loaded_after (events.Publish context name candidate) code reply = loaded_in context code (bound_assembly reply)
loaded_after _ code reply = None

abbrev pub made_after : Event → Reply → ℕ → ℕ
made_after (events.New name kind) reply made = if is_some (made_context reply) then made + 1 else made
made_after _ reply made = made

abbrev pub begun_after : Event → Reply → ℕ → ℕ
begun_after (events.Enter name) reply begun = if is_some (begun_operation reply) then begun + 1 else begun
begun_after _ reply begun = begun

-- the new tables hold what the old ones did and what the event with its reply changes
pub record HaveFollowed {C : Type 0} (old new : Tables C) (event : Event) (code : Option C) (reply : Reply) : Type 0 where
  pub contexts : new.contexts ≡ contexts_after event reply old.contexts
  pub rules : new.rules ≡ rules_after event reply old.rules
  pub bindings : new.bindings ≡ bindings_after event reply old.bindings
  pub codes : new.codes.items ≡ old.codes.items ++ cons_option (loaded_after event code reply) []
  pub capacity : vec_capacity old.codes ≤ vec_capacity new.codes
  pub made : new.made ≡ made_after event reply old.made
  pub begun : new.begun ≡ begun_after event reply old.begun

-- there is room for a context of this number, which is greater than all that are there
pub record CanAdd {C : Type 0} (tables : Tables C) (c : ℕ) : Type 0 where
  pub room : 0 < tables.contexts.spare
  pub greater : AllByRecursion (λ other. other.number < c) tables.contexts.list
  pub made : tables.made + 1 < 2 ^ 32

-- the context is there, and is not `default`
pub record IsOther (contexts : List Context) (c : ℕ) : Type 0 where
  pub there : IsSome (row_of contexts c)
  pub other : c ≢ 0

-- the contexts are there, in rising order, without `default`
pub record AreOthers (contexts : List Context) (numbers : List ℕ) : Type 0 where
  pub rising : IsStrictlyIncreasing numbers
  pub each : (c : ℕ) → Contains numbers c → IsOther contexts c

-- the code was brought, and there is room for it
pub record CanLoad {C : Type 0} (tables : Tables C) (code : Option C) : Type 0 where
  pub brought : IsSome code
  pub room : length tables.codes.items < vec_capacity tables.codes

-- the tables can follow the event with its reply
abbrev pub CanFollow : {C : Type 0} → Tables C → Event → Option C → Reply → Type 0
CanFollow tables (events.New name kind) code reply = IfSome (made_context reply) (CanAdd tables)
CanFollow tables (events.Rule place name answer) code reply =
    IfSome (set_context reply) (λ c. 0 < tables.rules.spare)
CanFollow tables (events.Enter name) code reply = tables.begun + 1 < 2 ^ 32
CanFollow tables (events.Publish context name candidate) code reply =
    IfSome (assembly_published reply) (λ a. 0 < tables.bindings.spare)
    × IfSome (bound_assembly reply) (λ a. CanLoad tables code)
CanFollow tables (events.Unload name) code reply =
    IfSome (unloading_context reply) (IsOther tables.contexts.list)
CanFollow tables events.Collect code reply = AreOthers tables.contexts.list (freed_contexts reply)
CanFollow tables _ code reply = Unit {0}
