-- Tables that followed an event with its reply hold what the journal says with the new entry.
use Rattle.std.proofs.Common.{◌≡◌, ℕ, ◌+◌, ◌≤◌, Bool, true, false, cond, List, [], ◌∷◌, ◌++◌, map, Option, Some, None, refl, sym, ap, ◌∙◌, append-nil, arith}
use Rattle.std.specs.List.{cons_option}
use Rattle.std.specs.Option.{is_some, option_map_or}
use Rattle.std.specs.Vec.{vec_capacity}
use Rattle.std.proofs.lemmas.List.{length_push, map-append}
use Rattle.bind_cache.specs.Bindings.{Bindings, bound, published, with_one}
use Rattle.load_context.specs.Contexts.{Contexts}
use Rattle.probing.specs.Rules.{Rules}
use Rattle.host_events.specs.declared.event.Candidate.{Candidate}
use Rattle.host_events.specs.declared.event.Candidate.TheVariants as candidates
use Rattle.host_events.specs.declared.event.ContextKind.{ContextKind}
use Rattle.host_events.specs.declared.event.Event.{Event}
use Rattle.host_events.specs.declared.event.Event.TheVariants as events
use Rattle.host_events.specs.declared.event.RuleAnswer.{RuleAnswer}
use Rattle.host_events.specs.declared.event.RuleAt.{RuleAt}
use Rattle.host_events.specs.declared.journal.Entry.{Entry}
use Rattle.host_events.specs.declared.order.CodeOf.{CodeOf}
use Rattle.host_events.specs.declared.reply.Reply.{Reply}
use Rattle.host_events.specs.declared.reply.Reply.TheVariants as replies
use Rattle.host_events.specs.Assemblies.{bound_assembly, code_published}
use Rattle.host_events.specs.Bindings.{assembly_published, binding, is_platform_name}
use Rattle.host_events.specs.Contexts.{made_context, unloading_context}
use Rattle.host_events.specs.Files.{Files}
use Rattle.host_events.specs.Journal.{IsLegal}
use Rattle.host_events.specs.Operations.{begun_operation}
use Rattle.host_events.specs.Reply.{IsReply, reply_to_publish}
use Rattle.host_events.specs.Rules.{set_context}
use Rattle.host_events.specs.Steps.{entry_of}
use Rattle.host_events.proofs.Push.{made_count-push}
use Rattle.host_events.proofs.Quiet.{begins}
use Rattle.host_events.proofs.Within.{begun_count-push}
use Rattle.host_core.specs.declared.bounds.Bounds.{Bounds}
use Rattle.host_core.specs.declared.tables.Tables.{Tables}
use Rattle.host_core.specs.Accepted.{Brings, BringsCode}
use Rattle.host_core.specs.After.{HaveFollowed, begun_after, bindings_after, contexts_after, loaded_after, loaded_in, made_after, rules_after, with_context, with_rule, with_unloaded}
use Rattle.host_core.specs.Allowed.{sets_rule}
use Rattle.host_core.specs.Tables.{HaveRoom, Represents, binding_made, binding_to, bindings_of, code_made, codes_of, loaded_of, rule_in, rule_set, set_count}
use Rattle.host_core.proofs.Bound.{binding-other, binding-platform}
use Rattle.host_core.proofs.Changed.{contexts_of-push, made_none}
use Rattle.host_core.proofs.Codes.{made_assembly}
use Rattle.host_core.proofs.Follow.{bindings_of-push, codes_of-push, rules_of-push}
use Rattle.host_core.proofs.Keeps.{length-filter_push}

-- an option that is empty adds nothing
adds_nothing : {X : Type 0} (xs : List X) (o : Option X) → o ≡ None → xs ≡ xs ++ cons_option o []
adds_nothing xs o none = sym (append-nil xs) ∙ ap (λ t. xs ++ cons_option t []) (sym none)

rule_none : (event : Event) (o : Option ℕ) → ((c : ℕ) → rule_in c event ≡ None) → rule_set event o ≡ None
rule_none event None none = refl
rule_none event (Some c) none = none c

rule_added : (place : RuleAt) (name : List ℕ) (answer : RuleAnswer) (t : Rules) (o : Option ℕ) →
    (option_map_or (with_rule t place name answer) o t).list ≡ t.list ++ cons_option (rule_set (events.Rule place name answer) o) []
rule_added place name answer t None = sym (append-nil t.list)
rule_added place name answer t (Some c) = refl

rules_after-list : (event : Event) (reply : Reply) (t : Rules) → (rules_after event reply t).list ≡ t.list ++ cons_option (rule_set event (set_context reply)) []
rules_after-list (events.Rule place name answer) reply t = rule_added place name answer t (set_context reply)
rules_after-list event reply t = adds_nothing t.list (rule_set event (set_context reply)) (rule_none event (set_context reply) (λ c. refl))

binding_none : (event : Event) (o : Option ℕ) → ((a : ℕ) → binding_to a event ≡ None) → binding_made event o ≡ None
binding_none event None none = refl
binding_none event (Some a) none = none a

binding_added : (context : ℕ) (name : List ℕ) (candidate : Candidate) (t : Bindings) (o : Option ℕ) → ((a : ℕ) → o ≡ Some a → bound t.list context name ≡ None) →
    (option_map_or (published t context name) o t).list ≡ t.list ++ cons_option (binding_made (events.Publish context name candidate) o) []
binding_added context name candidate t None unbound = sym (append-nil t.list)
binding_added context name candidate t (Some a) unbound = ap (λ (f : Option ℕ). (cond (is_some f) t (with_one t context name a)).list) (unbound a refl)

-- a candidate is bound only where nothing was
publish_none : (journal : List Entry) (c : ℕ) (candidate : Candidate) (o : Option ℕ) (reply : Reply) (a : ℕ) → reply ≡ reply_to_publish journal c candidate o →
    assembly_published reply ≡ Some a → o ≡ None
publish_none journal c candidate None reply a is binds = refl
publish_none journal c candidate (Some b) reply a is binds = cc

not_bound : (journal : List Entry) (c : ℕ) (n : List ℕ) → binding journal c n ≡ None → bound (bindings_of journal) c n ≡ None
not_bound journal c n none = at (is_platform_name n) refl
  where
    at : (b : Bool) → is_platform_name n ≡ b → bound (bindings_of journal) c n ≡ None
    at true is = cc (binding-platform journal c n is, none)
    at false is = binding-other journal c n is ∙ none

bindings_after-list : (files : Files) (journal : List Entry) (event : Event) (reply : Reply) (t : Bindings) → IsReply files journal event reply → t.list ≡ bindings_of journal →
    (bindings_after event reply t).list ≡ t.list ++ cons_option (binding_made event (assembly_published reply)) []
bindings_after-list files journal (events.Publish context name candidate) reply t is same =
    binding_added context name candidate t (assembly_published reply)
    (λ a binds. ap (λ l. bound l context name) same ∙ not_bound journal context name (publish_none journal context candidate (binding journal context name) reply a is binds))
bindings_after-list files journal event reply t is same =
    adds_nothing t.list (binding_made event (assembly_published reply)) (binding_none event (assembly_published reply) (λ a. refl))

code_none : (event : Event) (o : Option ℕ) → code_published event ≡ None → code_made event o ≡ None
code_none event None none = refl
code_none event (Some a) none = none

abbrev coded : ℕ → ℕ → CodeOf
coded context image = record { image = image; context = context }

code_loaded : {C : Type 0} (image : C → ℕ) (files : Files) (context : ℕ) (name : List ℕ) (candidate : Candidate) (code : Option C) (o : Option ℕ) →
    BringsCode image files candidate code → ((a : ℕ) → o ≡ Some a → (k : CodeOf) × (code_published (events.Publish context name candidate) ≡ Some k)) →
    map (loaded_of image) (cons_option (loaded_in context code o) []) ≡ cons_option (code_made (events.Publish context name candidate) o) []
code_loaded image files context name candidate code None brings made = refl
code_loaded {C} image files context name (candidates.Image i) code (Some a) brings made =
    ap (λ (k : Option C). map (loaded_of image) (cons_option (loaded_in context k (Some a)) [])) brings.2
    ∙ ap (λ (j : ℕ). coded context j ∷ []) brings.3
code_loaded image files context name (candidates.Assembly b) code (Some a) brings made = let some = made a refl in cc (some.1)

codes_after : {C : Type 0} (image : C → ℕ) (files : Files) (journal : List Entry) (event : Event) (code : Option C) (reply : Reply) → IsReply files journal event reply →
    Brings image files event code → map (loaded_of image) (cons_option (loaded_after event code reply) []) ≡ cons_option (code_made event (bound_assembly reply)) []
codes_after image files journal (events.Publish context name candidate) code reply is brings =
    code_loaded image files context name candidate code (bound_assembly reply) brings
    (λ a made. let makes = made_assembly files journal (events.Publish context name candidate) reply a is made in (makes.1, makes.2))
codes_after image files journal event code reply is brings = ap (λ (o : Option CodeOf). cons_option o []) (sym (code_none event (bound_assembly reply) refl))

one_more : (b : Bool) (n : ℕ) → cond b (n + 1) n ≡ n + cond b 1 0
one_more true n = refl
one_more false n = omega arith

none_more : (b : Bool) (n : ℕ) → b ≡ false → n ≡ n + cond b 1 0
none_more true n none = cc
none_more false n none = omega arith

made_after-is : (files : Files) (journal : List Entry) (event : Event) (reply : Reply) (n : ℕ) → IsReply files journal event reply →
    made_after event reply n ≡ n + cond (is_some (made_context reply)) 1 0
made_after-is files journal (events.New name kind) reply n is = one_more (is_some (made_context reply)) n
made_after-is files journal event reply n is =
    none_more (is_some (made_context reply)) n (ap is_some (made_none files journal event reply is refl))

begun_none : (files : Files) (journal : List Entry) (event : Event) (reply : Reply) → IsReply files journal event reply →
    ((name : List ℕ) → event ≡ events.Enter name → ⊥) → begun_operation reply ≡ None
begun_none files journal event reply is other = at (begun_operation reply) refl
  where
    at : (o : Option ℕ) → begun_operation reply ≡ o → o ≡ None
    at None none = refl
    at (Some k) begun = let begins_it = begins files journal event reply k is begun in absurd (other begins_it.name begins_it.event_is)

begun_after-is : (files : Files) (journal : List Entry) (event : Event) (reply : Reply) (n : ℕ) → IsReply files journal event reply →
    begun_after event reply n ≡ n + cond (is_some (begun_operation reply)) 1 0
begun_after-is files journal (events.Enter name) reply n is = one_more (is_some (begun_operation reply)) n
begun_after-is files journal event reply n is =
    none_more (is_some (begun_operation reply)) n (ap is_some (begun_none files journal event reply is (λ name e. cc (e))))

pub Represents-push : {C : Type 0} (image : C → ℕ) (old new : Tables C) (files : Files) (journal : List Entry) (thread : ℕ) (event : Event) (code : Option C) (reply : Reply) →
    Represents image old journal → IsLegal files journal → IsReply files journal event reply → Brings image files event code →
    HaveFollowed old new event code reply → Represents image new (journal ++ entry_of thread event reply ∷ [])
Represents-push {C} image old new files journal thread event code reply represents legal is brings followed = record {
  contexts = ap (λ (t : Contexts). t.list) followed.contexts
      ∙ contexts_of-push files journal thread event reply old.contexts legal is represents.contexts;
  rules = ap (λ (t : Rules). t.list) followed.rules ∙ rules_after-list event reply old.rules
      ∙ ap (λ l. l ++ cons_option (rule_set event (set_context reply)) []) represents.rules ∙ sym (rules_of-push journal (entry_of thread event reply));
  bindings = ap (λ (t : Bindings). t.list) followed.bindings ∙ bindings_after-list files journal event reply old.bindings is represents.bindings
      ∙ ap (λ l. l ++ cons_option (binding_made event (assembly_published reply)) []) represents.bindings
      ∙ sym (bindings_of-push journal (entry_of thread event reply));
  codes = ap (map (loaded_of image)) followed.codes ∙ map-append (loaded_of image) old.codes.items (cons_option (loaded_after event code reply) [])
      ∙ ap (λ l. l ++ map (loaded_of image) (cons_option (loaded_after event code reply) [])) represents.codes
      ∙ ap (λ l. codes_of journal ++ l) (codes_after image files journal event code reply is brings)
      ∙ sym (codes_of-push journal (entry_of thread event reply));
  made = followed.made ∙ made_after-is files journal event reply old.made is
      ∙ ap (λ n. n + cond (is_some (made_context reply)) 1 0) represents.made ∙ sym (made_count-push journal (entry_of thread event reply));
  begun = followed.begun ∙ begun_after-is files journal event reply old.begun is
      ∙ ap (λ n. n + cond (is_some (begun_operation reply)) 1 0) represents.begun ∙ sym (begun_count-push journal (entry_of thread event reply));
}

new_spare : (name : List ℕ) (kind : ContextKind) (t : Contexts) (o : Option ℕ) → t.spare ≤ (option_map_or (with_context t name kind) o t).spare + cond (is_some o) 1 0
new_spare name kind t None = omega arith
new_spare name kind t (Some c) = omega arith

unload_spare : (t : Contexts) (o : Option ℕ) → t.spare ≤ (option_map_or (with_unloaded t) o t).spare
unload_spare t None = omega arith
unload_spare t (Some c) = omega arith

contexts_after-spare : (event : Event) (reply : Reply) (t : Contexts) → t.spare ≤ (contexts_after event reply t).spare + cond (is_some (made_context reply)) 1 0
contexts_after-spare (events.New name kind) reply t = new_spare name kind t (made_context reply)
contexts_after-spare (events.Unload name) reply t = omega (arith, unload_spare t (unloading_context reply))
contexts_after-spare events.Collect reply t = omega arith
contexts_after-spare event reply t = omega arith

rule_spare : (place : RuleAt) (name : List ℕ) (answer : RuleAnswer) (t : Rules) (o : Option ℕ) →
    t.spare ≤ (option_map_or (with_rule t place name answer) o t).spare + cond (is_some o) 1 0
rule_spare place name answer t None = omega arith
rule_spare place name answer t (Some c) = omega arith

rules_after-spare : (event : Event) (reply : Reply) (t : Rules) → t.spare ≤ (rules_after event reply t).spare + cond (is_some (set_context reply)) 1 0
rules_after-spare (events.Rule place name answer) reply t = rule_spare place name answer t (set_context reply)
rules_after-spare event reply t = omega arith

pub sets-set_context : (reply : Reply) → is_some (set_context reply) ≡ sets_rule reply
sets-set_context (replies.Set c) = refl
sets-set_context reply = refl

pub set_count-push : (journal : List Entry) (thread : ℕ) (event : Event) (reply : Reply) →
    set_count (journal ++ entry_of thread event reply ∷ []) ≡ set_count journal + cond (sets_rule reply) 1 0
set_count-push journal thread event reply = length-filter_push (λ (e : Entry). sets_rule e.reply) journal (entry_of thread event reply)

bind_spare : (context : ℕ) (name : List ℕ) (t : Bindings) (o : Option ℕ) → t.spare ≤ (option_map_or (published t context name) o t).spare + 1
bind_spare context name t None = omega arith
bind_spare context name t (Some a) = at (is_some (bound t.list context name))
  where
    at : (b : Bool) → t.spare ≤ (cond b t (with_one t context name a)).spare + 1
    at true = omega arith
    at false = omega arith

bindings_after-spare : (event : Event) (reply : Reply) (t : Bindings) → t.spare ≤ (bindings_after event reply t).spare + 1
bindings_after-spare (events.Publish context name candidate) reply t = bind_spare context name t (assembly_published reply)
bindings_after-spare event reply t = omega arith

pub HaveRoom-push : {C : Type 0} (bounds : Bounds) (old new : Tables C) (journal : List Entry) (thread : ℕ) (event : Event) (code : Option C) (reply : Reply) →
    HaveRoom bounds old journal (vec_capacity old.codes) → HaveFollowed old new event code reply →
    HaveRoom bounds new (journal ++ entry_of thread event reply ∷ []) (vec_capacity new.codes)
HaveRoom-push {C} bounds old new journal thread event code reply room followed =
    let made = made_count-push journal (entry_of thread event reply) in
    let set = set_count-push journal thread event reply in
    let same : cond {A = ℕ} (is_some (set_context reply)) 1 0 ≡ cond {A = ℕ} (sets_rule reply) 1 0 = ap (λ b. cond {A = ℕ} b 1 0) (sets-set_context reply) in
    let contexts_spare : new.contexts.spare ≡ (contexts_after event reply old.contexts).spare = ap (λ (t : Contexts). t.spare) followed.contexts in
    let rules_spare : new.rules.spare ≡ (rules_after event reply old.rules).spare = ap (λ (t : Rules). t.spare) followed.rules in
    let bindings_spare : new.bindings.spare ≡ (bindings_after event reply old.bindings).spare = ap (λ (t : Bindings). t.spare) followed.bindings in
    record {
      contexts = omega (arith, room.contexts, made, contexts_spare, contexts_after-spare event reply old.contexts);
      rules = omega (arith, room.rules, set, same, rules_spare, rules_after-spare event reply old.rules);
      bindings = omega (arith, room.bindings, length_push journal (entry_of thread event reply), bindings_spare, bindings_after-spare event reply old.bindings);
      codes = omega (arith, room.codes, followed.capacity);
    }
