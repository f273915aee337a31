-- The host's tables can follow an event that it takes.
use Rattle.std.proofs.Common.{◌≡◌, ℕ, ◌+◌, ◌<◌, ◌≤◌, ◌^◌, Bool, true, false, not, cond, List, [], ◌∷◌, ◌++◌, length, Option, Some, None, refl, sym, ap, subst, ◌∙◌, arith}
use Rattle.std.specs.Prelude.{Contains, IfSome, IsSome}
use Rattle.std.specs.List.{AllByRecursion, cons_option}
use Rattle.std.specs.Option.{is_some}
use Rattle.std.specs.Vec.{vec_capacity}
use Rattle.std.proofs.lemmas.List.{length_push}
use Rattle.load_context.specs.declared.contexts.Context.{Context}
use Rattle.load_context.specs.Contexts.{row_of}
use Rattle.host_events.specs.declared.event.Candidate.{Candidate}
use Rattle.host_events.specs.declared.event.Candidate.TheVariants as candidates
use Rattle.host_events.specs.declared.event.ContextKind.{ContextKind}
use Rattle.host_events.specs.declared.event.Event.{Event}
use Rattle.host_events.specs.declared.event.Event.TheVariants as events
use Rattle.host_events.specs.declared.journal.Entry.{Entry}
use Rattle.host_events.specs.declared.reply.Reply.{Reply}
use Rattle.host_events.specs.declared.reply.Reply.TheVariants as replies
use Rattle.host_events.specs.Assemblies.{bound_assembly}
use Rattle.host_events.specs.Bindings.{assembly_published}
use Rattle.host_events.specs.Contexts.{freed_contexts, is_collectible, is_live, is_made, is_unloaded, made_context, made_count, named, new_of, unloading_context}
use Rattle.host_events.specs.Files.{Files}
use Rattle.host_events.specs.Journal.{IsLegal}
use Rattle.host_events.specs.Reply.{IsReply, reply_to_unload}
use Rattle.host_events.specs.Rules.{set_context}
use Rattle.host_events.specs.Steps.{entry_of}
use Rattle.host_events.proofs.Cases.{new-each, rule-each}
use Rattle.host_events.proofs.Numbers.{number_of_made}
use Rattle.host_events.proofs.Push.{made_count-push}
use Rattle.host_core.specs.declared.tables.Tables.{Tables}
use Rattle.host_core.specs.Accepted.{Brings, BringsCode}
use Rattle.host_core.specs.After.{AreOthers, CanAdd, CanFollow, CanLoad, IsOther}
use Rattle.host_core.specs.Allowed.{Fixed, IsAllowed, sets_rule}
use Rattle.host_core.specs.Tables.{HaveRoom, Represents, context_made, context_now, contexts_of, set_count}
use Rattle.host_core.proofs.Changed.{MakesOf, all_made, rows_in, zero_kept}
use Rattle.host_core.proofs.Codes.{codes_counted, made_assembly}
use Rattle.host_core.proofs.Few.{begun-few, bound-le, made-le}
use Rattle.host_core.proofs.Followed.{set_count-push}
use Rattle.host_core.proofs.Seen.{named_live, not_unloaded_by, row-contexts_of}
use Rattle.host_core.proofs.Shares.{rules-le}

if_some : {X : Type 0} (P : X → Type 0) (o : Option X) → ((x : X) → o ≡ Some x → P x) → IfSome o P
if_some P None each = tt
if_some P (Some x) each = each x refl

rows_below : (files : Files) (journal entries : List Entry) → IsLegal files journal → AllByRecursion (MakesOf journal) entries →
    AllByRecursion (λ other. other.number < made_count journal + 1) (rows_in journal entries)
rows_below files journal [] legal made = tt
rows_below files journal (e ∷ es) legal made = at (new_of e.event) (made_context e.reply) made.0 (rows_below files journal es legal made.1)
  where
    by : (c : ℕ) (new : List ℕ × ContextKind) (live : Bool) → c ≤ made_count journal → AllByRecursion (λ (other : Context). other.number < made_count journal + 1) (rows_in journal es) →
        AllByRecursion (λ (other : Context). other.number < made_count journal + 1) (cons_option (cond live (Some (context_now journal c new)) None) (rows_in journal es))
    by c new true few rest = (omega (arith, few), rest)
    by c new false few rest = rest

    at : (new : Option (List ℕ × ContextKind)) (o : Option ℕ) → ((c : ℕ) → o ≡ Some c → is_made journal c ≡ true) →
        AllByRecursion (λ (other : Context). other.number < made_count journal + 1) (rows_in journal es) →
        AllByRecursion (λ (other : Context). other.number < made_count journal + 1) (cons_option (context_made journal new o) (rows_in journal es))
    at None o makes rest = rest
    at (Some new) None makes rest = rest
    at (Some new) (Some c) makes rest = by c new (is_live journal c) (number_of_made files journal c legal (makes c refl)).1 rest

-- the numbers of all contexts that are there are below the next one
numbers_below : (files : Files) (journal : List Entry) (list : List Context) → IsLegal files journal → list ≡ contexts_of journal →
    AllByRecursion (λ other. other.number < made_count journal + 1) list
numbers_below files journal list legal is =
    subst (AllByRecursion (λ (other : Context). other.number < made_count journal + 1)) (sym is) (omega arith, rows_below files journal journal legal (all_made journal))

row_there : (files : Files) (journal : List Entry) (list : List Context) (c : ℕ) → IsLegal files journal → list ≡ contexts_of journal → is_live journal c ≡ true →
    IsSome (row_of list c)
row_there files journal list c legal is live =
    ap (λ l. is_some (row_of l c)) is ∙ (row-contexts_of files journal c legal).there ∙ live

unloading_named : (journal : List Entry) (o : Option ℕ) (reply : Reply) (c : ℕ) → reply ≡ reply_to_unload journal o → unloading_context reply ≡ Some c → o ≡ Some c
unloading_named journal None reply c is unloading = cc
unloading_named journal (Some d) reply c is unloading = at (is_collectible journal d) (is_unloaded journal d) (ap unloading_context (sym is) ∙ unloading)
  where
    at : (collectible unloaded : Bool) →
        unloading_context (cond (not collectible) (replies.Fixed d) (cond unloaded (replies.Already d) (replies.Unloading d))) ≡ Some c → Some d ≡ Some c
    at false unloaded none = cc
    at true true none = cc
    at true false some = some

live_from : (journal : List Entry) (o : Option ℕ) (c : ℕ) → IfSome o (λ d. is_live journal d ≡ true) → o ≡ Some c → is_live journal c ≡ true
live_from journal o c live is = subst (λ (t : Option ℕ). IfSome t (λ d. is_live journal d ≡ true)) is live

can_load : {C : Type 0} (image : C → ℕ) (files : Files) (journal : List Entry) (context : ℕ) (name : List ℕ) (candidate : Candidate) (code : Option C) (reply : Reply) (a : ℕ) →
    IsReply files journal (events.Publish context name candidate) reply → bound_assembly reply ≡ Some a → BringsCode image files candidate code → IsSome code
can_load {C} image files journal context name (candidates.Image i) code reply a is made brings = ap is_some brings.2
can_load {C} image files journal context name (candidates.Assembly b) code reply a is made brings =
    let makes = made_assembly files journal (events.Publish context name (candidates.Assembly b)) reply a is made in cc (makes.2)

pub CanFollow-from : {C : Type 0} (image : C → ℕ) (fixed : Fixed) (journal : List Entry) (thread : ℕ) (tables : Tables C) (event : Event) (code : Option C) (reply : Reply) →
    Represents image tables journal → HaveRoom fixed.bounds tables journal (vec_capacity tables.codes) → fixed.bounds.events < 2 ^ 32 →
    IsAllowed fixed journal → IsAllowed fixed (journal ++ entry_of thread event reply ∷ []) →
    length (journal ++ entry_of thread event reply ∷ []) ≤ fixed.bounds.events → IsReply fixed.files journal event reply →
    Brings image fixed.files event code → CanFollow tables event code reply
CanFollow-from {C} image fixed journal thread tables (events.New name kind) code reply represents room short allowed next long is brings =
    subst (λ r. IfSome (made_context r) (CanAdd tables)) (sym is)
    (new-each (λ r. (made_count journal + cond (is_some (made_context r)) 1 0 + 1 ≤ fixed.bounds.contexts) → IfSome (made_context r) (CanAdd tables)) journal (named journal name)
    (λ few. record {
      room = omega (arith, few, room.contexts);
      greater = numbers_below fixed.files journal tables.contexts.list allowed.proper.legal represents.contexts;
      made = omega (arith, few, represents.made, allowed.numbered);
    })
    (λ c few. tt)
    (subst (λ r. made_count journal + cond (is_some (made_context r)) 1 0 + 1 ≤ fixed.bounds.contexts) is
    (omega (arith, made-le fixed (journal ++ entry_of thread (events.New name kind) reply ∷ []) next, made_count-push journal (entry_of thread (events.New name kind) reply)))))
CanFollow-from {C} image fixed journal thread tables (events.Rule place name answer) code reply represents room short allowed next long is brings =
    subst (λ r. IfSome (set_context r) (λ c. 0 < tables.rules.spare)) (sym is)
    (rule-each (λ r. (set_count journal + cond (sets_rule r) 1 0 ≤ fixed.bounds.rules) → IfSome (set_context r) (λ c. 0 < tables.rules.spare)) journal place
    (λ few. tt) (λ c few. tt) (λ c few. omega (arith, few, room.rules))
    (subst (λ r. set_count journal + cond (sets_rule r) 1 0 ≤ fixed.bounds.rules) is
    (omega (
      arith,
      rules-le fixed.bounds.shares (journal ++ entry_of thread (events.Rule place name answer) reply ∷ []) next.rules,
      set_count-push journal thread (events.Rule place name answer) reply,
      ap (λ b. b.rules) allowed.made_up,
    ))))
CanFollow-from {C} image fixed journal thread tables (events.Enter name) code reply represents room short allowed next long is brings =
    begun-few journal represents refl (omega (arith, long, short, length_push journal (entry_of thread (events.Enter name) reply)))
CanFollow-from {C} image fixed journal thread tables (events.Publish context name candidate) code reply represents room short allowed next long is brings =
    let pushed = length_push journal (entry_of thread (events.Publish context name candidate) reply) in (
      if_some (λ a. 0 < tables.bindings.spare) (assembly_published reply) (λ a binds. omega (arith, long, pushed, room.bindings)),
      if_some (λ a. CanLoad tables code) (bound_assembly reply) (λ a made. record {
        brought = can_load image fixed.files journal context name candidate code reply a is made brings;
        room = omega (arith, long, pushed, room.codes, codes_counted fixed.files journal represents allowed.proper.legal refl, bound-le journal);
      }),
    )
CanFollow-from {C} image fixed journal thread tables (events.Unload name) code reply represents room short allowed next long is brings =
    if_some (IsOther tables.contexts.list) (unloading_context reply)
    (λ c unloading. record {
      there = row_there fixed.files journal tables.contexts.list c allowed.proper.legal represents.contexts
          (live_from journal (named journal name) c (named_live journal name) (unloading_named journal (named journal name) reply c is unloading));
      other = λ zero_is. not_unloaded_by fixed.files journal (named journal name) reply allowed.proper.legal is (unloading ∙ ap Some zero_is);
    })
CanFollow-from {C} image fixed journal thread tables events.Collect code reply represents room short allowed next long is brings =
    subst (λ r. AreOthers tables.contexts.list (freed_contexts r)) (sym is.2)
    (record {
      rising = is.1.rising;
      each = λ c has. record {
        there = row_there fixed.files journal tables.contexts.list c allowed.proper.legal represents.contexts ((is.1.each c).0 has).0;
        other = λ zero_is. zero_kept fixed.files journal is.0 allowed.proper.legal is.1 (subst (Contains is.0) zero_is has);
      };
    })
CanFollow-from {C} image fixed journal thread tables event code reply represents room short allowed next long is brings = tt
