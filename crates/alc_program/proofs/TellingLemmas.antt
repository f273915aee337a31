-- The replies of a proper journal can be told, and each that ends a command is the outcome of one.
use Rattle.std.proofs.Common.{◌≡◌, ◌⊎◌, ℕ, suc, ◌+◌, ◌<◌, ◌≤◌, ◌^◌, Bool, true, false, not, cond, List, [], ◌∷◌, ◌++◌, length, Option, Some, None, refl, sym, subst, inl, inr, append_assoc, arith}
use Rattle.std.specs.Prelude.{IfSome, IsTrue, codes}
use Rattle.std.specs.List.{AllByRecursion, Contains, cons_option, filter, filter_map, last_or, slice_get}
use Rattle.std.specs.Option.{option_map_or}
use Rattle.std.specs.Str.{bytes_eq}
use Rattle.std.proofs.lemmas.List.{length-append}
use Rattle.assembly_name.specs.declared.version.Version.{Version}
use Rattle.host_events.specs.declared.event.AskStep.{AskStep}
use Rattle.host_events.specs.declared.event.Candidate.{Candidate}
use Rattle.host_events.specs.declared.event.Event.{Event}
use Rattle.host_events.specs.declared.event.Event.TheVariants as events
use Rattle.host_events.specs.declared.event.RuleAt.{RuleAt}
use Rattle.host_events.specs.declared.event.RuleAt.TheVariants as places
use Rattle.host_events.specs.declared.journal.Entry.{Entry}
use Rattle.host_events.specs.declared.order.CodeOf.{CodeOf}
use Rattle.host_events.specs.declared.reply.Reply.{Reply}
use Rattle.host_events.specs.declared.reply.Reply.TheVariants as replies
use Rattle.host_events.specs.Assemblies.{assembly_in, assembly_of, bound_assembly, bound_count}
use Rattle.host_events.specs.Bindings.{binding}
use Rattle.host_events.specs.Contexts.{is_collectible, is_live, is_unloaded, made_context, made_count, made_under, named}
use Rattle.host_events.specs.Files.{Files}
use Rattle.host_events.specs.Handles.{weak_context, weak_name, weak_of, weakly}
use Rattle.host_events.specs.Images.{IsOfImages, KnowsImages}
use Rattle.host_events.specs.Journal.{IsLegal, IsProper}
use Rattle.host_events.specs.Operations.{begun_count, begun_operation, is_command}
use Rattle.host_events.specs.Reply.{IsReply, ListsUnkept, reply_to_alive, reply_to_enter, reply_to_lookup, reply_to_new, reply_to_publish, reply_to_rule, reply_to_rule_in, reply_to_unload, reply_to_weak}
use Rattle.host_events.specs.Rules.{reply_to_ask}
use Rattle.host_events.specs.Steps.{entry_of}
use Rattle.host_events.proofs.Bound.{assembly_bounds}
use Rattle.host_events.proofs.Cases.{ask-each, lookup-each, publish-each}
use Rattle.host_events.proofs.Images.{GivesImage, asked_image}
use Rattle.host_events.proofs.Named.{named_are_made_each}
use Rattle.host_events.proofs.Numbers.{number_of_live}
use Rattle.host_events.proofs.Push.{IsProper-prefix}
use Rattle.host_report.specs.Printable.{IsPrintableReply, ends_command}
use Rattle.command_flow.specs.State.{is_inner}
use Rattle.command_flow.proofs.Places.{IsUnbegun}

abbrev IsNumber : ℕ → Type 0
IsNumber n = n < 2 ^ 32

-- a reply that can be told, and that is the outcome of a command
abbrev pub Tells : Reply → Type 0
Tells reply = IsPrintableReply reply × IsTrue (ends_command reply)

-- the reply ends a command: its event is a command by itself, or an operation did not begin by it
abbrev pub EndsCommandBy : Event → Reply → Type 0
EndsCommandBy event reply = (is_command event ≡ true) ⊎ ((name : List ℕ) × (event ≡ events.Enter name) × IsUnbegun reply)

-- a reply that can be told, and that is the outcome of a command where it ends one
abbrev pub IsTold : Event → Reply → Type 0
IsTold event reply = IsPrintableReply reply × (EndsCommandBy event reply → IsTrue (ends_command reply))

abbrev pub AreTold : List Entry → Type 0
AreTold entries = AllByRecursion (λ entry. IsTold entry.event entry.reply) entries

-- the replies of each kind
new_tells : (journal : List Entry) (found : Option ℕ) → IfSome found IsNumber → IsNumber (made_count journal + 1) →
    Tells (reply_to_new journal found)
new_tells journal None some below = (((tt, ((below, tt), tt)), tt), refl)
new_tells journal (Some c) some below = (((tt, ((some, tt), tt)), tt), refl)

rule_in_tells : (journal : List Entry) (found : Option ℕ) → IfSome found IsNumber → Tells (reply_to_rule_in journal found)
rule_in_tells journal None some = (((tt, (tt, tt)), tt), refl)
rule_in_tells journal (Some c) some = at (is_unloaded journal c)
  where
    at : (unloaded : Bool) → Tells (cond unloaded (replies.Unloading c) (replies.Set c))
    at true = (((tt, ((some, tt), tt)), tt), refl)
    at false = (((tt, ((some, tt), tt)), tt), refl)

rule_tells : (journal : List Entry) (place : RuleAt) → ((name : List ℕ) → IfSome (named journal name) IsNumber) →
    Tells (reply_to_rule journal place)
rule_tells journal (places.On name) each = rule_in_tells journal (named journal name) (each name)
rule_tells journal (places.Resolving name) each = rule_in_tells journal (named journal name) (each name)
rule_tells journal places.Resolve each = (((tt, ((omega arith, tt), tt)), tt), refl)

weak_tells : (used found : Option ℕ) → IfSome found IsNumber → Tells (reply_to_weak used found)
weak_tells (Some d) found some = (((tt, (tt, tt)), tt), refl)
weak_tells None None some = (((tt, (tt, tt)), tt), refl)
weak_tells None (Some c) some = (((tt, ((some, tt), tt)), tt), refl)

alive_tells : (journal : List Entry) (found : Option ℕ) → IfSome found IsNumber → Tells (reply_to_alive journal found)
alive_tells journal None some = (((tt, (tt, tt)), tt), refl)
alive_tells journal (Some c) some = at (is_live journal c)
  where
    at : (live : Bool) → Tells (cond live (replies.Alive c) (replies.Gone c))
    at true = (((tt, ((some, tt), tt)), tt), refl)
    at false = (((tt, ((some, tt), tt)), tt), refl)

unload_tells : (journal : List Entry) (found : Option ℕ) → IfSome found IsNumber → Tells (reply_to_unload journal found)
unload_tells journal None some = (((tt, (tt, tt)), tt), refl)
unload_tells journal (Some c) some = at (not (is_collectible journal c)) (is_unloaded journal c)
  where
    at : (stays before : Bool) → Tells (cond stays (replies.Fixed c) (cond before (replies.Already c) (replies.Unloading c)))
    at true before = (((tt, ((some, tt), tt)), tt), refl)
    at false true = (((tt, ((some, tt), tt)), tt), refl)
    at false false = (((tt, ((some, tt), tt)), tt), refl)

-- the last number that passes
last_kept : (P : ℕ → Type 0) (p : ℕ → Bool) → ((c : ℕ) → p c ≡ true → P c) → (xs : List ℕ) (last : Option ℕ) → IfSome last P →
    IfSome (last_or last (filter p xs)) P
last_kept P p each [] last some = some
last_kept P p each (x ∷ xs) last some =
    at (p x) refl (λ here. last_kept P p each xs (Some x) here) (last_kept P p each xs last some)
  where
    at : (b : Bool) → p x ≡ b → (P x → IfSome (last_or (Some x) (filter p xs)) P) → IfSome (last_or last (filter p xs)) P →
        IfSome (last_or last (cond b (x ∷ filter p xs) (filter p xs))) P
    at true passes kept rest = kept (each x passes)
    at false passes kept rest = rest

-- what a name means is a number
named_number : (files : Files) (journal : List Entry) → IsLegal files journal → IsNumber (made_count journal + 1) →
    (name : List ℕ) → IfSome (named journal name) IsNumber
named_number files journal legal below name = at (bytes_eq name (codes "default"))
  where
    live : (c : ℕ) → is_live journal c ≡ true → IsNumber c
    live c is = let few = number_of_live files journal c legal is in omega arith

    at : (b : Bool) → IfSome (cond b (Some 0) (last_or None (filter (is_live journal) (filter_map (λ entry. made_under name entry.event entry.reply) journal)))) IsNumber
    at true = omega arith
    at false = last_kept IsNumber (is_live journal) live (filter_map (λ entry. made_under name entry.event entry.reply) journal) None tt

-- so is what a weak handle holds, since a reply told it
weak_number : (reply : Reply) → IsPrintableReply reply → IfSome (weak_context reply) IsNumber
weak_number (replies.Weakly c) prints =
    let fields = prints.0 in
    let numbers = fields.1 in
    let number = numbers.0 in
    number.0
weak_number _ prints = tt

weakly_number : (journal : List Entry) (handle : List ℕ) → AreTold journal → IfSome (weakly journal handle) IsNumber
weakly_number [] handle told = tt
weakly_number (e ∷ es) handle told =
    at (option_map_or (λ other. bytes_eq other handle) (weak_name e.event) false) (weak_context e.reply)
    (weak_number e.reply told.0.0) (weakly_number es handle told.1)
  where
    rest : List ℕ
    rest = filter_map (λ entry. weak_of handle entry.event entry.reply) es

    at : (b : Bool) (o : Option ℕ) → IfSome o IsNumber → IfSome (slice_get rest 0) IsNumber →
        IfSome (slice_get (cons_option (cond b o None) rest) 0) IsNumber
    at true (Some c) some later = some
    at true None some later = later
    at false o some later = later

-- what holds of each element that a list contains
all_contained : {X : Type 0} (P : X → Type 0) (xs : List X) → ((x : X) → Contains xs x → P x) → AllByRecursion P xs
all_contained P [] each = tt
all_contained P (x ∷ xs) each =
    (each x (0, omega arith, refl), all_contained P xs (λ y has. each y (suc has.0, omega (arith, has.1), has.2)))

freed_tells : (files : Files) (journal : List Entry) (contexts : List ℕ) → IsLegal files journal → IsNumber (made_count journal + 1) →
    ListsUnkept journal contexts → AllByRecursion IsNumber contexts
freed_tells files journal contexts legal below lists =
    all_contained IsNumber contexts (λ c has.
    let live = ((lists.each c).0 has).0 in
    let few = number_of_live files journal c legal live in
    omega arith)

-- the reply to what is a command by itself, after told replies
reply_tells : (files : Files) (journal : List Entry) → IsLegal files journal → AreTold journal → IsNumber (made_count journal + 1) →
    (event : Event) (reply : Reply) → is_command event ≡ true → IsReply files journal event reply → Tells reply
reply_tells files journal legal told below (events.New name kind) reply command is =
    subst Tells (sym is) (new_tells journal (named journal name) (named_number files journal legal below name) below)
reply_tells files journal legal told below (events.Rule place name answer) reply command is =
    subst Tells (sym is) (rule_tells journal place (named_number files journal legal below))
reply_tells files journal legal told below (events.Enter name) reply command is = cc
reply_tells files journal legal told below (events.EnterHandle handle) reply command is = absurd is
reply_tells files journal legal told below (events.Lookup context name version) reply command is = cc
reply_tells files journal legal told below (events.Ask step context name) reply command is = cc
reply_tells files journal legal told below (events.Publish context name candidate) reply command is = cc
reply_tells files journal legal told below (events.Place user key) reply command is = absurd is
reply_tells files journal legal told below (events.LoadStatic key field kind) reply command is = absurd is
reply_tells files journal legal told below (events.StoreStatic key field value) reply command is = absurd is
reply_tells files journal legal told below (events.Hold handle assembly method) reply command is = absurd is
reply_tells files journal legal told below (events.DropHandle handle) reply command is = absurd is
reply_tells files journal legal told below (events.Weak handle name) reply command is =
    subst Tells (sym is) (weak_tells (weakly journal handle) (named journal name) (named_number files journal legal below name))
reply_tells files journal legal told below (events.Alive handle) reply command is =
    subst Tells (sym is) (alive_tells journal (weakly journal handle) (weakly_number journal handle told))
reply_tells files journal legal told below (events.Unload name) reply command is =
    subst Tells (sym is) (unload_tells journal (named journal name) (named_number files journal legal below name))
reply_tells files journal legal told below events.Collect reply command is =
    subst Tells (sym is.2) (((tt, (freed_tells files journal is.0 legal below is.1, tt)), refl), refl)
reply_tells files journal legal told below (events.Leave operation) reply command is = cc

-- fewer things are told of entries than there are entries
given-le : (f : Entry → Option ℕ) (journal : List Entry) → length (filter_map f journal) ≤ length journal
given-le f [] = omega arith
given-le f (e ∷ es) = at (f e) (given-le f es)
  where
    at : (o : Option ℕ) → length (filter_map f es) ≤ length es → length (cons_option o (filter_map f es)) ≤ length (e ∷ es)
    at None below = omega arith
    at (Some n) below = omega arith

-- an assembly that a reply names has a number of so many bits as there are entries at most
assembly_number : (files : Files) (journal : List Entry) (entry : Entry) (a : ℕ) → IsProper files (journal ++ entry ∷ []) → length journal + 1 < 2 ^ 32 →
    assembly_in entry.reply ≡ Some a → IsNumber a
assembly_number files journal entry a proper few is =
    at (named_are_made_each files (journal ++ entry ∷ []) journal entry [] a proper refl is)
  where
    at : (a ≡ 0) ⊎ ((code : CodeOf) × (assembly_of (journal ++ entry ∷ []) a ≡ Some code)) → IsNumber a
    at (inl platform) = omega (arith, platform)
    at (inr (code, made)) =
        let below = (assembly_bounds files (journal ++ entry ∷ []) a code proper.legal made).1 in
        omega (arith, below, given-le (λ e. bound_assembly e.reply) (journal ++ entry ∷ []), length-append journal (entry ∷ []), few)

-- an operation that began ends no command
enter_told : (journal : List Entry) (name : List ℕ) (found : Option ℕ) → IfSome found IsNumber → begun_count journal + 1 < 2 ^ 32 →
    IsTold (events.Enter name) (reply_to_enter journal found)
enter_told journal name None some below = (((tt, (tt, tt)), tt), λ ends. refl)
enter_told journal name (Some c) some below = at (is_unloaded journal c)
  where
    unended : EndsCommandBy (events.Enter name) (replies.Entered (begun_count journal + 1) c) → IsTrue (ends_command (replies.Entered (begun_count journal + 1) c))
    unended (inl command) = cc command
    unended (inr (other, is, unbegun)) = absurd unbegun

    at : (unloaded : Bool) → IsTold (events.Enter name) (cond unloaded (replies.Unloading c) (replies.Entered (begun_count journal + 1) c))
    at true = (((tt, ((some, tt), tt)), tt), λ ends. refl)
    at false = (((tt, ((below, (some, tt)), tt)), tt), unended)

-- a reply within an operation ends no command
inner_told : (event : Event) (reply : Reply) → is_inner event ≡ true → IsPrintableReply reply → IsTold event reply
inner_told event reply inner prints = (prints, λ ends. absurd (none event inner ends))
  where
    none : (e : Event) → is_inner e ≡ true → EndsCommandBy e reply → ⊥
    none (events.Lookup context name version) inner (inl command) = cc command
    none (events.Lookup context name version) inner (inr (other, is, unbegun)) = cc is
    none (events.Ask step context name) inner (inl command) = cc command
    none (events.Ask step context name) inner (inr (other, is, unbegun)) = cc is
    none (events.Publish context name candidate) inner (inl command) = cc command
    none (events.Publish context name candidate) inner (inr (other, is, unbegun)) = cc is
    none e inner ends = cc inner

-- the numbers of the assemblies that a reply names
abbrev Names : Reply → Type 0
Names reply = (a : ℕ) → assembly_in reply ≡ Some a → IsNumber a

lookup_prints : (files : Files) (journal : List Entry) (version : Version) (found : Option ℕ) → Names (reply_to_lookup files journal version found) →
    IsPrintableReply (reply_to_lookup files journal version found)
lookup_prints files journal version found names =
    lookup-each (λ r. Names r → IsPrintableReply r) files journal version found (λ names. ((tt, (tt, tt)), tt))
    (λ a names. ((tt, ((names a refl, tt), tt)), tt)) (λ a names. ((tt, ((names a refl, tt), tt)), tt)) names

publish_prints : (journal : List Entry) (c : ℕ) (candidate : Candidate) (found : Option ℕ) → Names (reply_to_publish journal c candidate found) →
    IsPrintableReply (reply_to_publish journal c candidate found)
publish_prints journal c candidate found names =
    publish-each (λ r. Names r → IsPrintableReply r) journal c candidate found
    (λ a names. ((tt, ((names a refl, tt), tt)), tt)) (λ a names. ((tt, ((names a refl, tt), tt)), tt)) (λ a names. ((tt, ((names a refl, tt), tt)), tt))
    (λ names. ((tt, ((names (bound_count journal + 1) refl, tt), tt)), tt)) names

ask_prints : (files : Files) (journal : List Entry) (step : AskStep) (c : ℕ) (n : List ℕ) → length files.versions < 2 ^ 32 →
    Names (reply_to_ask files journal step c n) → GivesImage files (reply_to_ask files journal step c n) → IsPrintableReply (reply_to_ask files journal step c n)
ask_prints files journal step c n few names gives =
    ask-each (λ r. Names r → GivesImage files r → IsPrintableReply r) files journal step c n (λ names gives. ((tt, (tt, tt)), tt))
    (λ i names gives. let there = (gives i refl).within in ((tt, ((omega (arith, few, there), tt), tt)), tt))
    (λ a names gives. ((tt, ((names a refl, tt), tt)), tt)) names gives

-- the reply to an event, after told replies
reply_told : (files : Files) (journal : List Entry) (thread : ℕ) (event : Event) (reply : Reply) → IsProper files (journal ++ entry_of thread event reply ∷ []) →
    KnowsImages files journal → AreTold journal → length journal + 1 < 2 ^ 32 → IsTold event reply
reply_told files journal thread event reply proper knows told few = by_event event (λ a is. assembly_number files journal (entry_of thread event reply) a proper few is) (proper.legal journal (entry_of thread event reply) [] refl)
  where
    legal : IsLegal files journal
    legal = (IsProper-prefix files journal (entry_of thread event reply ∷ []) proper).legal

    below : made_count journal + 1 < 2 ^ 32
    below = omega (arith, few, given-le (λ e. made_context e.reply) journal)

    command : (e : Event) → is_command e ≡ true → IsReply files journal e reply → IsTold e reply
    command e is replied = let tells = reply_tells files journal legal told below e reply is replied in (tells.0, λ ends. tells.1)

    by_event : (e : Event) → Names reply → IsReply files journal e reply → IsTold e reply
    by_event (events.New name kind) names is = command (events.New name kind) refl is
    by_event (events.Rule place name answer) names is = command (events.Rule place name answer) refl is
    by_event (events.Enter name) names is =
        subst (IsTold (events.Enter name)) (sym is)
        (enter_told journal name (named journal name) (named_number files journal legal below name) (omega (arith, few, given-le (λ e. begun_operation e.reply) journal)))
    by_event (events.EnterHandle handle) names is = absurd is
    by_event (events.Lookup context name version) names is =
        inner_told (events.Lookup context name version) reply refl
        (subst IsPrintableReply (sym is) (lookup_prints files journal version (binding journal context name) (subst Names is names)))
    by_event (events.Ask step context name) names is =
        inner_told (events.Ask step context name) reply refl
        (subst IsPrintableReply (sym is)
        (ask_prints files journal step context name knows.numbered.few (subst Names is names) (asked_image files journal step context name knows)))
    by_event (events.Publish context name candidate) names is =
        inner_told (events.Publish context name candidate) reply refl
        (subst IsPrintableReply (sym is) (publish_prints journal context candidate (binding journal context name) (subst Names is names)))
    by_event (events.Place user key) names is = absurd is
    by_event (events.LoadStatic key field kind) names is = absurd is
    by_event (events.StoreStatic key field value) names is = absurd is
    by_event (events.Hold handle assembly method) names is = absurd is
    by_event (events.DropHandle handle) names is = absurd is
    by_event (events.Weak handle name) names is = command (events.Weak handle name) refl is
    by_event (events.Alive handle) names is = command (events.Alive handle) refl is
    by_event (events.Unload name) names is = command (events.Unload name) refl is
    by_event events.Collect names is = command events.Collect refl is
    by_event (events.Leave operation) names is = (subst IsPrintableReply (sym is) ((tt, (tt, tt)), tt), unended)
      where
        unended : EndsCommandBy (events.Leave operation) reply → IsTrue (ends_command reply)
        unended (inl command) = cc command
        unended (inr (name, same, unbegun)) = cc same

told-push : (entries : List Entry) (entry : Entry) → AreTold entries → IsTold entry.event entry.reply → AreTold (entries ++ entry ∷ [])
told-push [] entry told here = (here, tt)
told-push (e ∷ es) entry told here = (told.0, told-push es entry told.1 here)

pub all-front : {X : Type 0} (P : X → Type 0) (xs ys : List X) → AllByRecursion P (xs ++ ys) → AllByRecursion P xs
all-front P [] ys all = tt
all-front P (x ∷ xs) ys all = (all.0, all-front P xs ys all.1)

told_from : (files : Files) (before after : List Entry) → IsProper files (before ++ after) → KnowsImages files (before ++ after) →
    length (before ++ after) < 2 ^ 32 → AreTold before → AreTold after
told_from files before [] proper knows few told = tt
told_from files before (e ∷ es) proper knows few told =
    let joined : (before ++ e ∷ []) ++ es ≡ before ++ e ∷ es = append_assoc before (e ∷ []) es in
    let whole : IsProper files ((before ++ e ∷ []) ++ es) = subst (λ (j : List Entry). IsProper files j) (sym joined) proper in
    let room : length before + 1 < 2 ^ 32 = omega (arith, few, length-append before (e ∷ es)) in
    let here : IsTold e.event e.reply =
    reply_told files before e.thread e.event e.reply (IsProper-prefix files (before ++ e ∷ []) es whole)
    (record { numbered = knows.numbered; each = all-front (IsOfImages files) before (e ∷ es) knows.each }) told room in (
      here,
      told_from files (before ++ e ∷ []) es whole (subst (λ (j : List Entry). KnowsImages files j) (sym joined) knows)
          (subst (λ (j : List Entry). length j < 2 ^ 32) (sym joined) few) (told-push before e told here),
    )

-- the replies of a proper journal of few entries are told
pub replies_are_told : (files : Files) (journal : List Entry) → IsProper files journal → KnowsImages files journal → length journal < 2 ^ 32 → AreTold journal
replies_are_told files journal proper knows few = told_from files [] journal proper knows few tt
