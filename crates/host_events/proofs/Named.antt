-- The assemblies that replies name are the platform, or were made.
use Rattle.std.proofs.Common.{◌≡◌, ℕ, ◌+◌, ◌⊎◌, inl, inr, Bool, true, false, not, ◌&&◌, cond, eqb, zero, suc, List, [], ◌∷◌, ◌++◌, Option, Some, None, refl, sym, ap, subst, ◌∙◌, append_assoc, arith}
use Rattle.std.proofs.ByRecursion as all
use Rattle.std.specs.List.{AllByRecursion, Contains, filter, filter_map, last_or}
use Rattle.std.specs.Option.{option_and_then}
use Rattle.assembly_name.specs.declared.version.Version.{Version}
use Rattle.host_events.specs.declared.event.AskStep.{AskStep}
use Rattle.host_events.specs.declared.event.AskStep.TheVariants as steps
use Rattle.host_events.specs.declared.event.Candidate.{Candidate}
use Rattle.host_events.specs.declared.event.Candidate.TheVariants as candidates
use Rattle.host_events.specs.declared.event.Event.{Event}
use Rattle.host_events.specs.declared.event.Event.TheVariants as events
use Rattle.host_events.specs.declared.event.RuleAnswer.{RuleAnswer}
use Rattle.host_events.specs.declared.event.RuleAnswer.TheVariants as answers
use Rattle.host_events.specs.declared.journal.Entry.{Entry}
use Rattle.host_events.specs.declared.reply.Reply.{Reply}
use Rattle.host_events.specs.declared.reply.Reply.TheVariants as replies
use Rattle.host_events.specs.Assemblies.{assembly_in, bound_assembly, bound_count}
use Rattle.host_events.specs.Bindings.{assembly_published, binding, binds_by, is_good, publishes}
use Rattle.host_events.specs.Contexts.{is_collectible, is_number, named as name_means}
use Rattle.host_events.specs.Files.{Files, first_image}
use Rattle.host_events.specs.Journal.{Fits, IsProper, IsToldCandidate}
use Rattle.host_events.specs.Laws.{NamedAreMade}
use Rattle.host_events.specs.Operations.{begun_operation, replies_since, replies_to}
use Rattle.host_events.specs.Reply.{IsReply, is_of_collectible, reply_to_lookup, reply_to_publish}
use Rattle.host_events.specs.Rules.{default_for, foreign, found_image, given_by, reply_to_ask, rules_for}
use Rattle.host_events.proofs.Binding.{binding_parts}
use Rattle.host_events.proofs.Bound.{IsKnown, assembly_of-made, code_made-published, known-later}
use Rattle.host_events.proofs.Cases.{enter-each, found-each, last-each}
use Rattle.host_events.proofs.Parts.{PartsAt, each_push, parts_given}
use Rattle.host_events.proofs.Push.{IsProper-prefix}
use Rattle.host_events.proofs.Quiet.{command-quiet, made}

-- what the reply names is such an assembly
abbrev pub NamesOf : (ℕ → Type 0) → Reply → Type 0
NamesOf K reply = (a : ℕ) → assembly_in reply ≡ Some a → K a

names_none : (K : ℕ → Type 0) (reply : Reply) → assembly_in reply ≡ None → NamesOf K reply
names_none K reply none a is = cc (none, is)

names_one : (K : ℕ → Type 0) (reply : Reply) (b : ℕ) → assembly_in reply ≡ Some b → K b → NamesOf K reply
names_one K reply b one known a is = let same : b ≡ a = cc (one, is) in subst K same known

-- what holds of each element holds of one at which the list is parted
pub all_at : {X : Type 0} (P : X → Type 0) (before : List X) (x : X) (after : List X) → AllByRecursion P (before ++ x ∷ after) → P x
all_at P [] x after h = h.0
all_at P (b ∷ before) x after h = all_at P before x after h.1

-- an assembly that a reply binds to a name is one that it names
published-named : (reply : Reply) (a : ℕ) → assembly_published reply ≡ Some a → assembly_in reply ≡ Some a
published-named (replies.Shared a) b is = is
published-named (replies.Bound a) b is = is
published-named reply b is = cc is

-- what a name is bound to is the platform, or a reply names it
pub bound_named : (K : ℕ → Type 0) (journal : List Entry) → K 0 → AllByRecursion (λ e. NamesOf K e.reply) journal →
    (c : ℕ) (n : List ℕ) (a : ℕ) → binding journal c n ≡ Some a → K a
bound_named K journal platform named c n a bound = at (binding_parts journal c n a bound)
  where
    by : (e : Entry) (b : Bool) → cond b (assembly_published e.reply) None ≡ Some a → assembly_in e.reply ≡ Some a
    by e true is = published-named e.reply a is
    by e false is = cc is

    at : ((a ≡ 0) ⊎ PartsAt (λ entry. binds_by c n entry.event entry.reply ≡ Some a) journal) → K a
    at (inl zero_is) = subst K (sym zero_is) platform
    at (inr p) =
        all_at (λ e. NamesOf K e.reply) p.before p.here p.after (subst (AllByRecursion (λ e. NamesOf K e.reply)) p.parted named) a
        (by p.here (publishes c n p.here.event) p.holds)

pub lookup_names : (K : ℕ → Type 0) (files : Files) (journal : List Entry) (version : Version) (o : Option ℕ) →
    ((a : ℕ) → o ≡ Some a → K a) → NamesOf K (reply_to_lookup files journal version o)
lookup_names K files journal version None known = names_none K replies.Miss refl
lookup_names K files journal version (Some a) known = at (is_good files journal a version)
  where
    at : (good : Bool) → NamesOf K (cond good (replies.Hit a) (replies.Low a))
    at true = names_one K (replies.Hit a) a refl (known a refl)
    at false = names_one K (replies.Low a) a refl (known a refl)

foreign_names : (K : ℕ → Type 0) (o : Option ℕ) → ((a : ℕ) → o ≡ Some a → K a) → NamesOf K (foreign o)
foreign_names K None known = names_none K replies.Nothing refl
foreign_names K (Some a) known = names_one K (replies.Foreign a) a refl (known a refl)

shared_names : (K : ℕ → Type 0) (journal : List Entry) (n : List ℕ) (context : Option ℕ) →
    ((c : ℕ) (a : ℕ) → binding journal c n ≡ Some a → K a) → NamesOf K (foreign (option_and_then (λ c. binding journal c n) context))
shared_names K journal n None known = names_none K replies.Nothing refl
shared_names K journal n (Some c) known = foreign_names K (binding journal c n) (known c)

given_names : (K : ℕ → Type 0) (journal : List Entry) (n : List ℕ) → ((c : ℕ) (a : ℕ) → binding journal c n ≡ Some a → K a) →
    (answer : RuleAnswer) → NamesOf K (given_by journal n answer)
given_names K journal n known (answers.Image i) = names_none K (replies.Image i) refl
given_names K journal n known (answers.Share context) = shared_names K journal n (name_means journal context) known
given_names K journal n known answers.Nothing = names_none K replies.Nothing refl

found_names : (K : ℕ → Type 0) (o : Option ℕ) → NamesOf K (found_image o)
found_names K None = names_none K replies.Nothing refl
found_names K (Some i) = names_none K (replies.Image i) refl

default_names : (K : ℕ → Type 0) (files : Files) (n : List ℕ) (o : Option ℕ) → ((a : ℕ) → o ≡ Some a → K a) → NamesOf K (default_for files n o)
default_names K files n None known = found_names K (first_image files n)
default_names K files n (Some a) known = names_one K (replies.Foreign a) a refl (known a refl)

pub ask_names : (K : ℕ → Type 0) (files : Files) (journal : List Entry) (step : AskStep) (c : ℕ) (n : List ℕ) →
    ((d : ℕ) (a : ℕ) → binding journal d n ≡ Some a → K a) → NamesOf K (reply_to_ask files journal step c n)
ask_names K files journal steps.Load c n known =
    last-each (NamesOf K) (given_by journal n) (last_or None (rules_for journal steps.Load c n)) (names_none K replies.Nothing refl) (given_names K journal n known)
ask_names K files journal steps.Default c n known = default_names K files n (binding journal 0 n) (known 0)
ask_names K files journal steps.Resolving c n known =
    found-each (NamesOf K) (given_by journal n) (rules_for journal steps.Resolving c n) (names_none K replies.Nothing refl) (given_names K journal n known)
ask_names K files journal steps.Resolve c n known =
    found-each (NamesOf K) (given_by journal n) (rules_for journal steps.Resolve c n) (names_none K replies.Nothing refl) (given_names K journal n known)

publish_names : (K : ℕ → Type 0) (journal : List Entry) (c : ℕ) (candidate : Candidate) (o : Option ℕ) →
    ((a : ℕ) → o ≡ Some a → K a) → ((b : ℕ) → candidate ≡ candidates.Assembly b → K b) →
    ((a : ℕ) → bound_assembly (reply_to_publish journal c candidate o) ≡ Some a → K a) → NamesOf K (reply_to_publish journal c candidate o)
publish_names K journal c candidate (Some a) known told bound = names_one K (replies.Lost a) a refl (known a refl)
publish_names K journal c (candidates.Image image) None known told bound =
    names_one K (replies.Bound (bound_count journal + 1)) (bound_count journal + 1) refl (bound (bound_count journal + 1) refl)
publish_names K journal c (candidates.Assembly b) None known told bound =
    at (is_of_collectible journal b && not (is_collectible journal c))
  where
    at : (kept_out : Bool) → NamesOf K (cond kept_out (replies.NotCollectible b) (replies.Shared b))
    at true = names_one K (replies.NotCollectible b) b refl (told b refl)
    at false = names_one K (replies.Shared b) b refl (told b refl)

replies_to_all : (Q : Reply → Type 0) (thread : ℕ) (journal : List Entry) → AllByRecursion (λ e. Q e.reply) journal →
    AllByRecursion Q (replies_to thread journal)
replies_to_all Q thread journal h =
    all.All-map Q (λ e. e.reply) (filter (λ e. eqb e.thread thread) journal) (all.all_kept_by (λ e. eqb e.thread thread) (λ e. Q e.reply) journal h)

-- what holds of each reply holds of those of an operation
pub replies_since_all : (Q : Reply → Type 0) (k : ℕ) (journal : List Entry) → AllByRecursion (λ e. Q e.reply) journal →
    AllByRecursion Q (replies_since k journal)
replies_since_all Q k [] h = h
replies_since_all Q k (e ∷ es) h = at (is_number k (begun_operation e.reply)) (replies_since_all Q k es h.1) (replies_to_all Q e.thread es h.1)
  where
    at : (b : Bool) → AllByRecursion Q (replies_since k es) → AllByRecursion Q (replies_to e.thread es) →
        AllByRecursion Q (cond b (e.reply ∷ replies_to e.thread es) (replies_since k es))
    at true later mine = (h.0, mine)
    at false later mine = later

-- a candidate that fits is the platform, or a reply names it
told_named : (K : ℕ → Type 0) (journal : List Entry) (thread : ℕ) → K 0 → AllByRecursion (λ e. NamesOf K e.reply) journal →
    (candidate : Candidate) → IsToldCandidate journal thread candidate → (b : ℕ) → candidate ≡ candidates.Assembly b → K b
told_named K journal thread platform named (candidates.Image image) told b is = cc is
told_named K journal thread platform named (candidates.Assembly a) (k, within, has) b is = let same : a ≡ b = cc is in subst K same (at has)
  where
    at : Contains (0 ∷ filter_map assembly_in (replies_since k journal)) a → K a
    at (zero, within, is) = subst K is platform
    at (suc i, within, is) =
        let p = parts_given assembly_in (replies_since k journal) a (i, omega arith, is) in
        all_at (NamesOf K) p.before p.here p.after
        (subst (AllByRecursion (NamesOf K)) p.parted (replies_since_all (NamesOf K) k journal named)) a p.holds

-- the reply to an event names what the replies before it name, or what it makes
reply_names : (K : ℕ → Type 0) (files : Files) (journal : List Entry) (thread : ℕ) (event : Event) (reply : Reply) →
    K 0 → AllByRecursion (λ e. NamesOf K e.reply) journal → ((a : ℕ) → bound_assembly reply ≡ Some a → K a) →
    Fits journal thread event → IsReply files journal event reply → NamesOf K reply
reply_names K files journal thread (events.New name kind) reply platform named bound fits is =
    names_none K reply (command-quiet files journal (events.New name kind) reply refl is).names
reply_names K files journal thread (events.Rule place name answer) reply platform named bound fits is =
    names_none K reply (command-quiet files journal (events.Rule place name answer) reply refl is).names
reply_names K files journal thread (events.Enter name) reply platform named bound fits is =
    names_none K reply (ap assembly_in is ∙ enter-each (λ r. assembly_in r ≡ None) journal (name_means journal name) refl (λ c. refl) (λ c. refl))
reply_names K files journal thread (events.EnterHandle handle) reply platform named bound fits is = absurd is
reply_names K files journal thread (events.Lookup context name version) reply platform named bound fits is =
    subst (NamesOf K) (sym is)
    (lookup_names K files journal version (binding journal context name) (bound_named K journal platform named context name))
reply_names K files journal thread (events.Ask step context name) reply platform named bound fits is =
    subst (NamesOf K) (sym is) (ask_names K files journal step context name (λ d. bound_named K journal platform named d name))
reply_names K files journal thread (events.Publish context name candidate) reply platform named bound fits is =
    subst (NamesOf K) (sym is)
    (publish_names K journal context candidate (binding journal context name) (bound_named K journal platform named context name)
    (told_named K journal thread platform named candidate fits.1)
    (λ a made_it. bound a (ap bound_assembly is ∙ made_it)))
reply_names K files journal thread (events.Place user key) reply platform named bound fits is = absurd is
reply_names K files journal thread (events.LoadStatic key field kind) reply platform named bound fits is = absurd is
reply_names K files journal thread (events.StoreStatic key field value) reply platform named bound fits is = absurd is
reply_names K files journal thread (events.Hold handle assembly method) reply platform named bound fits is = absurd is
reply_names K files journal thread (events.DropHandle handle) reply platform named bound fits is = absurd is
reply_names K files journal thread (events.Weak handle name) reply platform named bound fits is =
    names_none K reply (command-quiet files journal (events.Weak handle name) reply refl is).names
reply_names K files journal thread (events.Alive handle) reply platform named bound fits is =
    names_none K reply (command-quiet files journal (events.Alive handle) reply refl is).names
reply_names K files journal thread (events.Unload name) reply platform named bound fits is =
    names_none K reply (command-quiet files journal (events.Unload name) reply refl is).names
reply_names K files journal thread events.Collect reply platform named bound fits is =
    names_none K reply (command-quiet files journal events.Collect reply refl is).names
reply_names K files journal thread (events.Leave operation) reply platform named bound fits is = names_none K reply (ap assembly_in is)

-- each assembly that a reply of a proper journal names is known
pub named_known : (files : Files) (journal : List Entry) → IsProper files journal →
    AllByRecursion (λ e. NamesOf (IsKnown journal) e.reply) journal
named_known files journal =
    each_push (λ (j : List Entry). IsProper files j → AllByRecursion (λ e. NamesOf (IsKnown j) e.reply) j) (λ proper. tt)
    (λ j e before proper.
    let earlier : AllByRecursion (λ x. NamesOf (IsKnown (j ++ e ∷ [])) x.reply) j =
    all.All-weaker (λ x. NamesOf (IsKnown j) x.reply) (λ x. NamesOf (IsKnown (j ++ e ∷ [])) x.reply)
    (λ x names a is. known-later j (e ∷ []) a (names a is)) j (before (IsProper-prefix files j (e ∷ []) proper)) in
    all.All-append (λ x. NamesOf (IsKnown (j ++ e ∷ [])) x.reply) j (e ∷ []) earlier (
      reply_names (IsKnown (j ++ e ∷ [])) files j e.thread e.event e.reply (inl refl) earlier
          (λ a bound.
          let m = made files j e.event e.reply a (proper.legal j e [] refl) bound in
          inr (record { image = m.image; context = m.context }, assembly_of-made files j e a proper.legal bound ∙ code_made-published m))
          (proper.fits j e [] refl) (proper.legal j e [] refl),
      tt,
    ))
    journal

-- An assembly that a reply names is the platform, or was made by then.
pub named_are_made_each : NamedAreMade
named_are_made_each files journal before entry after a proper parted is =
    let here : IsProper files (before ++ entry ∷ []) =
    IsProper-prefix files (before ++ entry ∷ []) after (subst (IsProper files) (parted ∙ sym (append_assoc before (entry ∷ []) after)) proper) in
    all_at (λ e. NamesOf (IsKnown (before ++ entry ∷ [])) e.reply) before entry [] (named_known files (before ++ entry ∷ []) here) a is
