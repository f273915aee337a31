-- What a reply tells of assemblies and operations, by the event that it is a reply to.
use Rattle.std.proofs.Common.{◌≡◌, ℕ, ◌+◌, Bool, true, false, not, ◌&&◌, cond, List, Option, Some, None, refl, sym, ap, subst, ◌∙◌}
use Rattle.host_events.specs.declared.event.Candidate.{Candidate}
use Rattle.host_events.specs.declared.event.Candidate.TheVariants as candidates
use Rattle.host_events.specs.declared.event.Event.{Event}
use Rattle.host_events.specs.declared.event.Event.TheVariants as events
use Rattle.host_events.specs.declared.reply.Reply.{Reply}
use Rattle.host_events.specs.declared.reply.Reply.TheVariants as replies
use Rattle.host_events.specs.declared.journal.Entry.{Entry}
use Rattle.host_events.specs.Assemblies.{assembly_in, bound_assembly, bound_count}
use Rattle.host_events.specs.Bindings.{binding}
use Rattle.host_events.specs.Contexts.{is_collectible, named}
use Rattle.host_events.specs.Files.{Files}
use Rattle.host_events.specs.Handles.{weakly}
use Rattle.host_events.specs.Operations.{begun_count, begun_operation, is_command}
use Rattle.host_events.specs.Reply.{IsReply, is_of_collectible, reply_to_publish}
use Rattle.host_events.proofs.Cases.{alive-each, ask-each, enter-each, lookup-each, new-each, publish-each, rule-each, unload-each, weak-each}

-- the reply tells of no assembly and of no operation
pub record IsQuiet (reply : Reply) : Type 0 where
  pub bound : bound_assembly reply ≡ None
  pub names : assembly_in reply ≡ None
  pub begun : begun_operation reply ≡ None

-- the reply to what is a command by itself
pub command-quiet : (files : Files) (journal : List Entry) (event : Event) (reply : Reply) →
    is_command event ≡ true → IsReply files journal event reply → IsQuiet reply
command-quiet files journal (events.New name kind) reply command is =
    subst IsQuiet (sym is) (new-each IsQuiet journal (named journal name)
    (record { bound = refl; names = refl; begun = refl }) (λ c. record { bound = refl; names = refl; begun = refl }))
command-quiet files journal (events.Rule place name answer) reply command is =
    subst IsQuiet (sym is) (rule-each IsQuiet journal place (record { bound = refl; names = refl; begun = refl })
    (λ c. record { bound = refl; names = refl; begun = refl }) (λ c. record { bound = refl; names = refl; begun = refl }))
command-quiet files journal (events.Enter name) reply command is = cc
command-quiet files journal (events.EnterHandle handle) reply command is = absurd is
command-quiet files journal (events.Lookup context name version) reply command is = cc
command-quiet files journal (events.Ask step context name) reply command is = cc
command-quiet files journal (events.Publish context name candidate) reply command is = cc
command-quiet files journal (events.Place user key) reply command is = absurd is
command-quiet files journal (events.LoadStatic key field kind) reply command is = absurd is
command-quiet files journal (events.StoreStatic key field value) reply command is = absurd is
command-quiet files journal (events.Hold handle assembly method) reply command is = absurd is
command-quiet files journal (events.DropHandle handle) reply command is = absurd is
command-quiet files journal (events.Weak handle name) reply command is =
    subst IsQuiet (sym is) (weak-each IsQuiet (weakly journal handle) (named journal name) (record { bound = refl; names = refl; begun = refl })
    (record { bound = refl; names = refl; begun = refl }) (λ c. record { bound = refl; names = refl; begun = refl }))
command-quiet files journal (events.Alive handle) reply command is =
    subst IsQuiet (sym is) (alive-each IsQuiet journal (weakly journal handle) (record { bound = refl; names = refl; begun = refl })
    (λ c. record { bound = refl; names = refl; begun = refl }) (λ c. record { bound = refl; names = refl; begun = refl }))
command-quiet files journal (events.Unload name) reply command is =
    subst IsQuiet (sym is) (unload-each IsQuiet journal (named journal name) (record { bound = refl; names = refl; begun = refl })
    (λ c. record { bound = refl; names = refl; begun = refl }) (λ c. record { bound = refl; names = refl; begun = refl })
    (λ c. record { bound = refl; names = refl; begun = refl }))
command-quiet files journal events.Collect reply command is =
    subst IsQuiet (sym is.2) (record { bound = refl; names = refl; begun = refl })
command-quiet files journal (events.Leave operation) reply command is = cc

-- an operation that a reply says was begun: an `Enter` began it, under the next number
pub record Begins (journal : List Entry) (event : Event) (reply : Reply) (k : ℕ) : Type 0 where
  pub name : List ℕ
  pub context : ℕ
  pub event_is : event ≡ events.Enter name
  pub reply_is : reply ≡ replies.Entered k context
  pub number_is : k ≡ begun_count journal + 1

entered : (journal : List Entry) (name : List ℕ) (c n k : ℕ) → n ≡ begun_count journal + 1 → ◌≡◌ {A = Option ℕ} (Some n) (Some k) →
    Begins journal (events.Enter name) (replies.Entered n c) k
entered journal name c n k is begun = let same : n ≡ k = cc begun in record {
  name = name;
  context = c;
  event_is = refl;
  reply_is = ap (λ m. replies.Entered m c) same;
  number_is = sym same ∙ is;
}

pub begins : (files : Files) (journal : List Entry) (event : Event) (reply : Reply) (k : ℕ) →
    IsReply files journal event reply → begun_operation reply ≡ Some k → Begins journal event reply k
begins files journal (events.New name kind) reply k is begun = cc (begun, (command-quiet files journal (events.New name kind) reply refl is).begun)
begins files journal (events.Rule place name answer) reply k is begun =
    cc (begun, (command-quiet files journal (events.Rule place name answer) reply refl is).begun)
begins files journal (events.Enter name) reply k is begun =
    subst (λ (r : Reply). begun_operation r ≡ Some k → Begins journal (events.Enter name) r k) (sym is)
    (enter-each (λ r. begun_operation r ≡ Some k → Begins journal (events.Enter name) r k) journal (named journal name)
    (λ e. cc e) (λ c e. cc e) (λ c e. entered journal name c (begun_count journal + 1) k refl e))
    begun
begins files journal (events.EnterHandle handle) reply k is begun = absurd is
begins files journal (events.Lookup context name version) reply k is begun =
    cc (begun, ap begun_operation is, lookup-each (λ r. begun_operation r ≡ None) files journal version (binding journal context name) refl (λ a. refl) (λ a. refl))
begins files journal (events.Ask step context name) reply k is begun =
    cc (begun, ap begun_operation is, ask-each (λ r. begun_operation r ≡ None) files journal step context name refl (λ i. refl) (λ a. refl))
begins files journal (events.Publish context name candidate) reply k is begun =
    cc (begun, ap begun_operation is, publish-each (λ r. begun_operation r ≡ None) journal context candidate (binding journal context name) (λ a. refl) (λ a. refl) (λ a. refl) refl)
begins files journal (events.Place user key) reply k is begun = absurd is
begins files journal (events.LoadStatic key field kind) reply k is begun = absurd is
begins files journal (events.StoreStatic key field value) reply k is begun = absurd is
begins files journal (events.Hold handle assembly method) reply k is begun = absurd is
begins files journal (events.DropHandle handle) reply k is begun = absurd is
begins files journal (events.Weak handle name) reply k is begun =
    cc (begun, (command-quiet files journal (events.Weak handle name) reply refl is).begun)
begins files journal (events.Alive handle) reply k is begun = cc (begun, (command-quiet files journal (events.Alive handle) reply refl is).begun)
begins files journal (events.Unload name) reply k is begun = cc (begun, (command-quiet files journal (events.Unload name) reply refl is).begun)
begins files journal events.Collect reply k is begun = cc (begun, (command-quiet files journal events.Collect reply refl is).begun)
begins files journal (events.Leave operation) reply k is begun = cc (begun, ap begun_operation is)

-- an assembly that a reply says was made: a `Publish` made it of an image, under the next number
pub record Makes (journal : List Entry) (event : Event) (reply : Reply) (a : ℕ) : Type 0 where
  pub context : ℕ
  pub name : List ℕ
  pub image : ℕ
  pub event_is : event ≡ events.Publish context name (candidates.Image image)
  pub reply_is : reply ≡ replies.Bound a
  pub number_is : a ≡ bound_count journal + 1

published : (journal : List Entry) (c : ℕ) (n : List ℕ) (candidate : Candidate) (o : Option ℕ) (a : ℕ) →
    bound_assembly (reply_to_publish journal c candidate o) ≡ Some a →
    Makes journal (events.Publish c n candidate) (reply_to_publish journal c candidate o) a
published journal c n candidate (Some b) a h = cc h
published journal c n (candidates.Image image) None a h = let same : bound_count journal + 1 ≡ a = cc h in record {
  context = c;
  name = n;
  image = image;
  event_is = refl;
  reply_is = ap (λ m. replies.Bound m) same;
  number_is = sym same;
}
published journal c n (candidates.Assembly b) None a h = at (is_of_collectible journal b && not (is_collectible journal c)) h
  where
    at : (kept_out : Bool) → bound_assembly (cond kept_out (replies.NotCollectible b) (replies.Shared b)) ≡ Some a →
        Makes journal (events.Publish c n (candidates.Assembly b)) (cond kept_out (replies.NotCollectible b) (replies.Shared b)) a
    at true e = cc e
    at false e = cc e

pub made : (files : Files) (journal : List Entry) (event : Event) (reply : Reply) (a : ℕ) →
    IsReply files journal event reply → bound_assembly reply ≡ Some a → Makes journal event reply a
made files journal (events.New name kind) reply a is bound = cc (bound, (command-quiet files journal (events.New name kind) reply refl is).bound)
made files journal (events.Rule place name answer) reply a is bound =
    cc (bound, (command-quiet files journal (events.Rule place name answer) reply refl is).bound)
made files journal (events.Enter name) reply a is bound =
    cc (bound, ap bound_assembly is, enter-each (λ r. bound_assembly r ≡ None) journal (named journal name) refl (λ c. refl) (λ c. refl))
made files journal (events.EnterHandle handle) reply a is bound = absurd is
made files journal (events.Lookup context name version) reply a is bound =
    cc (bound, ap bound_assembly is, lookup-each (λ r. bound_assembly r ≡ None) files journal version (binding journal context name) refl (λ a. refl) (λ a. refl))
made files journal (events.Ask step context name) reply a is bound =
    cc (bound, ap bound_assembly is, ask-each (λ r. bound_assembly r ≡ None) files journal step context name refl (λ i. refl) (λ a. refl))
made files journal (events.Publish context name candidate) reply a is bound =
    subst (λ (r : Reply). bound_assembly r ≡ Some a → Makes journal (events.Publish context name candidate) r a) (sym is)
    (published journal context name candidate (binding journal context name) a)
    bound
made files journal (events.Place user key) reply a is bound = absurd is
made files journal (events.LoadStatic key field kind) reply a is bound = absurd is
made files journal (events.StoreStatic key field value) reply a is bound = absurd is
made files journal (events.Hold handle assembly method) reply a is bound = absurd is
made files journal (events.DropHandle handle) reply a is bound = absurd is
made files journal (events.Weak handle name) reply a is bound =
    cc (bound, (command-quiet files journal (events.Weak handle name) reply refl is).bound)
made files journal (events.Alive handle) reply a is bound = cc (bound, (command-quiet files journal (events.Alive handle) reply refl is).bound)
made files journal (events.Unload name) reply a is bound = cc (bound, (command-quiet files journal (events.Unload name) reply refl is).bound)
made files journal events.Collect reply a is bound = cc (bound, (command-quiet files journal events.Collect reply refl is).bound)
made files journal (events.Leave operation) reply a is bound = cc (bound, ap bound_assembly is)
