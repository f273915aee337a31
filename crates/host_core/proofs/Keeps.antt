-- What one more entry leaves as it was in the host.
use Rattle.std.proofs.Common.{◌≡◌, ℕ, ◌+◌, ◌<◌, ◌≤◌, ◌^◌, Bool, true, false, ◌&&◌, eqb, cond, List, [], ◌∷◌, ◌++◌, length, refl, sym, ap, subst, ◌∙◌, inl, inr, arith}
use Rattle.std.specs.Option.{is_some}
use Rattle.std.specs.List.{AllByRecursion, filter, list_all}
use Rattle.std.specs.Prelude.{Option, Some, IsSome}
use Rattle.std.proofs.lemmas.Bool.{and_parts, cases_Bool, eqb-true}
use Rattle.std.proofs.lemmas.List.{length-append}
use Rattle.std.proofs.lemmas.List.Elements.{filter-append}
use Rattle.host_events.specs.declared.event.Event.{Event}
use Rattle.host_events.specs.declared.event.Event.TheVariants as events
use Rattle.host_events.specs.declared.reply.Reply.{Reply}
use Rattle.host_events.specs.declared.journal.Entry.{Entry}
use Rattle.host_events.specs.declared.order.Order.{Order}
use Rattle.host_events.specs.declared.order.Room.{Room}
use Rattle.host_events.specs.Bindings.{binding}
use Rattle.host_events.specs.Contexts.{freed_contexts, made_context, named}
use Rattle.host_events.specs.declared.event.Candidate.{Candidate}
use Rattle.host_events.specs.declared.event.Candidate.TheVariants as candidates
use Rattle.host_events.specs.declared.order.CodeOf.{CodeOf}
use Rattle.host_events.specs.Assemblies.{code_in, code_published}
use Rattle.host_events.specs.Files.{Files, version_of}
use Rattle.host_events.specs.Images.{IsOfImages}
use Rattle.host_events.specs.Handles.{weakly}
use Rattle.host_events.specs.Reply.{IsReply}
use Rattle.host_events.specs.Steps.{entry_of}
use Rattle.host_events.proofs.Cases.{alive-each, ask-each, enter-each, lookup-each, new-each, publish-each, rule-each, unload-each, weak-each}
use Rattle.host_events.proofs.Push.{IsProper-push}
use Rattle.host_core.specs.declared.bounds.Bounds.{Bounds}
use Rattle.host_core.specs.declared.bounds.Share.{Share}
use Rattle.host_core.specs.Accepted.{Brings, BringsCode, HasRoom, IsAccepted, MayMake}
use Rattle.host_events.specs.Rooms.{numbers_due}
use Rattle.host_core.specs.Allowed.{Fixed, IsAllowed, keeps_to, makes_context_by, makes_handle, makes_handle_by, sets_rule, sets_rule_by, used, used_events, used_contexts, used_handles, used_rules}
use Rattle.host_core.specs.Bounds.{part_of}
use Rattle.host_core.specs.Core.{Core}
use Rattle.host_core.specs.Replies.{CanRetell}
use Rattle.host_core.proofs.Shares.{events-le}
use Rattle.host_core.proofs.Used.{contexts-count, handles-count, rules-count}

-- fewer contexts ask for no more room
pub numbers_due-le : (n contexts : ℕ) (event : Event) → n ≤ contexts → numbers_due n event ≤ numbers_due contexts event
numbers_due-le n contexts (events.New name kind) few = omega arith
numbers_due-le n contexts (events.Rule place name answer) few = omega arith
numbers_due-le n contexts (events.Enter name) few = omega arith
numbers_due-le n contexts (events.EnterHandle handle) few = omega arith
numbers_due-le n contexts (events.Lookup context name version) few = omega arith
numbers_due-le n contexts (events.Ask step context name) few = omega arith
numbers_due-le n contexts (events.Publish context name candidate) few = omega arith
numbers_due-le n contexts (events.Place user key) few = omega arith
numbers_due-le n contexts (events.LoadStatic key field kind) few = omega arith
numbers_due-le n contexts (events.StoreStatic key field value) few = omega arith
numbers_due-le n contexts (events.Hold handle assembly method) few = omega arith
numbers_due-le n contexts (events.DropHandle handle) few = omega arith
numbers_due-le n contexts (events.Weak handle name) few = omega arith
numbers_due-le n contexts (events.Alive handle) few = omega arith
numbers_due-le n contexts (events.Unload name) few = omega arith
numbers_due-le n contexts events.Collect few = few
numbers_due-le n contexts (events.Leave operation) few = omega arith

pub CanRetell-from_room : (n contexts : ℕ) (files : Files) (journal : List Entry) (event : Event) (reply : Reply) (room : Room) →
    IsReply files journal event reply → length (freed_contexts reply) ≤ n → n ≤ contexts → HasRoom contexts event room →
    CanRetell reply room
CanRetell-from_room n contexts files journal (events.New name kind) reply room is few all has =
    subst (λ r. CanRetell r room) (sym is) (new-each (λ r. CanRetell r room) journal (named journal name) tt (λ c. tt))
CanRetell-from_room n contexts files journal (events.Rule place name answer) reply room is few all has =
    subst (λ r. CanRetell r room) (sym is) (rule-each (λ r. CanRetell r room) journal place tt (λ c. tt) (λ c. tt))
CanRetell-from_room n contexts files journal (events.Enter name) reply room is few all has =
    subst (λ r. CanRetell r room) (sym is) (enter-each (λ r. CanRetell r room) journal (named journal name) tt (λ c. tt) (λ c. tt))
CanRetell-from_room n contexts files journal (events.EnterHandle handle) reply room is few all has = absurd is
CanRetell-from_room n contexts files journal (events.Lookup context name version) reply room is few all has =
    subst (λ r. CanRetell r room) (sym is) (lookup-each (λ r. CanRetell r room) files journal version (binding journal context name) tt (λ a. tt) (λ a. tt))
CanRetell-from_room n contexts files journal (events.Ask step context name) reply room is few all has =
    subst (λ r. CanRetell r room) (sym is) (ask-each (λ r. CanRetell r room) files journal step context name tt (λ i. tt) (λ a. tt))
CanRetell-from_room n contexts files journal (events.Publish context name candidate) reply room is few all has =
    subst (λ r. CanRetell r room) (sym is) (publish-each (λ r. CanRetell r room) journal context candidate (binding journal context name) (λ a. tt) (λ a. tt) (λ a. tt) tt)
CanRetell-from_room n contexts files journal (events.Place user key) reply room is few all has = absurd is
CanRetell-from_room n contexts files journal (events.LoadStatic key field kind) reply room is few all has = absurd is
CanRetell-from_room n contexts files journal (events.StoreStatic key field value) reply room is few all has = absurd is
CanRetell-from_room n contexts files journal (events.Hold handle assembly method) reply room is few all has = absurd is
CanRetell-from_room n contexts files journal (events.DropHandle handle) reply room is few all has = absurd is
CanRetell-from_room n contexts files journal (events.Weak handle name) reply room is few all has =
    subst (λ r. CanRetell r room) (sym is) (weak-each (λ r. CanRetell r room) (weakly journal handle) (named journal name) tt tt (λ c. tt))
CanRetell-from_room n contexts files journal (events.Alive handle) reply room is few all has =
    subst (λ r. CanRetell r room) (sym is) (alive-each (λ r. CanRetell r room) journal (weakly journal handle) tt (λ c. tt) (λ c. tt))
CanRetell-from_room n contexts files journal (events.Unload name) reply room is few all has =
    subst (λ r. CanRetell r room) (sym is) (unload-each (λ r. CanRetell r room) journal (named journal name) tt (λ c. tt) (λ c. tt) (λ c. tt))
CanRetell-from_room n contexts files journal events.Collect reply room is few all has =
    subst (λ r. CanRetell r room) (sym is.2)
    (refl, has.0.0, omega (arith, has.1, ap (λ r. length (freed_contexts r)) is.2))
CanRetell-from_room n contexts files journal (events.Leave operation) reply room is few all has = subst (λ r. CanRetell r room) (sym is) tt

pub length-filter_push : {X : Type 0} (p : X → Bool) (xs : List X) (x : X) →
    length (filter p (xs ++ x ∷ [])) ≡ length (filter p xs) + cond (p x) 1 0
length-filter_push p xs x =
    ap length (filter-append p xs (x ∷ [])) ∙ length-append (filter p xs) (filter p (x ∷ [])) ∙ ap (λ n. length (filter p xs) + n) (one (p x))
  where
    one : (b : Bool) → length (cond b (x ∷ []) []) ≡ cond b 1 0
    one true = refl
    one false = refl

-- what an event can make it may make where the thread may ask for it
may_make_context : (bounds : Bounds) (journal : List Entry) (thread : ℕ) (event : Event) →
    makes_context_by event ≡ true → MayMake bounds journal thread event →
    used_contexts journal thread < part_of (λ share. share.contexts) bounds.shares thread
may_make_context bounds journal thread (events.New name kind) makes may = may
may_make_context bounds journal thread (events.Rule place name answer) makes may = cc
may_make_context bounds journal thread (events.Enter name) makes may = cc
may_make_context bounds journal thread (events.EnterHandle handle) makes may = cc
may_make_context bounds journal thread (events.Lookup context name version) makes may = cc
may_make_context bounds journal thread (events.Ask step context name) makes may = cc
may_make_context bounds journal thread (events.Publish context name candidate) makes may = cc
may_make_context bounds journal thread (events.Place user key) makes may = cc
may_make_context bounds journal thread (events.LoadStatic key field kind) makes may = cc
may_make_context bounds journal thread (events.StoreStatic key field value) makes may = cc
may_make_context bounds journal thread (events.Hold handle assembly method) makes may = cc
may_make_context bounds journal thread (events.DropHandle handle) makes may = cc
may_make_context bounds journal thread (events.Weak handle name) makes may = cc
may_make_context bounds journal thread (events.Alive handle) makes may = cc
may_make_context bounds journal thread (events.Unload name) makes may = cc
may_make_context bounds journal thread events.Collect makes may = cc
may_make_context bounds journal thread (events.Leave operation) makes may = cc

may_make_handle : (bounds : Bounds) (journal : List Entry) (thread : ℕ) (event : Event) →
    makes_handle_by event ≡ true → MayMake bounds journal thread event →
    used_handles journal thread < part_of (λ share. share.handles) bounds.shares thread
may_make_handle bounds journal thread (events.New name kind) makes may = cc
may_make_handle bounds journal thread (events.Rule place name answer) makes may = cc
may_make_handle bounds journal thread (events.Enter name) makes may = cc
may_make_handle bounds journal thread (events.EnterHandle handle) makes may = cc
may_make_handle bounds journal thread (events.Lookup context name version) makes may = cc
may_make_handle bounds journal thread (events.Ask step context name) makes may = cc
may_make_handle bounds journal thread (events.Publish context name candidate) makes may = cc
may_make_handle bounds journal thread (events.Place user key) makes may = cc
may_make_handle bounds journal thread (events.LoadStatic key field kind) makes may = cc
may_make_handle bounds journal thread (events.StoreStatic key field value) makes may = cc
may_make_handle bounds journal thread (events.Hold handle assembly method) makes may = may
may_make_handle bounds journal thread (events.DropHandle handle) makes may = cc
may_make_handle bounds journal thread (events.Weak handle name) makes may = may
may_make_handle bounds journal thread (events.Alive handle) makes may = cc
may_make_handle bounds journal thread (events.Unload name) makes may = cc
may_make_handle bounds journal thread events.Collect makes may = cc
may_make_handle bounds journal thread (events.Leave operation) makes may = cc

may_set_rule : (bounds : Bounds) (journal : List Entry) (thread : ℕ) (event : Event) →
    sets_rule_by event ≡ true → MayMake bounds journal thread event →
    used_rules journal thread < part_of (λ share. share.rules) bounds.shares thread
may_set_rule bounds journal thread (events.New name kind) makes may = cc
may_set_rule bounds journal thread (events.Rule place name answer) makes may = may
may_set_rule bounds journal thread (events.Enter name) makes may = cc
may_set_rule bounds journal thread (events.EnterHandle handle) makes may = cc
may_set_rule bounds journal thread (events.Lookup context name version) makes may = cc
may_set_rule bounds journal thread (events.Ask step context name) makes may = cc
may_set_rule bounds journal thread (events.Publish context name candidate) makes may = cc
may_set_rule bounds journal thread (events.Place user key) makes may = cc
may_set_rule bounds journal thread (events.LoadStatic key field kind) makes may = cc
may_set_rule bounds journal thread (events.StoreStatic key field value) makes may = cc
may_set_rule bounds journal thread (events.Hold handle assembly method) makes may = cc
may_set_rule bounds journal thread (events.DropHandle handle) makes may = cc
may_set_rule bounds journal thread (events.Weak handle name) makes may = cc
may_set_rule bounds journal thread (events.Alive handle) makes may = cc
may_set_rule bounds journal thread (events.Unload name) makes may = cc
may_set_rule bounds journal thread events.Collect makes may = cc
may_set_rule bounds journal thread (events.Leave operation) makes may = cc

-- what a thread used of something stays within its part where it may use more of it
used-push : (test : Reply → Bool) (part : Share → ℕ) (shares : List Share) (journal : List Entry) (thread : ℕ) (event : Event) (reply : Reply) →
    ((t : ℕ) → used test journal t ≤ part_of part shares t) → (test reply ≡ true → used test journal thread < part_of part shares thread) →
    (t : ℕ) → used test (journal ++ entry_of thread event reply ∷ []) t ≤ part_of part shares t
used-push test part shares journal thread event reply within may t =
    let more = length-filter_push (λ e. eqb e.thread t && test e.reply) journal (entry_of thread event reply) in
    elim (cases_Bool (eqb thread t && test reply)) [
      | inl both ↦
          let parts = and_parts (eqb thread t) (test reply) both in
          let same : thread ≡ t = eqb-true thread t parts.0 in
          let left = subst (λ k. used test journal k < part_of part shares k) same (may parts.1) in
          omega (arith, more, left, ap (λ b. cond {A = ℕ} b 1 0) both)
      | inr other ↦ omega (arith, more, within t, ap (λ b. cond {A = ℕ} b 1 0) other)
    ]

used_events-push : (shares : List Share) (journal : List Entry) (thread : ℕ) (event : Event) (reply : Reply) →
    ((t : ℕ) → used_events journal t ≤ part_of (λ share. share.events) shares t) →
    used_events journal thread < part_of (λ share. share.events) shares thread →
    (t : ℕ) → used_events (journal ++ entry_of thread event reply ∷ []) t ≤ part_of (λ share. share.events) shares t
used_events-push shares journal thread event reply within fewer t =
    let more = length-filter_push (λ e. eqb e.thread t) journal (entry_of thread event reply) in
    elim (cases_Bool (eqb thread t)) [
      | inl own ↦
          let same : thread ≡ t = eqb-true thread t own in
          let left = subst (λ k. used_events journal k < part_of (λ share. share.events) shares k) same fewer in
          omega (arith, more, left, ap (λ b. cond {A = ℕ} b 1 0) own)
      | inr other ↦ omega (arith, more, within t, ap (λ b. cond {A = ℕ} b 1 0) other)
    ]

-- all entries are within the bounds, one more included
pub length-le : {C : Type 0} (image : C → ℕ) (fixed : Fixed) (journal : List Entry) (thread : ℕ) (order : Order C) (reply : Reply) →
    IsAllowed fixed journal → IsAccepted image fixed journal thread order →
    length (journal ++ entry_of thread order.event reply ∷ []) ≤ fixed.bounds.events
length-le image fixed journal thread order reply allowed accepted =
    omega (
      arith,
      events-le fixed.bounds.shares (journal ++ entry_of thread order.event reply ∷ [])
          (used_events-push fixed.bounds.shares journal thread order.event reply allowed.events accepted.events),
      ap (λ b. b.events) allowed.made_up,
    )

all-push : {X : Type 0} (P : X → Type 0) (xs : List X) (x : X) → AllByRecursion P xs → P x → AllByRecursion P (xs ++ x ∷ [])
all-push P [] x all new = (new, tt)
all-push P (y ∷ ys) x all new = (all.0, all-push P ys x all.1 new)

list_all-push : {X : Type 0} (p : X → Bool) (xs : List X) (x : X) → list_all p xs ≡ true → p x ≡ true → list_all p (xs ++ x ∷ []) ≡ true
list_all-push p [] x all new = ap (λ b. b && true) new
list_all-push p (y ∷ ys) x all new =
    let parts = and_parts (p y) (list_all p ys) all in
    let rest : list_all p (ys ++ x ∷ []) ≡ true = list_all-push p ys x parts.1 new in
    cc (parts.0, rest)

-- the image that an order publishes has a version
version_brought : {C : Type 0} (image : C → ℕ) (files : Files) (context : ℕ) (candidate : Candidate) (brought : Option C) (code : CodeOf) →
    BringsCode image files candidate brought → code_in context candidate ≡ Some code → IsSome (version_of files code.image)
version_brought image files context (candidates.Image i) brought code brings is =
    let same : record { image = i; context = context } ≡ code = cc in
    subst (λ (k : CodeOf). IsSome (version_of files k.image)) same brings.0
version_brought image files context (candidates.Assembly a) brought code brings is = cc

version_of_order : {C : Type 0} (image : C → ℕ) (files : Files) (event : Event) (brought : Option C) (code : CodeOf) →
    Brings image files event brought → code_published event ≡ Some code → IsSome (version_of files code.image)
version_of_order image files (events.New name kind) brought code brings is = cc
version_of_order image files (events.Rule place name answer) brought code brings is = cc
version_of_order image files (events.Enter name) brought code brings is = cc
version_of_order image files (events.EnterHandle handle) brought code brings is = cc
version_of_order image files (events.Lookup context name version) brought code brings is = cc
version_of_order image files (events.Ask step context name) brought code brings is = cc
version_of_order image files (events.Publish context name candidate) brought code brings is = version_brought image files context candidate brought code brings is
version_of_order image files (events.Place user key) brought code brings is = cc
version_of_order image files (events.LoadStatic key field kind) brought code brings is = cc
version_of_order image files (events.StoreStatic key field value) brought code brings is = cc
version_of_order image files (events.Hold handle assembly method) brought code brings is = cc
version_of_order image files (events.DropHandle handle) brought code brings is = cc
version_of_order image files (events.Weak handle name) brought code brings is = cc
version_of_order image files (events.Alive handle) brought code brings is = cc
version_of_order image files (events.Unload name) brought code brings is = cc
version_of_order image files events.Collect brought code brings is = cc
version_of_order image files (events.Leave operation) brought code brings is = cc

of_images : {C : Type 0} (image : C → ℕ) (fixed : Fixed) (journal : List Entry) (thread : ℕ) (order : Order C) (reply : Reply) → IsAccepted image fixed journal thread order →
    IsReply fixed.files journal order.event reply → IsOfImages fixed.files (entry_of thread order.event reply)
of_images image fixed journal thread order reply accepted is = record {
  ruled = accepted.ruled;
  bound = λ a code bound published. version_of_order image fixed.files order.event order.code code accepted.coded published;
}

pub IsAllowed-push : {C : Type 0} (image : C → ℕ) (fixed : Fixed) (journal : List Entry) (thread : ℕ) (order : Order C) (reply : Reply) →
    fixed.bounds.events < 2 ^ 32 → IsAllowed fixed journal → IsAccepted image fixed journal thread order →
    IsReply fixed.files journal order.event reply → IsAllowed fixed (journal ++ entry_of thread order.event reply ∷ [])
IsAllowed-push image fixed journal thread order reply short allowed accepted is =
    let shares = fixed.bounds.shares in
    let may = accepted.makes in
    record {
      images = record {
        numbered = allowed.images.numbered;
        each = all-push (IsOfImages fixed.files) journal (entry_of thread order.event reply) allowed.images.each (of_images image fixed journal thread order reply accepted is);
      };
      kind = list_all-push (λ (e : Entry). keeps_to fixed.collects e.event) journal (entry_of thread order.event reply) allowed.kind accepted.kind;
      proper = IsProper-push fixed.files journal (entry_of thread order.event reply) allowed.proper accepted.fits is;
      made_up = allowed.made_up;
      numbered = allowed.numbered;
      few = omega (arith, length-le image fixed journal thread order reply allowed accepted);
      events = used_events-push shares journal thread order.event reply allowed.events accepted.events;
      contexts = used-push (λ r. is_some (made_context r)) (λ share. share.contexts) shares journal thread order.event reply allowed.contexts
          (λ makes. may_make_context fixed.bounds journal thread order.event (contexts-count fixed.files journal order.event reply is makes) may);
      handles = used-push makes_handle (λ share. share.handles) shares journal thread order.event reply allowed.handles
          (λ makes. may_make_handle fixed.bounds journal thread order.event (handles-count fixed.files journal order.event reply is makes) may);
      rules = used-push sets_rule (λ share. share.rules) shares journal thread order.event reply allowed.rules
          (λ makes. may_set_rule fixed.bounds journal thread order.event (rules-count fixed.files journal order.event reply is makes) may);
    }

-- the condition of an order, at two spellings of the host
pub IsAccepted-same : {C : Type 0} {image : C → ℕ} {host now : Core} {thread : ℕ} {order : Order C} → host ≡ now →
    IsAccepted image now.fixed now.journal thread order → IsAccepted image host.fixed host.journal thread order
IsAccepted-same {C} {image} {host} {now} {thread} {order} same accepted =
    subst (λ (v : Core). IsAccepted image v.fixed v.journal thread order) (sym same) accepted
