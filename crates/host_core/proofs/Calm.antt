-- Where contexts are collected, no operation begins and no context refers to another.
use Rattle.std.proofs.Common.{◌≡◌, ℕ, Bool, true, false, not, cond, eqb, List, [], ◌∷◌, ◌++◌, Some, None, refl, sym, ap, subst, ◌∙◌, append_assoc, true≢false}
use Rattle.std.specs.Prelude.{is_some}
use Rattle.std.specs.List.{cons_option, filter, filter_map, list_all, list_any}
use Rattle.std.proofs.lemmas.Bool.{and_parts}
use Rattle.host_events.specs.declared.event.Event.{Event}
use Rattle.host_events.specs.declared.event.Event.TheVariants as events
use Rattle.host_events.specs.declared.journal.Entry.{Entry}
use Rattle.host_events.specs.declared.reply.Reply.{Reply}
use Rattle.host_events.specs.Bindings.{binding}
use Rattle.host_events.specs.Contexts.{is_number, named}
use Rattle.host_events.specs.Files.{Files}
use Rattle.host_events.specs.Handles.{weakly}
use Rattle.host_events.specs.Journal.{Fits, IsLegal, IsProper}
use Rattle.host_events.specs.Operations.{IsOpen, IsWithin, begun_operation, ends, open_operations}
use Rattle.host_events.specs.Reachable.{IsEdge, makes_edge}
use Rattle.host_events.specs.Reply.{IsReply}
use Rattle.host_events.proofs.Cases.{alive-each, ask-each, lookup-each, new-each, publish-each, rule-each, unload-each, weak-each}
use Rattle.host_events.proofs.Numbers.{is_number-some, list_any-parts}
use Rattle.host_core.specs.Allowed.{keeps_to}

begun_none : (files : Files) (journal : List Entry) (event : Event) (reply : Reply) → IsReply files journal event reply → keeps_to true event ≡ true →
    begun_operation reply ≡ None
begun_none files journal (events.New name kind) reply is keeps = ap begun_operation is ∙ new-each (λ r. begun_operation r ≡ None) journal (named journal name) refl (λ c. refl)
begun_none files journal (events.Rule place name answer) reply is keeps = ap begun_operation is ∙ rule-each (λ r. begun_operation r ≡ None) journal place refl (λ c. refl) (λ c. refl)
begun_none files journal (events.Enter name) reply is keeps = cc
begun_none files journal (events.EnterHandle handle) reply is keeps = absurd is
begun_none files journal (events.Lookup context name version) reply is keeps = ap begun_operation is ∙ lookup-each (λ r. begun_operation r ≡ None) files journal version (binding journal context name) refl (λ a. refl) (λ a. refl)
begun_none files journal (events.Ask step context name) reply is keeps = ap begun_operation is ∙ ask-each (λ r. begun_operation r ≡ None) files journal step context name refl (λ i. refl) (λ a. refl)
begun_none files journal (events.Publish context name candidate) reply is keeps = ap begun_operation is ∙ publish-each (λ r. begun_operation r ≡ None) journal context candidate (binding journal context name) (λ a. refl) (λ a. refl) (λ a. refl) refl
begun_none files journal (events.Place user key) reply is keeps = absurd is
begun_none files journal (events.LoadStatic key field kind) reply is keeps = absurd is
begun_none files journal (events.StoreStatic key field value) reply is keeps = absurd is
begun_none files journal (events.Hold handle assembly method) reply is keeps = absurd is
begun_none files journal (events.DropHandle handle) reply is keeps = absurd is
begun_none files journal (events.Weak handle name) reply is keeps = ap begun_operation is ∙ weak-each (λ r. begun_operation r ≡ None) (weakly journal handle) (named journal name) refl refl (λ c. refl)
begun_none files journal (events.Alive handle) reply is keeps = ap begun_operation is ∙ alive-each (λ r. begun_operation r ≡ None) journal (weakly journal handle) refl (λ c. refl) (λ c. refl)
begun_none files journal (events.Unload name) reply is keeps = ap begun_operation is ∙ unload-each (λ r. begun_operation r ≡ None) journal (named journal name) refl (λ c. refl) (λ c. refl) (λ c. refl)
begun_none files journal events.Collect reply is keeps = ap begun_operation is.2
begun_none files journal (events.Leave operation) reply is keeps = ap begun_operation is

pub all_at : {X : Type 0} (p : X → Bool) (before : List X) (x : X) (after : List X) → list_all p (before ++ x ∷ after) ≡ true → p x ≡ true
all_at p [] x after all = (and_parts (p x) (list_all p after) all).0
all_at p (y ∷ ys) x after all = all_at p ys x after (and_parts (p y) (list_all p (ys ++ x ∷ after)) all).1

-- no entry begins an operation
abbrev pub BeginsNone : List Entry → Type 0
BeginsNone journal = (before : List Entry) (entry : Entry) (after : List Entry) → journal ≡ before ++ entry ∷ after → begun_operation entry.reply ≡ None

pub begins_none : (files : Files) (journal : List Entry) → IsLegal files journal → list_all (λ e. keeps_to true e.event) journal ≡ true → BeginsNone journal
begins_none files journal legal kind before entry after is =
    begun_none files before entry.event entry.reply (legal before entry after is)
    (all_at (λ (e : Entry). keeps_to true e.event) before entry after (subst (λ (j : List Entry). list_all (λ e. keeps_to true e.event) j ≡ true) is kind))

pub none_open : (files : Files) (journal : List Entry) → IsLegal files journal → list_all (λ e. keeps_to true e.event) journal ≡ true →
    (k : ℕ) → IsOpen journal k → ⊥
none_open files journal legal kind k is_open =
    let begun = (and_parts (list_any (λ (e : Entry). is_number k (begun_operation e.reply)) journal) (not (list_any (λ (e : Entry). ends k e.event) journal)) is_open).0 in
    let parts = list_any-parts (λ (e : Entry). is_number k (begun_operation e.reply)) journal begun in
    let none : begun_operation parts.1.reply ≡ None = begins_none files journal legal kind parts.0 parts.1 parts.2 parts.3 in
    let some : begun_operation parts.1.reply ≡ Some k = is_number-some k (begun_operation parts.1.reply) parts.4 in
    true≢false (ap is_some (sym some ∙ none))

-- what a thread began of the entries
begun_of : (thread : ℕ) (before entries : List Entry) (rest : List Entry) (journal : List Entry) → BeginsNone journal → journal ≡ before ++ (entries ++ rest) →
    filter_map (λ e. cond (eqb e.thread thread) (begun_operation e.reply) None) entries ≡ []
begun_of thread before [] rest journal none is = refl
begun_of thread before (e ∷ es) rest journal none is =
    at (eqb e.thread thread) (none before e (es ++ rest) is) (begun_of thread (before ++ e ∷ []) es rest journal none (is ∙ sym (append_assoc before (e ∷ []) (es ++ rest))))
  where
    at : (b : Bool) → begun_operation e.reply ≡ None → filter_map (λ x. cond (eqb x.thread thread) (begun_operation x.reply) None) es ≡ [] →
        cons_option (cond b (begun_operation e.reply) None) (filter_map (λ x. cond (eqb x.thread thread) (begun_operation x.reply) None) es) ≡ []
    at true here later = ap (λ o. cons_option o (filter_map (λ x. cond (eqb x.thread thread) (begun_operation x.reply) None) es)) here ∙ later
    at false here later = later

pub none_within : (journal before rest : List Entry) (thread k : ℕ) → BeginsNone journal → journal ≡ before ++ rest → IsWithin before thread k → ⊥
none_within journal before rest thread k none is within =
    let empty = begun_of thread [] before rest journal none is in
    let none_left : open_operations before thread ≡ [] = ap (filter (λ j. not (list_any (λ e. ends j e.event) before))) empty in
    cc (none_left, within)

publishes_none : (journal before : List Entry) (entry : Entry) (after : List Entry) (x y : ℕ) (event : Event) → BeginsNone journal → journal ≡ before ++ entry ∷ after →
    Fits before entry.thread event → makes_edge journal x y event entry.reply ≡ true → ⊥
publishes_none journal before entry after x y (events.New name kind) none is fits makes = cc
publishes_none journal before entry after x y (events.Rule place name answer) none is fits makes = cc
publishes_none journal before entry after x y (events.Enter name) none is fits makes = cc
publishes_none journal before entry after x y (events.EnterHandle handle) none is fits makes = cc
publishes_none journal before entry after x y (events.Lookup context name version) none is fits makes = cc
publishes_none journal before entry after x y (events.Ask step context name) none is fits makes = cc
publishes_none journal before entry after x y (events.Publish context name candidate) none is fits makes = none_within journal before (entry ∷ after) entry.thread fits.0.0 none is fits.0.1
publishes_none journal before entry after x y (events.Place user key) none is fits makes = cc
publishes_none journal before entry after x y (events.LoadStatic key field kind) none is fits makes = cc
publishes_none journal before entry after x y (events.StoreStatic key field value) none is fits makes = cc
publishes_none journal before entry after x y (events.Hold handle assembly method) none is fits makes = cc
publishes_none journal before entry after x y (events.DropHandle handle) none is fits makes = cc
publishes_none journal before entry after x y (events.Weak handle name) none is fits makes = cc
publishes_none journal before entry after x y (events.Alive handle) none is fits makes = cc
publishes_none journal before entry after x y (events.Unload name) none is fits makes = cc
publishes_none journal before entry after x y events.Collect none is fits makes = cc
publishes_none journal before entry after x y (events.Leave operation) none is fits makes = cc

pub none_edge : (files : Files) (journal : List Entry) → IsProper files journal → list_all (λ e. keeps_to true e.event) journal ≡ true →
    (x y : ℕ) → IsEdge journal x y → ⊥
none_edge files journal proper kind x y edge =
    let parts = list_any-parts (λ (e : Entry). makes_edge journal x y e.event e.reply) journal edge in
    publishes_none journal parts.0 parts.1 parts.2 x y parts.1.event (begins_none files journal proper.legal kind) parts.3
    (proper.fits parts.0 parts.1 parts.2 parts.3) parts.4
