-- Where operations begin, no context is freed.
use Rattle.std.proofs.Common.{◌≡◌, ℕ, Bool, true, false, not, ◌||◌, eqb, List, [], refl, sym, ap, subst, ◌∙◌, append-nil, true≢false}
use Rattle.std.specs.List.{list_all, list_any}
use Rattle.host_events.specs.declared.event.Candidate.{Candidate}
use Rattle.host_events.specs.declared.event.Event.{Event}
use Rattle.host_events.specs.declared.event.Event.TheVariants as events
use Rattle.host_events.specs.declared.journal.Entry.{Entry}
use Rattle.host_events.specs.declared.reply.Reply.{Reply}
use Rattle.host_events.specs.Bindings.{binding}
use Rattle.host_events.specs.Contexts.{freed_contexts, is_freed, is_live, named}
use Rattle.host_events.specs.Files.{Files}
use Rattle.host_events.specs.Handles.{weakly}
use Rattle.host_events.specs.Journal.{Fits, IsLegal}
use Rattle.host_events.specs.Reply.{IsReply}
use Rattle.host_events.proofs.Cases.{alive-each, ask-each, enter-each, lookup-each, new-each, publish-each, rule-each, unload-each, weak-each}
use Rattle.host_events.proofs.Numbers.{list_any-parts}
use Rattle.host_core.specs.Allowed.{keeps_to}
use Rattle.host_core.specs.Tables.{IsNotGone}
use Rattle.host_core.proofs.Calm.{all_at, begins_none, none_within}

pub freed_none : (files : Files) (journal : List Entry) (event : Event) (reply : Reply) → IsReply files journal event reply → keeps_to false event ≡ true →
    freed_contexts reply ≡ []
freed_none files journal (events.New name kind) reply is keeps = ap freed_contexts is ∙ new-each (λ r. freed_contexts r ≡ []) journal (named journal name) refl (λ c. refl)
freed_none files journal (events.Rule place name answer) reply is keeps = ap freed_contexts is ∙ rule-each (λ r. freed_contexts r ≡ []) journal place refl (λ c. refl) (λ c. refl)
freed_none files journal (events.Enter name) reply is keeps = ap freed_contexts is ∙ enter-each (λ r. freed_contexts r ≡ []) journal (named journal name) refl (λ c. refl) (λ c. refl)
freed_none files journal (events.EnterHandle handle) reply is keeps = absurd is
freed_none files journal (events.Lookup context name version) reply is keeps = ap freed_contexts is ∙ lookup-each (λ r. freed_contexts r ≡ []) files journal version (binding journal context name) refl (λ a. refl) (λ a. refl)
freed_none files journal (events.Ask step context name) reply is keeps = ap freed_contexts is ∙ ask-each (λ r. freed_contexts r ≡ []) files journal step context name refl (λ i. refl) (λ a. refl)
freed_none files journal (events.Publish context name candidate) reply is keeps = ap freed_contexts is ∙ publish-each (λ r. freed_contexts r ≡ []) journal context candidate (binding journal context name) (λ a. refl) (λ a. refl) (λ a. refl) refl
freed_none files journal (events.Place user key) reply is keeps = absurd is
freed_none files journal (events.LoadStatic key field kind) reply is keeps = absurd is
freed_none files journal (events.StoreStatic key field value) reply is keeps = absurd is
freed_none files journal (events.Hold handle assembly method) reply is keeps = absurd is
freed_none files journal (events.DropHandle handle) reply is keeps = absurd is
freed_none files journal (events.Weak handle name) reply is keeps = ap freed_contexts is ∙ weak-each (λ r. freed_contexts r ≡ []) (weakly journal handle) (named journal name) refl refl (λ c. refl)
freed_none files journal (events.Alive handle) reply is keeps = ap freed_contexts is ∙ alive-each (λ r. freed_contexts r ≡ []) journal (weakly journal handle) refl (λ c. refl) (λ c. refl)
freed_none files journal (events.Unload name) reply is keeps = ap freed_contexts is ∙ unload-each (λ r. freed_contexts r ≡ []) journal (named journal name) refl (λ c. refl) (λ c. refl) (λ c. refl)
freed_none files journal events.Collect reply is keeps = cc
freed_none files journal (events.Leave operation) reply is keeps = ap freed_contexts is

none_freed : (files : Files) (journal : List Entry) (c : ℕ) → IsLegal files journal → list_all (λ e. keeps_to false e.event) journal ≡ true → is_freed journal c ≡ false
none_freed files journal c legal kind = at (is_freed journal c) refl
  where
    at : (b : Bool) → is_freed journal c ≡ b → b ≡ false
    at false is = refl
    at true is =
        let parts = list_any-parts (λ (e : Entry). list_any (λ d. eqb d c) (freed_contexts e.reply)) journal is in
        let keeps = all_at (λ (e : Entry). keeps_to false e.event) parts.0 parts.1 parts.2
        (subst (λ (j : List Entry). list_all (λ e. keeps_to false e.event) j ≡ true) parts.3 kind) in
        let none : freed_contexts parts.1.reply ≡ [] = freed_none files parts.0 parts.1.event parts.1.reply (legal parts.0 parts.1 parts.2 parts.3) keeps in
        absurd (true≢false (sym parts.4 ∙ ap (list_any (λ d. eqb d c)) none))

or_true : (a b : Bool) → b ≡ false → (a || not b) ≡ true
or_true true b none = refl
or_true false b none = ap not none

-- where something is published, no context was freed
pub not_gone : (files : Files) (journal : List Entry) (collects : Bool) (thread context : ℕ) (name : List ℕ) (candidate : Candidate) → IsLegal files journal →
    list_all (λ e. keeps_to collects e.event) journal ≡ true → Fits journal thread (events.Publish context name candidate) → (c : ℕ) → IsNotGone journal c
not_gone files journal true thread context name candidate legal kind fits c =
    absurd (none_within journal journal [] thread fits.0.0 (begins_none files journal legal kind) (sym (append-nil journal)) fits.0.1)
not_gone files journal false thread context name candidate legal kind fits c =
    or_true (is_live journal c) (is_freed journal c) (none_freed files journal c legal kind)
