-- The numbers of contexts in a legal journal.
use Rattle.std.proofs.Common.{◌≡◌, Bool, ℕ, ◌+◌, ◌<◌, ◌≤◌, true, not, ◌&&◌, eqb, List, ◌∷◌, ◌++◌, Option, Some, None, refl, ap, subst, inl, inr, arith}
use Rattle.std.specs.List.{list_any}
use Rattle.std.proofs.lemmas.Bool.{eqb-true, and_parts, or_cases}
use Rattle.host_events.specs.declared.event.ContextKind.{ContextKind}
use Rattle.host_events.specs.declared.event.Event.{Event}
use Rattle.host_events.specs.declared.event.Event.TheVariants as events
use Rattle.host_events.specs.declared.reply.Reply.{Reply}
use Rattle.host_events.specs.declared.journal.Entry.{Entry}
use Rattle.host_events.specs.Contexts.{made_context, makes, made_count, is_made, is_freed, is_live, named}
use Rattle.host_events.specs.Bindings.{binding}
use Rattle.host_events.specs.Files.{Files}
use Rattle.host_events.specs.Handles.{weakly}
use Rattle.host_events.specs.Journal.{IsLegal}
use Rattle.host_events.specs.Reply.{IsReply, reply_to_new}
use Rattle.host_events.proofs.Numbering.{number_bounds}
pub use Rattle.host_events.proofs.Numbering.{is_number-some}
use Rattle.host_events.proofs.Parts.{parts_any}
use Rattle.host_events.proofs.Cases.{alive-each, ask-each, enter-each, lookup-each, publish-each, rule-each, unload-each, weak-each}

-- where some element passes, the list is parted at one that does
pub list_any-parts : {X : Type 0} (p : X → Bool) (xs : List X) → list_any p xs ≡ true →
    (before : List X) × (x : X) × (after : List X) × (xs ≡ before ++ x ∷ after) × (p x ≡ true)
list_any-parts p xs h = let parts = parts_any p xs h in (parts.before, parts.here, parts.after, parts.parted, parts.holds)

-- a reply that makes c names it
pub made-from_makes : (c : ℕ) (reply : Reply) → makes c reply ≡ true → made_context reply ≡ Some c
made-from_makes c reply h = is_number-some c (made_context reply) h

made_by_new : (journal : List Entry) (o : Option ℕ) (reply : Reply) (c : ℕ) →
    reply ≡ reply_to_new journal o → made_context reply ≡ Some c → c ≡ made_count journal + 1
made_by_new journal None reply c is makes = cc
made_by_new journal (Some d) reply c is makes = cc

-- a `New` alone makes a context
pub made-others : (files : Files) (journal : List Entry) (event : Event) (reply : Reply) (c : ℕ) →
    IsReply files journal event reply → made_context reply ≡ Some c → (name : List ℕ) × (kind : ContextKind) × (event ≡ events.New name kind)
made-others files journal (events.New name kind) reply c is makes = (name, kind, refl)
made-others files journal (events.Rule place name answer) reply c is makes =
    cc (ap made_context is, rule-each (λ r. made_context r ≡ None) journal place refl (λ c. refl) (λ c. refl))
made-others files journal (events.Enter name) reply c is makes =
    cc (ap made_context is, enter-each (λ r. made_context r ≡ None) journal (named journal name) refl (λ c. refl) (λ c. refl))
made-others files journal (events.EnterHandle handle) reply c is makes = absurd is
made-others files journal (events.Lookup context name version) reply c is makes =
    cc (ap made_context is, lookup-each (λ r. made_context r ≡ None) files journal version (binding journal context name) refl (λ a. refl) (λ a. refl))
made-others files journal (events.Ask step context name) reply c is makes =
    cc (ap made_context is, ask-each (λ r. made_context r ≡ None) files journal step context name refl (λ i. refl) (λ a. refl))
made-others files journal (events.Publish context name candidate) reply c is makes =
    cc (ap made_context is, publish-each (λ r. made_context r ≡ None) journal context candidate (binding journal context name) (λ a. refl) (λ a. refl) (λ a. refl) refl)
made-others files journal (events.Place user key) reply c is makes = absurd is
made-others files journal (events.LoadStatic key field kind) reply c is makes = absurd is
made-others files journal (events.StoreStatic key field value) reply c is makes = absurd is
made-others files journal (events.Hold handle assembly method) reply c is makes = absurd is
made-others files journal (events.DropHandle handle) reply c is makes = absurd is
made-others files journal (events.Weak handle name) reply c is makes =
    cc (ap made_context is, weak-each (λ r. made_context r ≡ None) (weakly journal handle) (named journal name) refl refl (λ c. refl))
made-others files journal (events.Alive handle) reply c is makes =
    cc (ap made_context is, alive-each (λ r. made_context r ≡ None) journal (weakly journal handle) refl (λ c. refl) (λ c. refl))
made-others files journal (events.Unload name) reply c is makes =
    cc (ap made_context is, unload-each (λ r. made_context r ≡ None) journal (named journal name) refl (λ c. refl) (λ c. refl) (λ c. refl))
made-others files journal events.Collect reply c is makes = cc (ap made_context is.2)
made-others files journal (events.Leave operation) reply c is makes = cc (ap made_context is)

-- the number of a context that is made: one more than the count of those before it
pub number-made : (files : Files) (journal : List Entry) (event : Event) (reply : Reply) (c : ℕ) →
    IsReply files journal event reply → made_context reply ≡ Some c → c ≡ made_count journal + 1
number-made files journal event reply c is makes =
    let new = made-others files journal event reply c is makes in
    made_by_new journal (named journal new.0) reply c (subst (λ (e : Event). IsReply files journal e reply) new.2 is) makes

pub number_of_made : (files : Files) (journal : List Entry) (c : ℕ) → IsLegal files journal → is_made journal c ≡ true →
    (0 < c) × (c ≤ made_count journal)
number_of_made files journal c legal h =
    let p = parts_any (λ e. makes c e.reply) journal h in
    number_bounds files made_context (number-made files) journal c legal
    (record { before = p.before; here = p.here; after = p.after; parted = p.parted; holds = made-from_makes c p.here.reply p.holds })

-- no live context has a greater number than the last one that was made
pub number_of_live : (files : Files) (journal : List Entry) (c : ℕ) → IsLegal files journal → is_live journal c ≡ true → c ≤ made_count journal
number_of_live files journal c legal h =
    elim (or_cases (eqb c 0) (is_made journal c && not (is_freed journal c)) h) [
      | inl none ↦ let zero : c ≡ 0 = eqb-true c 0 none in omega arith
      | inr there ↦
          (number_of_made files journal c legal (and_parts (is_made journal c) (not (is_freed journal c)) there).0).1
    ]
