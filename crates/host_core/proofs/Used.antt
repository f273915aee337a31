-- What a thread used, counted in its own entries.
use Rattle.std.proofs.Common.{◌≡◌, ℕ, ◌+◌, ◌≤◌, Bool, true, false, ◌&&◌, cond, eqb, List, [], ◌∷◌, ◌++◌, length, map, refl, sym, ap, subst, append_assoc, arith}
use Rattle.std.specs.List.{filter}
use Rattle.std.specs.Option.{is_some}
use Rattle.std.proofs.lemmas.List.{length-map}
use Rattle.host_events.specs.declared.event.Event.{Event}
use Rattle.host_events.specs.declared.event.Event.TheVariants as events
use Rattle.host_events.specs.declared.journal.Entry.{Entry}
use Rattle.host_events.specs.declared.reply.Reply.{Reply}
use Rattle.host_events.specs.Bindings.{binding}
use Rattle.host_events.specs.Contexts.{made_context, named}
use Rattle.host_events.specs.Files.{Files}
use Rattle.host_events.specs.Handles.{weakly}
use Rattle.host_events.specs.Journal.{IsLegal, own_entries}
use Rattle.host_events.specs.Reply.{IsReply}
use Rattle.host_events.proofs.Cases.{alive-each, ask-each, enter-each, lookup-each, new-each, publish-each, rule-each, unload-each, weak-each}
use Rattle.host_core.specs.Allowed.{makes_context_by, makes_handle, makes_handle_by, sets_rule, sets_rule_by, used, used_events}

pub used_events-own : (journal : List Entry) (thread : ℕ) → used_events journal thread ≡ length (own_entries journal thread)
used_events-own journal thread = sym (length-map (filter (λ e. eqb e.thread thread) journal) (λ (e : Entry). (e.event, e.reply)))

-- an event that can be replied to in a way that counts
abbrev pub Counts : (Reply → Bool) → (Event → Bool) → Type 0
Counts test asks =
    (files : Files) (journal : List Entry) (event : Event) (reply : Reply) →
    IsReply files journal event reply → test reply ≡ true → asks event ≡ true

one-le : (b c : Bool) (n m : ℕ) → (b ≡ true → c ≡ true) → n ≤ m → cond b 1 0 + n ≤ cond c 1 0 + m
one-le true true n m within below = omega arith
one-le true false n m within below = cc (within refl)
one-le false true n m within below = omega arith
one-le false false n m within below = omega arith

length_cond : {X : Type 0} (b : Bool) (x : X) (xs : List X) → length (cond b (x ∷ xs) xs) ≡ cond b 1 0 + length xs
length_cond true x xs = omega arith
length_cond false x xs = omega arith

used-le_from : (test : Reply → Bool) (asks : Event → Bool) (files : Files) (before after : List Entry) (thread : ℕ) →
    Counts test asks → IsLegal files (before ++ after) →
    used test after thread ≤ length (filter (λ step. asks step.0) (own_entries after thread))
used-le_from test asks files before [] thread counts legal = omega arith
used-le_from test asks files before (e ∷ es) thread counts legal =
    let here : IsReply files before e.event e.reply = legal before e es refl in
    let later : IsLegal files ((before ++ e ∷ []) ++ es) = subst (IsLegal files) (sym (append_assoc before (e ∷ []) es)) legal in
    at (eqb e.thread thread) (counts files before e.event e.reply here)
    (used-le_from test asks files (before ++ e ∷ []) es thread counts later)
  where
    own : Entry → Event × Reply
    own x = (x.event, x.reply)

    mine : List Entry
    mine = filter (λ x. eqb x.thread thread) es

    rest : List Entry
    rest = filter (λ x. eqb x.thread thread && test x.reply) es

    at : (b : Bool) → (test e.reply ≡ true → asks e.event ≡ true) →
        length rest ≤ length (filter (λ step. asks step.0) (map own mine)) →
        length (cond (b && test e.reply) (e ∷ rest) rest) ≤ length (filter (λ step. asks step.0) (map own (cond b (e ∷ mine) mine)))
    at true within below =
        omega (
          arith,
          length_cond (test e.reply) e rest,
          length_cond (asks e.event) (own e) (filter (λ step. asks step.0) (map own mine)),
          one-le (test e.reply) (asks e.event) (length rest) (length (filter (λ step. asks step.0) (map own mine))) within below,
        )
    at false within below = below

-- a thread used no more of something than it asked for
pub used-le : (test : Reply → Bool) (asks : Event → Bool) (files : Files) (journal : List Entry) (thread : ℕ) →
    Counts test asks → IsLegal files journal → used test journal thread ≤ length (filter (λ step. asks step.0) (own_entries journal thread))
used-le test asks files journal thread counts legal = used-le_from test asks files [] journal thread counts legal

pub contexts-count : Counts (λ r. is_some (made_context r)) makes_context_by
contexts-count files journal (events.New name kind) reply is makes = refl
contexts-count files journal (events.Rule place name answer) reply is makes =
    cc (ap (λ r. is_some (made_context r)) is, rule-each (λ r. is_some (made_context r) ≡ false) journal place refl (λ c. refl) (λ c. refl))
contexts-count files journal (events.Enter name) reply is makes =
    cc (ap (λ r. is_some (made_context r)) is, enter-each (λ r. is_some (made_context r) ≡ false) journal (named journal name) refl (λ c. refl) (λ c. refl))
contexts-count files journal (events.EnterHandle handle) reply is makes = absurd is
contexts-count files journal (events.Lookup context name version) reply is makes =
    cc (ap (λ r. is_some (made_context r)) is, lookup-each (λ r. is_some (made_context r) ≡ false) files journal version (binding journal context name) refl (λ a. refl) (λ a. refl))
contexts-count files journal (events.Ask step context name) reply is makes =
    cc (ap (λ r. is_some (made_context r)) is, ask-each (λ r. is_some (made_context r) ≡ false) files journal step context name refl (λ i. refl) (λ a. refl))
contexts-count files journal (events.Publish context name candidate) reply is makes =
    cc (ap (λ r. is_some (made_context r)) is, publish-each (λ r. is_some (made_context r) ≡ false) journal context candidate (binding journal context name) (λ a. refl) (λ a. refl) (λ a. refl) refl)
contexts-count files journal (events.Place user key) reply is makes = absurd is
contexts-count files journal (events.LoadStatic key field kind) reply is makes = absurd is
contexts-count files journal (events.StoreStatic key field value) reply is makes = absurd is
contexts-count files journal (events.Hold handle assembly method) reply is makes = absurd is
contexts-count files journal (events.DropHandle handle) reply is makes = absurd is
contexts-count files journal (events.Weak handle name) reply is makes =
    cc (ap (λ r. is_some (made_context r)) is, weak-each (λ r. is_some (made_context r) ≡ false) (weakly journal handle) (named journal name) refl refl (λ c. refl))
contexts-count files journal (events.Alive handle) reply is makes =
    cc (ap (λ r. is_some (made_context r)) is, alive-each (λ r. is_some (made_context r) ≡ false) journal (weakly journal handle) refl (λ c. refl) (λ c. refl))
contexts-count files journal (events.Unload name) reply is makes =
    cc (ap (λ r. is_some (made_context r)) is, unload-each (λ r. is_some (made_context r) ≡ false) journal (named journal name) refl (λ c. refl) (λ c. refl) (λ c. refl))
contexts-count files journal events.Collect reply is makes = cc (ap (λ r. is_some (made_context r)) is.2)
contexts-count files journal (events.Leave operation) reply is makes = cc (ap (λ r. is_some (made_context r)) is)

pub handles-count : Counts (λ r. makes_handle r) makes_handle_by
handles-count files journal (events.New name kind) reply is makes =
    cc (ap (λ r. makes_handle r) is, new-each (λ r. makes_handle r ≡ false) journal (named journal name) refl (λ c. refl))
handles-count files journal (events.Rule place name answer) reply is makes =
    cc (ap (λ r. makes_handle r) is, rule-each (λ r. makes_handle r ≡ false) journal place refl (λ c. refl) (λ c. refl))
handles-count files journal (events.Enter name) reply is makes =
    cc (ap (λ r. makes_handle r) is, enter-each (λ r. makes_handle r ≡ false) journal (named journal name) refl (λ c. refl) (λ c. refl))
handles-count files journal (events.EnterHandle handle) reply is makes = absurd is
handles-count files journal (events.Lookup context name version) reply is makes =
    cc (ap (λ r. makes_handle r) is, lookup-each (λ r. makes_handle r ≡ false) files journal version (binding journal context name) refl (λ a. refl) (λ a. refl))
handles-count files journal (events.Ask step context name) reply is makes =
    cc (ap (λ r. makes_handle r) is, ask-each (λ r. makes_handle r ≡ false) files journal step context name refl (λ i. refl) (λ a. refl))
handles-count files journal (events.Publish context name candidate) reply is makes =
    cc (ap (λ r. makes_handle r) is, publish-each (λ r. makes_handle r ≡ false) journal context candidate (binding journal context name) (λ a. refl) (λ a. refl) (λ a. refl) refl)
handles-count files journal (events.Place user key) reply is makes = absurd is
handles-count files journal (events.LoadStatic key field kind) reply is makes = absurd is
handles-count files journal (events.StoreStatic key field value) reply is makes = absurd is
handles-count files journal (events.Hold handle assembly method) reply is makes = absurd is
handles-count files journal (events.DropHandle handle) reply is makes = absurd is
handles-count files journal (events.Weak handle name) reply is makes = refl
handles-count files journal (events.Alive handle) reply is makes =
    cc (ap (λ r. makes_handle r) is, alive-each (λ r. makes_handle r ≡ false) journal (weakly journal handle) refl (λ c. refl) (λ c. refl))
handles-count files journal (events.Unload name) reply is makes =
    cc (ap (λ r. makes_handle r) is, unload-each (λ r. makes_handle r ≡ false) journal (named journal name) refl (λ c. refl) (λ c. refl) (λ c. refl))
handles-count files journal events.Collect reply is makes = cc (ap (λ r. makes_handle r) is.2)
handles-count files journal (events.Leave operation) reply is makes = cc (ap (λ r. makes_handle r) is)

pub rules-count : Counts (λ r. sets_rule r) sets_rule_by
rules-count files journal (events.New name kind) reply is makes =
    cc (ap (λ r. sets_rule r) is, new-each (λ r. sets_rule r ≡ false) journal (named journal name) refl (λ c. refl))
rules-count files journal (events.Rule place name answer) reply is makes = refl
rules-count files journal (events.Enter name) reply is makes =
    cc (ap (λ r. sets_rule r) is, enter-each (λ r. sets_rule r ≡ false) journal (named journal name) refl (λ c. refl) (λ c. refl))
rules-count files journal (events.EnterHandle handle) reply is makes = absurd is
rules-count files journal (events.Lookup context name version) reply is makes =
    cc (ap (λ r. sets_rule r) is, lookup-each (λ r. sets_rule r ≡ false) files journal version (binding journal context name) refl (λ a. refl) (λ a. refl))
rules-count files journal (events.Ask step context name) reply is makes =
    cc (ap (λ r. sets_rule r) is, ask-each (λ r. sets_rule r ≡ false) files journal step context name refl (λ i. refl) (λ a. refl))
rules-count files journal (events.Publish context name candidate) reply is makes =
    cc (ap (λ r. sets_rule r) is, publish-each (λ r. sets_rule r ≡ false) journal context candidate (binding journal context name) (λ a. refl) (λ a. refl) (λ a. refl) refl)
rules-count files journal (events.Place user key) reply is makes = absurd is
rules-count files journal (events.LoadStatic key field kind) reply is makes = absurd is
rules-count files journal (events.StoreStatic key field value) reply is makes = absurd is
rules-count files journal (events.Hold handle assembly method) reply is makes = absurd is
rules-count files journal (events.DropHandle handle) reply is makes = absurd is
rules-count files journal (events.Weak handle name) reply is makes =
    cc (ap (λ r. sets_rule r) is, weak-each (λ r. sets_rule r ≡ false) (weakly journal handle) (named journal name) refl refl (λ c. refl))
rules-count files journal (events.Alive handle) reply is makes =
    cc (ap (λ r. sets_rule r) is, alive-each (λ r. sets_rule r ≡ false) journal (weakly journal handle) refl (λ c. refl) (λ c. refl))
rules-count files journal (events.Unload name) reply is makes =
    cc (ap (λ r. sets_rule r) is, unload-each (λ r. sets_rule r ≡ false) journal (named journal name) refl (λ c. refl) (λ c. refl) (λ c. refl))
rules-count files journal events.Collect reply is makes = cc (ap (λ r. sets_rule r) is.2)
rules-count files journal (events.Leave operation) reply is makes = cc (ap (λ r. sets_rule r) is)
