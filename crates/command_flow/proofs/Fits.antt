-- What is due in a thread fits after all that the thread has in a proper journal.
use Rattle.std.proofs.Common.{◌≡◌, ◌⊎◌, ◌∙◌, ℕ, suc, refl, sym, ap, subst, inl, inr, Bool, true, false, not, cond, eqb, List, [], ◌∷◌, ◌++◌, map, Option, Some, None, append-nil, append_assoc, arith}
use Rattle.std.proofs.lemmas.Bool.{eqb-true, eq-eqb}
use Rattle.std.proofs.lemmas.Grind.{flat_map-append}
use Rattle.std.proofs.lemmas.List.Elements.{Contains-append_right}
use Rattle.std.specs.List.{Contains, cons_option, filter, filter_map, flat_map, list_any}
use Rattle.host_events.specs.declared.event.Candidate.{Candidate}
use Rattle.host_events.specs.declared.event.Candidate.TheVariants as candidates
use Rattle.host_events.specs.declared.event.Event.{Event}
use Rattle.host_events.specs.declared.event.Event.TheVariants as events
use Rattle.host_events.specs.declared.journal.Entry.{Entry}
use Rattle.host_events.specs.declared.reply.Reply.{Reply}
use Rattle.host_events.specs.declared.reply.Reply.TheVariants as replies
use Rattle.host_events.specs.Assemblies.{assembly_in}
use Rattle.host_events.specs.Contexts.{is_number}
use Rattle.host_events.specs.Files.{Files}
use Rattle.host_events.specs.Journal.{Fits, HasNoOpen, IsProper, IsToldCandidate, IsToldContext, own_entries}
use Rattle.host_events.specs.Operations.{IsWithin, begun_operation, contexts_told, ends, is_command, open_in, replies_from, replies_since, told_assemblies, told_contexts}
use Rattle.host_events.specs.Reply.{IsReply}
use Rattle.host_events.proofs.Numbering.{is_number-true}
use Rattle.host_events.proofs.Operations.{own_entries_tell_open_each}
use Rattle.host_events.proofs.Parts.{PartsAt, each_push, given_parts}
use Rattle.host_events.proofs.Push.{IsProper-prefix, own_entries-push}
use Rattle.host_events.proofs.Quiet.{Begins, begins}
use Rattle.host_events.proofs.Since.{own_entries_tell_replies_each}
use Rattle.host_events.proofs.Within.{open_in-push, own_entries_tell_within_each, within-begun}
use Rattle.bind_flow.specs.Flow.{world_of}
use Rattle.assembly_image.specs.Reading.{FileReading}
use Rattle.host_script.specs.declared.command.Command.{Command}
use Rattle.host_script.specs.declared.command.Command.TheVariants as commands
use Rattle.command_flow.specs.Laws.{DueEventsFit}
use Rattle.command_flow.specs.State.{is_inner}
use Rattle.command_flow.proofs.Inner.{IsInner, IsInnerCandidate, IsNamed, Scope}
use Rattle.command_flow.proofs.Places.{AreInner, IsAt, IsOpened, IsUnbegun, IsWhole, due_at, first_event, parts-after, scope_context, scope_of}

-- The trace is all that the thread has in a proper journal.
record IsOwn (files : Files) (thread : ℕ) (trace : List (Event × Reply)) : Type 0 where
  journal : List Entry
  proper : IsProper files journal
  own : own_entries journal thread ≡ trace

-- The same, where the journal ends with the last of them.
record EndsOwn (files : Files) (thread : ℕ) (trace : List (Event × Reply)) (event : Event) (reply : Reply) : Type 0 where
  journal : List Entry
  proper : IsProper files (journal ++ record { thread = thread; event = event; reply = reply } ∷ [])
  front : own_entries journal thread ≡ trace
  whole : own_entries (journal ++ record { thread = thread; event = event; reply = reply } ∷ []) thread ≡ trace ++ (event, reply) ∷ []

last_of : {X : Type 0} (xs ys : List X) (x y : X) → xs ++ x ∷ [] ≡ ys ++ y ∷ [] → (xs ≡ ys) × (x ≡ y)
last_of [] [] x y e = (refl, cc e)
last_of [] (z ∷ []) x y e = cc e
last_of [] (z ∷ w ∷ ys) x y e = cc e
last_of (z ∷ []) [] x y e = cc e
last_of (z ∷ w ∷ xs) [] x y e = cc e
last_of (z ∷ xs) (w ∷ ys) x y e =
    let heads : z ≡ w = cc e in
    let tails : xs ++ x ∷ [] ≡ ys ++ y ∷ [] = cc e in
    let rest = last_of xs ys x y tails in
    (ap (λ v. v ∷ xs) heads ∙ ap (λ v. w ∷ v) rest.0, rest.1)

no_last : {X : Type 0} (xs : List X) (x : X) → [] ≡ xs ++ x ∷ [] → ⊥
no_last [] x e = cc e
no_last (y ∷ xs) x e = cc e

-- what a thread has began with what it had when the last of it came
ends_own : (files : Files) (thread : ℕ) (trace : List (Event × Reply)) (event : Event) (reply : Reply) → IsOwn files thread (trace ++ (event, reply) ∷ []) →
    EndsOwn files thread trace event reply
ends_own files thread trace event reply own =
    each_push (λ j. IsProper files j → own_entries j thread ≡ trace ++ (event, reply) ∷ [] → EndsOwn files thread trace event reply)
    (λ proper is. absurd (no_last trace (event, reply) is))
    (λ j e before proper is. at j e (λ same. before (IsProper-prefix files j (e ∷ []) proper) same) proper (eqb e.thread thread) refl (sym (own_entries-push j e thread) ∙ is))
    own.journal own.proper own.own
  where
    found : (j : List Entry) (e : Entry) → IsProper files (j ++ e ∷ []) → e.thread ≡ thread → own_entries j thread ++ (e.event, e.reply) ∷ [] ≡ trace ++ (event, reply) ∷ [] →
        EndsOwn files thread trace event reply
    found j e proper mine is =
        let parts = last_of (own_entries j thread) trace (e.event, e.reply) (event, reply) is in
        let asked : e.event ≡ event = ap (λ p. p.0) parts.1 in
        let replied : e.reply ≡ reply = ap (λ p. p.1) parts.1 in
        let same : e ≡ record { thread = thread; event = event; reply = reply } =
        ap (λ t. record { thread = t; event = e.event; reply = e.reply }) mine
        ∙ ap (λ v. record { thread = thread; event = v; reply = e.reply }) asked ∙ ap (λ r. record { thread = thread; event = event; reply = r }) replied in
        record {
          journal = j;
          proper = subst (λ (x : Entry). IsProper files (j ++ x ∷ [])) same proper;
          front = parts.0;
          whole = own_entries-push j (record { thread = thread; event = event; reply = reply }) thread
              ∙ ap (λ b. own_entries j thread ++ cond b ((event, reply) ∷ []) []) (eq-eqb thread thread refl)
              ∙ ap (λ t. t ++ (event, reply) ∷ []) parts.0;
        }

    at : (j : List Entry) (e : Entry) → (own_entries j thread ≡ trace ++ (event, reply) ∷ [] → EndsOwn files thread trace event reply) → IsProper files (j ++ e ∷ []) →
        (b : Bool) → eqb e.thread thread ≡ b → own_entries j thread ++ cond b ((e.event, e.reply) ∷ []) [] ≡ trace ++ (event, reply) ∷ [] →
        EndsOwn files thread trace event reply
    at j e before proper true mine is = found j e proper (eqb-true e.thread thread mine) is
    at j e before proper false other is = before (sym (append-nil (own_entries j thread)) ∙ is)

-- what a thread had before is all that it has in a proper journal
own-front : (files : Files) (thread : ℕ) (trace more : List (Event × Reply)) → IsOwn files thread (trace ++ more) → IsOwn files thread trace
own-front files thread trace more own =
    each_push (λ ms. IsOwn files thread (trace ++ ms) → IsOwn files thread trace)
    (λ own. subst (IsOwn files thread) (append-nil trace) own)
    (λ ms step before own.
    let ended = ends_own files thread (trace ++ ms) step.0 step.1 (subst (IsOwn files thread) (sym (append_assoc trace ms (step ∷ []))) own) in
    before (record {
      journal = ended.journal;
      proper = IsProper-prefix files ended.journal (record { thread = thread; event = step.0; reply = step.1 } ∷ []) ended.proper;
      own = ended.front;
    }))
    more own

-- the last of what a thread has got the reply to its event
replied_last : (files : Files) (thread : ℕ) (trace : List (Event × Reply)) (event : Event) (reply : Reply) → (ended : EndsOwn files thread trace event reply) →
    IsReply files ended.journal event reply
replied_last files thread trace event reply ended =
    ended.proper.legal ended.journal (record { thread = thread; event = event; reply = reply }) [] refl

module _ (files : Files) (thread : ℕ) where
  -- what does not begin or end an operation leaves open what was open
  stays-open : (trace : List (Event × Reply)) (event : Event) (reply : Reply) (ks : List ℕ) → begun_operation reply ≡ None →
      open_in trace ≡ ks → filter (λ k. not (ends k event)) ks ≡ ks → open_in (trace ++ (event, reply) ∷ []) ≡ ks
  stays-open trace event reply ks begun stands on =
      open_in-push trace (event, reply)
      ∙ ap (λ o. filter (λ k. not (ends k event)) (open_in trace) ++ filter (λ k. not (list_any (λ s. ends k s.0) (trace ++ (event, reply) ∷ []))) (cons_option o [])) begun
      ∙ append-nil (filter (λ k. not (ends k event)) (open_in trace))
      ∙ ap (filter (λ k. not (ends k event))) stands
      ∙ on

  -- only an `Enter` begins an operation
  begun-last : (trace : List (Event × Reply)) (event : Event) (reply : Reply) → IsOwn files thread (trace ++ (event, reply) ∷ []) →
      ((k c : ℕ) (name : List ℕ) → event ≡ events.Enter name → reply ≡ replies.Entered k c → ⊥) → begun_operation reply ≡ None
  begun-last trace event reply own none =
      let ended = ends_own files thread trace event reply own in
      at ended.journal (replied_last files thread trace event reply ended) (begun_operation reply) refl
    where
      at : (j : List Entry) → IsReply files j event reply → (o : Option ℕ) → begun_operation reply ≡ o → begun_operation reply ≡ None
      at j replied None is = is
      at j replied (Some k) is =
          let b : Begins j event reply k = begins files j event reply k replied is in
          absurd (none k b.context b.name b.event_is b.reply_is)

  -- an event within an operation leaves it open
  inner-opens : (trace : List (Event × Reply)) (event : Event) (reply : Reply) (k : ℕ) → IsOwn files thread (trace ++ (event, reply) ∷ []) →
      is_inner event ≡ true → open_in trace ≡ k ∷ [] → open_in (trace ++ (event, reply) ∷ []) ≡ k ∷ []
  inner-opens trace event reply k own inner stands =
      stays-open trace event reply (k ∷ [])
      (begun-last trace event reply own (λ n c name is entered. let no : is_inner (events.Enter name) ≡ true = ap is_inner (sym is) ∙ inner in cc no))
      stands (ap (λ b. cond (not b) (k ∷ []) []) (goes_on event inner))
    where
      goes_on : (e : Event) → is_inner e ≡ true → ends k e ≡ false
      goes_on (events.Leave operation) inner = cc inner
      goes_on e inner = refl

  inner-open : (trace inner : List (Event × Reply)) (k : ℕ) → IsOwn files thread (trace ++ inner) → AreInner inner → open_in trace ≡ k ∷ [] →
      open_in (trace ++ inner) ≡ k ∷ []
  inner-open trace [] k own are stands = ap open_in (append-nil trace) ∙ stands
  inner-open trace (step ∷ inner) k own are stands =
      let joined : (trace ++ step ∷ []) ++ inner ≡ trace ++ step ∷ inner = append_assoc trace (step ∷ []) inner in
      let whole : IsOwn files thread ((trace ++ step ∷ []) ++ inner) = subst (IsOwn files thread) (sym joined) own in
      ap open_in (sym joined)
      ∙ inner-open (trace ++ step ∷ []) inner k whole are.1
      (inner-opens trace step.0 step.1 k (own-front files thread (trace ++ step ∷ []) inner whole) are.0 stands)

  -- the operation that just began is open
  entered-open : (trace : List (Event × Reply)) (name : List ℕ) (k c : ℕ) → IsOwn files thread (trace ++ (events.Enter name, replies.Entered k c) ∷ []) →
      open_in (trace ++ (events.Enter name, replies.Entered k c) ∷ []) ≡ k ∷ []
  entered-open trace name k c own =
      let ended = ends_own files thread trace (events.Enter name) (replies.Entered k c) own in
      let entry : Entry = record { thread = thread; event = events.Enter name; reply = replies.Entered k c } in
      ap open_in (sym ended.whole)
      ∙ sym (own_entries_tell_within_each files (ended.journal ++ entry ∷ []) thread ended.proper)
      ∙ within-begun files ended.journal entry k ended.proper refl

  -- within an operation it is open
  opened-open : (trace : List (Event × Reply)) (k c : ℕ) → IsOwn files thread trace → (opened : IsOpened k c trace) → open_in trace ≡ k ∷ []
  opened-open trace k c own opened =
      let begun = opened.front ++ (events.Enter opened.name, replies.Entered k c) ∷ [] in
      let whole : IsOwn files thread (begun ++ opened.inner) = subst (IsOwn files thread) opened.parted own in
      ap open_in opened.parted
      ∙ inner-open begun opened.inner k whole opened.within (entered-open opened.front opened.name k c (own-front files thread begun opened.inner whole))

  -- after a `Leave` nothing is open
  left-open : (trace : List (Event × Reply)) (k : ℕ) (reply : Reply) → IsOwn files thread (trace ++ (events.Leave k, reply) ∷ []) → open_in trace ≡ k ∷ [] →
      open_in (trace ++ (events.Leave k, reply) ∷ []) ≡ []
  left-open trace k reply own stands =
      open_in-push trace (events.Leave k, reply)
      ∙ ap (λ o. filter (λ n. not (ends n (events.Leave k))) (open_in trace) ++ filter (λ n. not (list_any (λ s. ends n s.0) (trace ++ (events.Leave k, reply) ∷ []))) (cons_option o []))
      (begun-last trace (events.Leave k) reply own (λ n c name is entered. cc is))
      ∙ append-nil (filter (λ n. not (ends n (events.Leave k))) (open_in trace))
      ∙ ap (filter (λ n. not (ends n (events.Leave k)))) stands
      ∙ ap (λ b. cond (not b) (k ∷ []) []) (eq-eqb k k refl)

  -- after whole commands nothing is open
  whole-open : (trace : List (Event × Reply)) → IsWhole trace → IsOwn files thread trace → open_in trace ≡ []
  whole-open trace IsWhole.nothing own = refl
  whole-open trace (IsWhole.single front event reply command whole) own =
      stays-open front event reply []
      (begun-last front event reply own (λ k c name is entered. let no : is_command (events.Enter name) ≡ true = ap is_command (sym is) ∙ command in cc no))
      (whole-open front whole (own-front files thread front ((event, reply) ∷ []) own)) refl
  whole-open trace (IsWhole.unbegun front name reply none whole) own =
      stays-open front (events.Enter name) reply []
      (begun-last front (events.Enter name) reply own (λ k c other is entered. subst IsUnbegun entered none))
      (whole-open front whole (own-front files thread front ((events.Enter name, reply) ∷ []) own)) refl
  whole-open trace (IsWhole.operation front inner name k c reply are whole) own =
      let begun = front ++ (events.Enter name, replies.Entered k c) ∷ [] in
      left-open (begun ++ inner) k reply own
      (opened-open (begun ++ inner) k c (own-front files thread (begun ++ inner) ((events.Leave k, reply) ∷ []) own)
      (record { front = front; name = name; inner = inner; whole = whole; within = are; parted = refl }))

of_some : {X : Type 0} {x y : X} → Some x ≡ Some y → x ≡ y
of_some is = cc

-- the event by which a command begins fits where nothing is open
first_fits : (journal : List Entry) (thread : ℕ) → HasNoOpen journal thread → (command : Command) (event : Event) → first_event command ≡ Some event →
    Fits journal thread event
first_fits journal thread none (commands.New context fixed) event is = subst (Fits journal thread) (of_some is) none
first_fits journal thread none (commands.On context name answer) event is = subst (Fits journal thread) (of_some is) none
first_fits journal thread none (commands.Resolving context name answer) event is = subst (Fits journal thread) (of_some is) none
first_fits journal thread none (commands.Resolve name answer) event is = subst (Fits journal thread) (of_some is) none
first_fits journal thread none (commands.Load context image) event is = subst (Fits journal thread) (of_some is) none
first_fits journal thread none (commands.Bind context name version) event is = subst (Fits journal thread) (of_some is) none
first_fits journal thread none (commands.Call context name type_name method args) event is = cc
first_fits journal thread none (commands.Hold handle context name type_name method) event is = cc
first_fits journal thread none (commands.Invoke handle args) event is = cc
first_fits journal thread none (commands.DropHandle handle) event is = cc
first_fits journal thread none (commands.Weak handle context) event is = subst (Fits journal thread) (of_some is) none
first_fits journal thread none (commands.Alive handle) event is = subst (Fits journal thread) (of_some is) none
first_fits journal thread none (commands.Unload context) event is = subst (Fits journal thread) (of_some is) none
first_fits journal thread none commands.Collect event is = subst (Fits journal thread) (of_some is) none

-- the replies of an operation are that by which it began, with those after it, and maybe others before it
replies_after : (k : ℕ) (front : List (Event × Reply)) (step : Event × Reply) (inner : List (Event × Reply)) → begun_operation step.1 ≡ Some k →
    (others : List Reply) × (replies_from k ((front ++ step ∷ []) ++ inner) ≡ others ++ step.1 ∷ map (λ each. each.1) inner)
replies_after k [] step inner begun =
    ([], ap (λ b. cond b (map (λ (each : Event × Reply). each.1) (step ∷ inner)) (replies_from k inner)) (is_number-true k (begun_operation step.1) begun))
replies_after k (b ∷ front) step inner begun = at (is_number k (begun_operation b.1)) (replies_after k front step inner begun)
  where
    replies_of : List (Event × Reply) → List Reply
    replies_of steps = map (λ (each : Event × Reply). each.1) steps

    split : (xs : List (Event × Reply)) → replies_of ((xs ++ step ∷ []) ++ inner) ≡ replies_of xs ++ step.1 ∷ replies_of inner
    split [] = refl
    split (x ∷ xs) = ap (λ rs. x.1 ∷ rs) (split xs)

    at : (first : Bool) → ((others : List Reply) × (replies_from k ((front ++ step ∷ []) ++ inner) ≡ others ++ step.1 ∷ replies_of inner)) →
        (others : List Reply) × (cond first (replies_of (b ∷ ((front ++ step ∷ []) ++ inner))) (replies_from k ((front ++ step ∷ []) ++ inner)) ≡ others ++ step.1 ∷ replies_of inner)
    at true later = (replies_of (b ∷ front), ap (λ rs. b.1 ∷ rs) (split front))
    at false later = later

-- a reply that named the assembly, among the replies
named_reply : (a : ℕ) (inner : List (Event × Reply)) → IsNamed a inner → PartsAt (λ r. assembly_in r ≡ Some a) (map (λ each. each.1) inner)
named_reply a inner named =
    let replies_of : List (Event × Reply) → List Reply = λ steps. map (λ (each : Event × Reply). each.1) steps in
    record {
      before = replies_of named.before;
      here = named.here.1;
      after = replies_of named.after;
      parted = ap replies_of named.parted ∙ split named.before named.here named.after;
      holds = named.holds;
    }
  where
    split : (xs : List (Event × Reply)) (x : Event × Reply) (ys : List (Event × Reply)) →
        map (λ (each : Event × Reply). each.1) (xs ++ x ∷ ys) ≡ map (λ (each : Event × Reply). each.1) xs ++ x.1 ∷ map (λ (each : Event × Reply). each.1) ys
    split [] x ys = refl
    split (z ∷ xs) x ys = ap (λ rs. z.1 ∷ rs) (split xs x ys)

-- what was told is an element of what stands behind the platform
later_in : {X : Type 0} (x y : X) (xs : List X) → Contains xs x → Contains (y ∷ xs) x
later_in x y xs has = (suc has.0, omega (arith, has.1), has.2)

module _ (files : Files) (journal : List Entry) (thread : ℕ) (proper : IsProper files journal) (trace : List (Event × Reply))
    (mine : own_entries journal thread ≡ trace) where
  own : IsOwn files thread trace
  own = record { journal = journal; proper = proper; own = mine }

  module _ (k c : ℕ) (opened : IsOpened k c trace) where
    within : IsWithin journal thread k
    within =
        own_entries_tell_within_each files journal thread proper ∙ ap open_in mine ∙ opened-open files thread trace k c own opened

    since : (others : List Reply) × (replies_since k journal ≡ others ++ replies.Entered k c ∷ map (λ each. each.1) opened.inner)
    since =
        let after = replies_after k opened.front (events.Enter opened.name, replies.Entered k c) opened.inner refl in
        (after.0, own_entries_tell_replies_each files journal thread k proper within ∙ ap (replies_from k) (mine ∙ opened.parted) ∙ after.1)

    -- the operation was told of the context in which it began
    entered_told : Contains (told_contexts journal k) c
    entered_told =
        let told : flat_map (contexts_told journal) (replies_since k journal)
        ≡ flat_map (contexts_told journal) since.0 ++ c ∷ flat_map (contexts_told journal) (map (λ each. each.1) opened.inner) =
        ap (flat_map (contexts_told journal)) since.1 ∙ flat_map-append (contexts_told journal) since.0 (replies.Entered k c ∷ map (λ each. each.1) opened.inner) in
        later_in c 0 (flat_map (contexts_told journal) (replies_since k journal))
        (subst (λ (cs : List ℕ). Contains cs c) (sym told)
        (Contains-append_right (flat_map (contexts_told journal) since.0) (c ∷ flat_map (contexts_told journal) (map (λ each. each.1) opened.inner)) c (0, omega arith, refl)))

    -- and of the assemblies that the replies of its work named
    named_told : (a : ℕ) → IsNamed a opened.inner → Contains (told_assemblies journal k) a
    named_told a named =
        let P : Reply → Type 0 = λ r. assembly_in r ≡ Some a in
        let there : PartsAt P (replies_since k journal) =
        subst (PartsAt P) (sym since.1)
        (parts-after P since.0 (replies.Entered k c ∷ map (λ each. each.1) opened.inner)
        (parts-after P (replies.Entered k c ∷ []) (map (λ each. each.1) opened.inner) (named_reply a opened.inner named))) in
        later_in a 0 (filter_map assembly_in (replies_since k journal)) (given_parts assembly_in (replies_since k journal) a there)

    context_told : (context : ℕ) → (context ≡ 0) ⊎ (context ≡ c) → IsToldContext journal thread context
    context_told context (inl zeroth) = (k, within, (0, omega arith, sym zeroth))
    context_told context (inr same) = (k, within, subst (Contains (told_contexts journal k)) (sym same) entered_told)

    candidate_told : (scope : Scope) (candidate : Candidate) → IsInnerCandidate scope candidate opened.inner → IsToldCandidate journal thread candidate
    candidate_told scope (candidates.Image image) inner = tt
    candidate_told scope (candidates.Assembly a) inner = (k, within, named_told a inner)

    inner_fits : (scope : Scope) → scope.context ≡ c → (event : Event) → IsInner scope event opened.inner → Fits journal thread event
    inner_fits scope is (events.Lookup context name version) inner = context_told context (inr (inner.0 ∙ is))
    inner_fits scope is (events.Ask step context name) inner = context_told context (inr (inner.0 ∙ is))
    inner_fits scope is (events.Publish context name candidate) inner = (at inner.0, candidate_told scope candidate inner.2)
      where
        at : (context ≡ 0) ⊎ (context ≡ scope.context) → IsToldContext journal thread context
        at (inl zeroth) = context_told context (inl zeroth)
        at (inr same) = context_told context (inr (same ∙ is))
    inner_fits scope is event inner = absurd inner

  at_fits : (images : List FileReading) (given : List Command) (event : Event) → IsAt images given event trace → Fits journal thread event
  at_fits images given event (IsAt.is_first command has first whole) =
      first_fits journal thread (own_entries_tell_open_each journal thread (ap open_in mine ∙ whole-open files thread trace whole own)) command event first
  at_fits images given event (IsAt.is_within command k c has opened inner) = inner_fits k c opened (scope_of images command c) (scope_context images command c) event inner
  at_fits images given event (IsAt.is_last k c opened is) = subst (Fits journal thread) (sym is) (within k c opened)

-- What is due in a thread fits.
pub due_events_fit_each : DueEventsFit
due_events_fit_each files journal thread given assemblies images event proper due =
    at_fits files journal thread proper (own_entries journal thread) refl images given event (due_at (world_of assemblies images) given (own_entries journal thread) event due)
