-- Assemblies: how they are numbered, and that each stays what it was made of.
use Rattle.std.proofs.Common.{◌≡◌, ℕ, ◌+◌, ◌<◌, ◌≤◌, ◌⊎◌, inl, inr, Bool, true, false, cond, zero, suc, List, [], ◌∷◌, ◌++◌, Option, Some, None, refl, sym, ap, subst, ◌∙◌, append_assoc, append-nil, arith}
use Rattle.std.specs.List.{cons_option, filter_map, slice_get}
use Rattle.std.specs.Option.{is_some, option_map}
use Rattle.std.proofs.lemmas.List.Elements.{filter_map-append}
use Rattle.host_events.specs.declared.event.Event.{Event}
use Rattle.host_events.specs.declared.reply.Reply.{Reply}
use Rattle.host_events.specs.declared.journal.Entry.{Entry}
use Rattle.host_events.specs.declared.order.CodeOf.{CodeOf}
use Rattle.host_events.specs.Assemblies.{assembly_of, bound_assembly, bound_count, code_bound, code_published, context_of}
use Rattle.host_events.specs.Contexts.{is_number}
use Rattle.host_events.specs.Files.{Files}
use Rattle.host_events.specs.Journal.{IsLegal}
use Rattle.host_events.specs.Laws.{AssembliesStay}
use Rattle.host_events.proofs.Numbering.{Counts, Numbers, count-push, is_number-some, is_number-true, number_bounds, number_given, number_parts}
use Rattle.host_events.proofs.Parts.{PartsAt, filter_map-push, first-append, first-none, first_of_option, parts_first_given}
use Rattle.host_events.proofs.Push.{IsLegal-prefix}
use Rattle.host_events.proofs.Quiet.{Makes, made}

-- a reply that says that an assembly was made gives it the next number
pub number-bound : (files : Files) → Counts files bound_assembly
number-bound files journal event reply a is bound = (made files journal event reply a is bound).number_is

pub bound_count-push : (journal : List Entry) (entry : Entry) →
    bound_count (journal ++ entry ∷ []) ≡ bound_count journal + cond (is_some (bound_assembly entry.reply)) 1 0
bound_count-push journal entry = count-push bound_assembly journal entry

-- the assembly is the platform, or was made
abbrev pub IsKnown : List Entry → ℕ → Type 0
IsKnown journal a = (a ≡ 0) ⊎ ((code : CodeOf) × (assembly_of journal a ≡ Some code))

-- an assembly stays what it was made of
pub assemblies_stay_each : AssembliesStay
assemblies_stay_each journal later zero code h = cc h
assemblies_stay_each journal later (suc a) code h =
    ap (λ codes. slice_get codes 0) (filter_map-append (λ e. code_bound (suc a) e.event e.reply) journal later)
    ∙ first-append (filter_map (λ e. code_bound (suc a) e.event e.reply) journal) (filter_map (λ e. code_bound (suc a) e.event e.reply) later) code h

pub known-later : (journal later : List Entry) (a : ℕ) → IsKnown journal a → IsKnown (journal ++ later) a
known-later journal later a (inl platform) = inl platform
known-later journal later a (inr (code, h)) = inr (code, assemblies_stay_each journal later a code h)

-- an assembly that was not there is the one that the entry makes, if it makes it
pub assembly_of-push : (journal : List Entry) (entry : Entry) (a : ℕ) → 0 < a → assembly_of journal a ≡ None →
    assembly_of (journal ++ entry ∷ []) a ≡ code_bound a entry.event entry.reply
assembly_of-push journal entry zero some none = absurd (omega arith)
assembly_of-push journal entry (suc a) some none =
    ap (λ codes. slice_get codes 0) (filter_map-push (λ e. code_bound (suc a) e.event e.reply) journal entry)
    ∙ first-none (filter_map (λ e. code_bound (suc a) e.event e.reply) journal) (cons_option (code_bound (suc a) entry.event entry.reply) []) none
    ∙ first_of_option (code_bound (suc a) entry.event entry.reply)

-- an entry that does not make an assembly leaves it as it is
pub assembly_of-other : (journal : List Entry) (entry : Entry) (a : ℕ) → is_number a (bound_assembly entry.reply) ≡ false →
    assembly_of (journal ++ entry ∷ []) a ≡ assembly_of journal a
assembly_of-other journal entry zero other = refl
assembly_of-other journal entry (suc a) other =
    let none : code_bound (suc a) entry.event entry.reply ≡ None = ap (λ b. cond b (code_published entry.event) None) other in
    ap (λ codes. slice_get codes 0)
    (filter_map-push (λ e. code_bound (suc a) e.event e.reply) journal entry
    ∙ ap (λ o. filter_map (λ e. code_bound (suc a) e.event e.reply) journal ++ cons_option o []) none
    ∙ append-nil (filter_map (λ e. code_bound (suc a) e.event e.reply) journal))

-- the context of the platform, and of an assembly that was made, is what it was
pub context_of-stays : (journal later : List Entry) (a : ℕ) → IsKnown journal a → context_of (journal ++ later) a ≡ context_of journal a
context_of-stays journal later zero known = refl
context_of-stays journal later (suc a) (inl platform) = absurd (omega arith)
context_of-stays journal later (suc a) (inr (code, h)) =
    ap (option_map (λ c. c.context)) (assemblies_stay_each journal later (suc a) code h ∙ sym h)

pub context_of-push : (journal : List Entry) (entry : Entry) (a : ℕ) → is_number a (bound_assembly entry.reply) ≡ false →
    context_of (journal ++ entry ∷ []) a ≡ context_of journal a
context_of-push journal entry zero other = refl
context_of-push journal entry (suc a) other = ap (option_map (λ c. c.context)) (assembly_of-other journal entry (suc a) other)

-- an assembly was made by an entry that says so, of what that published
pub assembly_parts : (journal : List Entry) (a : ℕ) (code : CodeOf) → assembly_of journal a ≡ Some code →
    PartsAt (λ e. (bound_assembly e.reply ≡ Some a) × (code_published e.event ≡ Some code)) journal
assembly_parts journal zero code h = cc h
assembly_parts journal (suc a) code h =
    let p = parts_first_given (λ e. code_bound (suc a) e.event e.reply) journal code h in
    record {
      before = p.before;
      here = p.here;
      after = p.after;
      parted = p.parted;
      holds = at p.here (is_number (suc a) (bound_assembly p.here.reply)) refl p.holds;
    }
  where
    at : (e : Entry) (b : Bool) → is_number (suc a) (bound_assembly e.reply) ≡ b → cond b (code_published e.event) None ≡ Some code →
        (bound_assembly e.reply ≡ Some (suc a)) × (code_published e.event ≡ Some code)
    at e true is found = (is_number-some (suc a) (bound_assembly e.reply) is, found)
    at e false is found = cc found

-- An assembly that was made is none of number 0, nor of one beyond the count.
pub assembly_bounds : (files : Files) (journal : List Entry) (a : ℕ) (code : CodeOf) → IsLegal files journal →
    assembly_of journal a ≡ Some code → (0 < a) × (a ≤ bound_count journal)
assembly_bounds files journal a code legal h =
    let p = assembly_parts journal a code h in
    number_bounds files bound_assembly (number-bound files) journal a legal
    (record { before = p.before; here = p.here; after = p.after; parted = p.parted; holds = p.holds.0 })

pub assembly_none : (files : Files) (journal : List Entry) (a : ℕ) → IsLegal files journal → bound_count journal < a → assembly_of journal a ≡ None
assembly_none files journal a legal beyond = at (assembly_of journal a) refl
  where
    at : (o : Option CodeOf) → assembly_of journal a ≡ o → o ≡ None
    at None is = refl
    at (Some code) is = let bounds = assembly_bounds files journal a code legal is in let most = bounds.1 in absurd (omega arith)

-- an entry that makes an assembly published what it made it of
pub code_made-published : {journal : List Entry} {event : Event} {reply : Reply} {a : ℕ} (m : Makes journal event reply a) →
    code_published event ≡ Some (record { image = m.image; context = m.context })
code_made-published m = ap code_published m.event_is

-- The code of an assembly is what the entry published that made it.
pub assembly_at : (files : Files) (journal : List Entry) (a : ℕ) → IsLegal files journal → (p : PartsAt (Numbers bound_assembly a) journal) →
    assembly_of journal a ≡ code_published p.here.event
assembly_at files journal a legal p =
    let number : a ≡ bound_count p.before + 1 = number_parts files bound_assembly (number-bound files) journal a legal p in
    let m : Makes p.before p.here.event p.here.reply a =
    made files p.before p.here.event p.here.reply a (legal p.before p.here p.after p.parted) p.holds in
    let none : assembly_of p.before a ≡ None =
    assembly_none files p.before a (IsLegal-prefix files p.before (p.here ∷ p.after) (subst (IsLegal files) p.parted legal)) (omega arith) in
    let here : assembly_of (p.before ++ p.here ∷ []) a ≡ code_published p.here.event =
    assembly_of-push p.before p.here a (omega arith) none
    ∙ ap (λ b. cond b (code_published p.here.event) None) (is_number-true a (bound_assembly p.here.reply) p.holds) in
    let stays : assembly_of ((p.before ++ p.here ∷ []) ++ p.after) a ≡ Some (record { image = m.image; context = m.context }) =
    assemblies_stay_each (p.before ++ p.here ∷ []) p.after a (record { image = m.image; context = m.context }) (here ∙ code_made-published m) in
    ap (λ j. assembly_of j a) (p.parted ∙ sym (append_assoc p.before (p.here ∷ []) p.after)) ∙ stays ∙ sym (code_made-published m)

-- each number up to the count is that of an assembly that was made
pub assembly_made : (files : Files) (journal : List Entry) (a : ℕ) → IsLegal files journal → 0 < a → a ≤ bound_count journal →
    (code : CodeOf) × (assembly_of journal a ≡ Some code)
assembly_made files journal a legal some most =
    let p = number_given files bound_assembly (number-bound files) journal a legal some most in
    let m = made files p.before p.here.event p.here.reply a (legal p.before p.here p.after p.parted) p.holds in
    (record { image = m.image; context = m.context }, assembly_at files journal a legal p ∙ code_made-published m)

-- the assembly that the last entry makes
pub assembly_of-made : (files : Files) (journal : List Entry) (entry : Entry) (a : ℕ) → IsLegal files (journal ++ entry ∷ []) →
    bound_assembly entry.reply ≡ Some a → assembly_of (journal ++ entry ∷ []) a ≡ code_published entry.event
assembly_of-made files journal entry a legal bound =
    assembly_at files (journal ++ entry ∷ []) a legal (record { before = journal; here = entry; after = []; parted = refl; holds = bound })
