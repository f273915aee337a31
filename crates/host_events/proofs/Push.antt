-- How what is read off a journal changes when one entry comes.
use Rattle.std.proofs.Common.{◌≡◌, ℕ, ◌+◌, Bool, true, false, not, ◌&&◌, ◌||◌, eqb, cond, List, [], ◌∷◌, ◌++◌, length, map, Option, Some, None, refl, ap, subst, ◌∙◌, ◌⊎◌, inl, inr, append_assoc}
use Rattle.std.specs.List.{cons_option, filter, filter_map, list_any}
use Rattle.std.specs.Option.{is_some}
use Rattle.std.proofs.lemmas.List.{length-append, map-append}
use Rattle.std.proofs.lemmas.List.Elements.{filter-append}
use Rattle.std.proofs.lemmas.List.Folds.{list_any-append}
use Rattle.host_events.specs.declared.event.Event.{Event}
use Rattle.host_events.specs.declared.reply.Reply.{Reply}
use Rattle.host_events.specs.declared.journal.Entry.{Entry}
use Rattle.host_events.specs.Contexts.{made_context, freed_contexts, makes, makes_collectible, unloads, made_count, is_made, is_freed, is_live, is_unloaded, is_collectible}
use Rattle.host_events.specs.Files.{Files}
use Rattle.host_events.specs.Journal.{IsLegal, Fits, IsProper, own_entries}
use Rattle.host_events.specs.Reply.{IsReply}
use Rattle.host_events.proofs.Parts.{filter_map-push}

or-false : (b : Bool) → (b || false) ≡ b
or-false true = refl
or-false false = refl

map-cond : {X Y : Type 0} (f : X → Y) (x : X) (b : Bool) → map f (cond b (x ∷ []) []) ≡ cond b (f x ∷ []) []
map-cond f x true = refl
map-cond f x false = refl

-- a test of some element, after one more
pub list_any-push : {X : Type 0} (p : X → Bool) (xs : List X) (x : X) →
    list_any p (xs ++ x ∷ []) ≡ (list_any p xs || p x)
list_any-push p xs x = list_any-append p xs (x ∷ []) ∙ ap (λ b. list_any p xs || b) (or-false (p x))

-- how many numbers the replies give
abbrev pub count : (Reply → Option ℕ) → List Entry → ℕ
count number journal = length (filter_map (λ entry. number entry.reply) journal)

counted : (o : Option ℕ) → length (cons_option o []) ≡ cond (is_some o) 1 0
counted None = refl
counted (Some n) = refl

pub count-push : (number : Reply → Option ℕ) (journal : List Entry) (entry : Entry) →
    count number (journal ++ entry ∷ []) ≡ count number journal + cond (is_some (number entry.reply)) 1 0
count-push number journal entry =
    ap length (filter_map-push (λ e. number e.reply) journal entry)
    ∙ length-append (filter_map (λ e. number e.reply) journal) (cons_option (number entry.reply) [])
    ∙ ap (λ n. count number journal + n) (counted (number entry.reply))

pub made_count-push : (journal : List Entry) (entry : Entry) →
    made_count (journal ++ entry ∷ []) ≡ made_count journal + cond (is_some (made_context entry.reply)) 1 0
made_count-push journal entry = count-push made_context journal entry

pub is_made-push : (journal : List Entry) (entry : Entry) (c : ℕ) →
    is_made (journal ++ entry ∷ []) c ≡ (is_made journal c || makes c entry.reply)
is_made-push journal entry c = list_any-push (λ e. makes c e.reply) journal entry

pub is_freed-push : (journal : List Entry) (entry : Entry) (c : ℕ) →
    is_freed (journal ++ entry ∷ []) c ≡ (is_freed journal c || list_any (λ d. eqb d c) (freed_contexts entry.reply))
is_freed-push journal entry c =
    list_any-push (λ e. list_any (λ d. eqb d c) (freed_contexts e.reply)) journal entry

pub is_live-push : (journal : List Entry) (entry : Entry) (c : ℕ) →
    is_live (journal ++ entry ∷ []) c ≡ (eqb c 0 || ((is_made journal c || makes c entry.reply) && not (is_freed journal c || list_any (λ d. eqb d c) (freed_contexts entry.reply))))
is_live-push journal entry c =
    ap (λ b. eqb c 0 || (b && not (is_freed (journal ++ entry ∷ []) c))) (is_made-push journal entry c)
    ∙ ap (λ b. eqb c 0 || ((is_made journal c || makes c entry.reply) && not b)) (is_freed-push journal entry c)

pub is_unloaded-push : (journal : List Entry) (entry : Entry) (c : ℕ) →
    is_unloaded (journal ++ entry ∷ []) c ≡ (is_unloaded journal c || unloads c entry.event entry.reply)
is_unloaded-push journal entry c = list_any-push (λ e. unloads c e.event e.reply) journal entry

pub is_collectible-push : (journal : List Entry) (entry : Entry) (c : ℕ) →
    is_collectible (journal ++ entry ∷ []) c ≡ (is_collectible journal c || makes_collectible c entry.event entry.reply)
is_collectible-push journal entry c = list_any-push (λ e. makes_collectible c e.event e.reply) journal entry

-- the entry is one of its thread's own
pub own_entries-push : (journal : List Entry) (entry : Entry) (thread : ℕ) →
    own_entries (journal ++ entry ∷ []) thread ≡ own_entries journal thread ++ cond (eqb entry.thread thread) ((entry.event, entry.reply) ∷ []) []
own_entries-push journal entry thread =
    ap (map own) (filter-append (λ e. eqb e.thread thread) journal (entry ∷ []))
    ∙ map-append own (filter (λ e. eqb e.thread thread) journal) (filter (λ e. eqb e.thread thread) (entry ∷ []))
    ∙ ap (λ es. own_entries journal thread ++ es) (map-cond own entry (eqb entry.thread thread))
  where
    own : Entry → Event × Reply
    own e = (e.event, e.reply)

-- where a list with one more element is parted at an element: at the new one, or at one before it
pub push_parts : {X : Type 0} (xs before after : List X) (x y : X) → xs ++ x ∷ [] ≡ before ++ y ∷ after →
    ((xs ≡ before) × (x ≡ y)) ⊎ ((rest : List X) × (xs ≡ before ++ y ∷ rest))
push_parts [] [] after x y e = inl (refl, cc)
push_parts [] (b ∷ []) after x y e = cc
push_parts [] (b ∷ c ∷ bs) after x y e = cc
push_parts (a ∷ xs) [] after x y e = let same : a ≡ y = cc in inr (xs, ap (λ v. v ∷ xs) same)
push_parts (a ∷ xs) (b ∷ bs) after x y e =
    let heads : a ≡ b = cc in
    let tails : xs ++ x ∷ [] ≡ bs ++ y ∷ after = cc in
    elim (push_parts xs bs after x y tails) [
      | inl p ↦ let s : xs ≡ bs = p.0 in inl (cc, p.1)
      | inr p ↦ let s : xs ≡ bs ++ y ∷ p.0 = p.1 in inr (p.0, cc)
    ]

pub IsLegal-push : (files : Files) (journal : List Entry) (entry : Entry) →
    IsLegal files journal → IsReply files journal entry.event entry.reply → IsLegal files (journal ++ entry ∷ [])
IsLegal-push files journal entry legal reply before at after e =
    elim (push_parts journal before after entry at e) [
      | inl p ↦ subst (λ (x : Entry). IsReply files before x.event x.reply) p.1 (subst (λ (j : List Entry). IsReply files j entry.event entry.reply) p.0 reply)
      | inr p ↦ legal before at p.0 p.1
    ]

pub IsProper-push : (files : Files) (journal : List Entry) (entry : Entry) →
    IsProper files journal → Fits journal entry.thread entry.event → IsReply files journal entry.event entry.reply →
    IsProper files (journal ++ entry ∷ [])
IsProper-push files journal entry proper fits reply = record {
  legal = IsLegal-push files journal entry proper.legal reply;
  fits = λ before at after e. elim (push_parts journal before after entry at e) [
    | inl p ↦ subst (λ (x : Entry). Fits before x.thread x.event) p.1 (subst (λ (j : List Entry). Fits j entry.thread entry.event) p.0 fits)
    | inr p ↦ proper.fits before at p.0 p.1
  ];
}

-- what holds of a journal held of what it began with
pub IsLegal-prefix : (files : Files) (journal later : List Entry) → IsLegal files (journal ++ later) → IsLegal files journal
IsLegal-prefix files journal later legal before at after e =
    legal before at (after ++ later) (ap (λ v. v ++ later) e ∙ append_assoc before (at ∷ after) later)

pub IsProper-prefix : (files : Files) (journal later : List Entry) → IsProper files (journal ++ later) → IsProper files journal
IsProper-prefix files journal later proper = record {
  legal = IsLegal-prefix files journal later proper.legal;
  fits = λ before at after e. proper.fits before at (after ++ later) (ap (λ v. v ++ later) e ∙ append_assoc before (at ∷ after) later);
}

nil_parts : {X : Type 0} (before after : List X) (y : X) → [] ≡ before ++ y ∷ after → ⊥
nil_parts [] after y e = cc
nil_parts (b ∷ bs) after y e = cc

pub IsProper-nil : (files : Files) → IsProper files []
IsProper-nil files = record {
  legal = λ before at after e. absurd (nil_parts before after at e);
  fits = λ before at after e. absurd (nil_parts before after at e);
}
