-- A journal of three threads stays small.
use Rattle.std.proofs.Common.{◌≡◌, ◌≢◌, ◌<◌, ◌≤◌, ◌+◌, ◌*◌, ℕ, zero, suc, Bool, true, false, not, cond, eqb, List, [], ◌∷◌, ◌++◌, length, Option, Some, None, ◌⊎◌, inl, inr, refl, sym, ap, subst, ◌∙◌, arith}
use Rattle.std.specs.List.{filter, filter_map, list_any, slice_get}
use Rattle.std.proofs.lemmas.Bool.Decides.{eqb_tells}
use Rattle.std.proofs.lemmas.List.{length-append, length-map}
use Rattle.host_events.specs.declared.event.Event.{Event}
use Rattle.host_events.specs.declared.event.Event.TheVariants.{Collect}
use Rattle.host_events.specs.declared.reply.Reply.{Reply}
use Rattle.host_events.specs.declared.reply.Reply.TheVariants as replies
use Rattle.host_events.specs.declared.journal.Entry.{Entry}
use Rattle.host_events.specs.declared.order.CodeOf.{CodeOf}
use Rattle.host_events.specs.Journal.{own_entries}
use Rattle.host_events.specs.Operations.{begun_operation, ends, open_in}
use Rattle.host_events.specs.Steps.{Step, entry_of, own_steps, without_codes}
use Rattle.host_events.proofs.Push.{own_entries-push}
use Rattle.host_events.proofs.Steps.{own_steps-entries}
use Rattle.host_threads.specs.Counted.{length-counted, counted_reply, numbered_reply, counted_steps, IsCounted, MayCount}
use Rattle.host_threads.specs.Drive.{CanDrive}
use Rattle.host_threads.specs.Turns.{IsThread}
use Rattle.host_threads.proofs.Rounds.{no_parts}
use Rattle.host_threads.proofs.Places.{parts_of_push}

own_after : (journal : List Entry) (entry : Entry) (t : ℕ) →
    length (own_entries (journal ++ entry ∷ []) t) ≡ length (own_entries journal t) + cond (eqb entry.thread t) 1 0
own_after journal entry t =
    ap length (own_entries-push journal entry t)
    ∙ length-append (own_entries journal t) (cond (eqb entry.thread t) ((entry.event, entry.reply) ∷ []) [])
    ∙ ap (λ n. length (own_entries journal t) + n) (at (eqb entry.thread t))
  where
    at : (b : Bool) → length {A = Event × Reply} (cond b ((entry.event, entry.reply) ∷ []) []) ≡ cond b 1 0
    at true = refl
    at false = refl

each_after : (share : ℕ) (journal : List Entry) (entry : Entry) (t : ℕ) → IsCounted share journal → MayCount share journal entry.thread →
    length (own_entries (journal ++ entry ∷ []) t) ≤ share
each_after share journal entry t counted may = at (eqb_tells entry.thread t)
  where
    at : ((eqb entry.thread t ≡ true) × (entry.thread ≡ t)) ⊎ ((eqb entry.thread t ≡ false) × (entry.thread ≢ t)) → length (own_entries (journal ++ entry ∷ []) t) ≤ share
    at (inl p) =
        let more : length (own_entries (journal ++ entry ∷ []) t) ≡ length (own_entries journal t) + 1 =
        own_after journal entry t ∙ ap (λ b. length (own_entries journal t) + cond b 1 0) p.0 in
        let room : length (own_entries journal t) < share = subst (λ (u : ℕ). length (own_entries journal u) < share) p.1 may.1 in
        omega arith
    at (inr p) =
        let same : length (own_entries (journal ++ entry ∷ []) t) ≡ length (own_entries journal t) + 0 =
        own_after journal entry t ∙ ap (λ b. length (own_entries journal t) + cond b 1 0) p.0 in
        omega (arith, counted.each t)

-- where a thread may count, there is room
pub counted_room : (share : ℕ) (journal : List Entry) (thread : ℕ) → IsCounted share journal → MayCount share journal thread → length journal < 3 * share
counted_room share journal thread counted may =
    at thread may.0.0 may.0.1 may.1
  where
    at : (t : ℕ) → 1 ≤ t → t ≤ 3 → length (own_entries journal t) < share → length journal < 3 * share
    at zero low high room = absurd (omega arith)
    at (suc zero) low high room = omega (arith, length-counted share journal counted, counted.each 2, counted.each 3)
    at (suc (suc zero)) low high room = omega (arith, length-counted share journal counted, counted.each 1, counted.each 3)
    at (suc (suc (suc zero))) low high room = omega (arith, length-counted share journal counted, counted.each 1, counted.each 2)
    at (suc (suc (suc (suc t)))) low high room = absurd (omega arith)

pub IsCounted-push : (share : ℕ) (journal : List Entry) (entry : Entry) → IsCounted share journal → MayCount share journal entry.thread →
    entry.reply ≡ counted_reply journal entry.thread entry.event → IsCounted share (journal ++ entry ∷ [])
IsCounted-push share journal entry counted may reply = record {
  small = counted.small;
  each = λ t. each_after share journal entry t counted may;
  replied = λ before at after e. elim (parts_of_push journal before after entry at e) [
    | inl p ↦
        subst (λ (x : Entry). IsThread 3 x.thread × (x.reply ≡ counted_reply before x.thread x.event)) p.1
        (subst (λ (j : List Entry). IsThread 3 entry.thread × (entry.reply ≡ counted_reply j entry.thread entry.event)) p.0 (may.0, reply))
    | inr p ↦ counted.replied before at p.0 p.1
  ];
}

pub IsCounted-nil : (share : ℕ) → share ≤ 100 → IsCounted share []
IsCounted-nil share small = record {
  small = small;
  each = λ t. omega arith;
  replied = λ before entry after e. absurd (no_parts [] before after entry refl e);
}

own_of : (journal : List Entry) (t : ℕ) (trace : List Step) → own_steps (λ _ _. None) journal t ≡ trace → length (own_entries journal t) ≡ length trace
own_of journal t trace own =
    ap length (sym (own_steps-entries (λ _ _. None) journal t))
    ∙ length-map (own_steps (λ _ _. None) journal t) (λ (s : Step). (s.event, s.reply))
    ∙ ap length own

numbered : (fails : Bool) (journal : List Entry) (thread : ℕ) (reply : Reply) → eqb thread 3 ≡ fails → reply ≡ counted_reply journal thread Collect →
    (n : ℕ) × (reply ≡ numbered_reply fails n) × (◌≡◌ {A = Option CodeOf} None None)
numbered true journal thread reply third is =
    (7, is ∙ ap (λ b. cond b (replies.Entered 7 0) (replies.Made (length journal))) third, refl)
numbered false journal thread reply third is =
    (length journal, is ∙ ap (λ b. cond b (replies.Entered 7 0) (replies.Made (length journal))) third, refl)

-- a flow that asks for fewer events than the share can be driven
pub CanDrive-counted : {Order : Type 0} (event : Order → Event) (share events thread : ℕ) (fails : Bool) → IsThread 3 thread → eqb thread 3 ≡ fails → events < share →
    CanDrive event (IsCounted share) (λ journal t order. MayCount share journal t) (λ _ _. None)
    (λ trace order. (event order ≡ Collect) × (length trace < events)) (λ trace order. length trace ≤ events)
    (λ trace order reply code. (n : ℕ) × (reply ≡ numbered_reply fails n) × (code ≡ None)) thread
CanDrive-counted event share events thread fails within third few = record {
  asked = λ trace journal order suits asks. (within, omega (arith, own_of journal thread trace suits.own, asks.1));
  left = λ trace journal order suits leaves. (within, omega (arith, own_of journal thread trace suits.own));
  taken = λ trace journal order reply suits asks allowed.
      let replied : reply ≡ counted_reply journal thread Collect =
      (allowed.replied journal (entry_of thread (event order) reply) [] refl).1 ∙ ap (λ e. counted_reply journal thread e) asks.0 in
      numbered fails journal thread reply third replied;
}

-- what a flow that makes contexts has open
pub open_in-counted : (numbers : List ℕ) → open_in (without_codes (counted_steps false numbers)) ≡ []
open_in-counted numbers = ap (filter (λ k. not (list_any (λ step. ends k step.0) (without_codes (counted_steps false numbers))))) (none numbers)
  where
    none : (ns : List ℕ) → filter_map (λ step. begun_operation step.1) (without_codes (counted_steps false ns)) ≡ []
    none [] = refl
    none (n ∷ ns) = none ns

-- what holds at each place of a list of three
pub at_three : {X : Type 0} (P : ℕ → X → Type 0) (x y z : X) → P 0 x → P 1 y → P 2 z →
    (i : ℕ) (at : X) → slice_get (x ∷ y ∷ z ∷ []) i ≡ Some at → P i at
at_three P x y z first second third zero at e = let same : x ≡ at = cc in subst (P 0) same first
at_three P x y z first second third (suc zero) at e = let same : y ≡ at = cc in subst (P 1) same second
at_three P x y z first second third (suc (suc zero)) at e = let same : z ≡ at = cc in subst (P 2) same third
at_three P x y z first second third (suc (suc (suc i))) at e = cc

-- three flows, of which the third may fail
pub CanDrive-three : {Order A : Type 0} (event : Order → Event) (share first second third : ℕ) (at : A) → first < share → second < share → third < share →
    (i : ℕ) (flow : ℕ × Bool × List ℕ × A) → slice_get ((first, false, [], at) ∷ (second, false, [], at) ∷ (third, true, [], at) ∷ []) i ≡ Some flow →
    CanDrive event (IsCounted share) (λ journal t order. MayCount share journal t) (λ _ _. None)
    (λ trace order. (event order ≡ Collect) × (length trace < flow.0)) (λ trace order. length trace ≤ flow.0)
    (λ trace order reply code. (n : ℕ) × (reply ≡ numbered_reply flow.1 n) × (code ≡ None)) (i + 1)
CanDrive-three {Order} {A} event share first second third at few fewer fewest =
    at_three (λ (i : ℕ) (flow : ℕ × Bool × List ℕ × A). CanDrive event (IsCounted share) (λ journal t order. MayCount share journal t) (λ _ _. None)
    (λ trace order. (event order ≡ Collect) × (length trace < flow.0)) (λ trace order. length trace ≤ flow.0)
    (λ trace order reply code. (n : ℕ) × (reply ≡ numbered_reply flow.1 n) × (code ≡ None)) (i + 1))
    (first, false, [], at) (second, false, [], at) (third, true, [], at)
    (CanDrive-counted event share first 1 false (omega arith, omega arith) refl few)
    (CanDrive-counted event share second 2 false (omega arith, omega arith) refl fewer)
    (CanDrive-counted event share third 3 true (omega arith, omega arith) refl fewest)
