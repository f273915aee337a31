-- Operations: how they are numbered, within which one a thread is, and which replies it had since that began.
use Rattle.std.proofs.Common.{◌≡◌, ℕ, ◌+◌, ◌<◌, ◌⊎◌, inl, inr, Bool, true, false, not, ◌&&◌, ◌||◌, cond, eqb, zero, suc, List, [], ◌∷◌, ◌++◌, map, Option, Some, None, refl, sym, ap, subst, ◌∙◌, append-nil, arith}
use Rattle.std.proofs.ByRecursion as all
use Rattle.std.specs.List.{AllByRecursion, Contains, cons_option, filter, filter_map, list_any}
use Rattle.std.specs.Option.{is_some}
use Rattle.std.proofs.lemmas.Bool.{and_from, and_parts, eqb-true, eq-eqb, false_from_ne_true, or_from, or_left, or_right}
use Rattle.std.proofs.lemmas.List.Elements.{filter-append}
use Rattle.host_events.specs.declared.event.Event.{Event}
use Rattle.host_events.specs.declared.event.Event.TheVariants as events
use Rattle.host_events.specs.declared.reply.Reply.{Reply}
use Rattle.host_events.specs.declared.journal.Entry.{Entry}
use Rattle.host_events.specs.Contexts.{is_number}
use Rattle.host_events.specs.Files.{Files}
use Rattle.host_events.specs.Journal.{Fits, HasNoOpen, IsLegal, IsProper, own_entries}
use Rattle.host_events.specs.Laws.{OwnEntriesTellWithin}
use Rattle.host_events.specs.Operations.{IsOpen, IsWithin, begun_count, begun_operation, ends, open_in, open_operations}
use Rattle.host_events.proofs.Numbering.{Counts, Numbers, count-push, is_number-some, is_number-true, number_bounds, one_number}
use Rattle.host_events.proofs.Operations.{begun_own, ended_own}
use Rattle.host_events.proofs.Parts.{PartsAt, any_parts, each_push, filter-filter, filter-same, filter_map-push, parts-append, given_parts, kept_in, parts_any, parts_given}
use Rattle.host_events.proofs.Push.{IsLegal-prefix, IsProper-prefix, list_any-push}
use Rattle.host_events.proofs.Quiet.{Begins, begins}

-- a reply that says that an operation was begun gives it the next number
pub number-begun : (files : Files) → Counts files begun_operation
number-begun files journal event reply k is begun = (begins files journal event reply k is begun).number_is

pub begun_count-push : (journal : List Entry) (entry : Entry) →
    begun_count (journal ++ entry ∷ []) ≡ begun_count journal + cond (is_some (begun_operation entry.reply)) 1 0
begun_count-push journal entry = count-push begun_operation journal entry

-- the operation that the entry began, where it is one of the thread
abbrev pub begun_by : ℕ → Entry → Option ℕ
begun_by thread entry = cond (eqb entry.thread thread) (begun_operation entry.reply) None

-- an entry of the journal ended the operation
abbrev pub is_ended : List Entry → ℕ → Bool
is_ended journal k = list_any (λ entry. ends k entry.event) journal

pub begun_by-parts : (thread : ℕ) (entry : Entry) (k : ℕ) → begun_by thread entry ≡ Some k →
    (entry.thread ≡ thread) × (begun_operation entry.reply ≡ Some k)
begun_by-parts thread entry k h = at (eqb entry.thread thread) refl h
  where
    at : (b : Bool) → eqb entry.thread thread ≡ b → cond b (begun_operation entry.reply) None ≡ Some k →
        (entry.thread ≡ thread) × (begun_operation entry.reply ≡ Some k)
    at true is begun = (eqb-true entry.thread thread is, begun)
    at false is begun = cc begun

begun_by-own : (entry : Entry) → begun_by entry.thread entry ≡ begun_operation entry.reply
begun_by-own entry = ap (λ b. cond b (begun_operation entry.reply) None) (eq-eqb entry.thread entry.thread refl)

-- what ends an operation is a `Leave` of it
pub ends-leave : (k : ℕ) (event : Event) → ends k event ≡ true → event ≡ events.Leave k
ends-leave k (events.Leave operation) h = ap (λ o. events.Leave o) (eqb-true operation k h)
ends-leave k event h = cc h

not_or : (a b : Bool) → not (a || b) ≡ (not a && not b)
not_or true b = refl
not_or false b = refl

-- what was begun and not ended, after one more: an end takes away, and a beginning adds
still_open : {X : Type 0} (begins_by : X → Option ℕ) (ends_by : ℕ → X → Bool) (xs : List X) (x : X) →
    filter (λ k. not (list_any (ends_by k) (xs ++ x ∷ []))) (filter_map begins_by (xs ++ x ∷ []))
    ≡ filter (λ k. not (ends_by k x)) (filter (λ k. not (list_any (ends_by k) xs)) (filter_map begins_by xs))
    ++ filter (λ k. not (list_any (ends_by k) (xs ++ x ∷ []))) (cons_option (begins_by x) [])
still_open begins_by ends_by xs x =
    ap (filter (λ k. not (list_any (ends_by k) (xs ++ x ∷ [])))) (filter_map-push begins_by xs x)
    ∙ filter-append (λ k. not (list_any (ends_by k) (xs ++ x ∷ []))) (filter_map begins_by xs) (cons_option (begins_by x) [])
    ∙ ap (λ ks. ks ++ filter (λ k. not (list_any (ends_by k) (xs ++ x ∷ []))) (cons_option (begins_by x) []))
    (filter-same (λ k. not (list_any (ends_by k) (xs ++ x ∷ []))) (λ k. not (list_any (ends_by k) xs) && not (ends_by k x))
    (filter_map begins_by xs)
    (λ k has. ap not (list_any-push (ends_by k) xs x) ∙ not_or (list_any (ends_by k) xs) (ends_by k x))
    ∙ sym (filter-filter (λ k. not (ends_by k x)) (λ k. not (list_any (ends_by k) xs)) (filter_map begins_by xs)))

-- how what a thread has open changes
pub open_operations-push : (journal : List Entry) (entry : Entry) (thread : ℕ) →
    open_operations (journal ++ entry ∷ []) thread
    ≡ filter (λ k. not (ends k entry.event)) (open_operations journal thread)
    ++ filter (λ k. not (is_ended (journal ++ entry ∷ []) k)) (cons_option (begun_by thread entry) [])
open_operations-push journal entry thread = still_open (begun_by thread) (λ k e. ends k e.event) journal entry

-- how what events leave open changes
pub open_in-push : (trace : List (Event × Reply)) (step : Event × Reply) →
    open_in (trace ++ step ∷ [])
    ≡ filter (λ k. not (ends k step.0)) (open_in trace)
    ++ filter (λ k. not (list_any (λ s. ends k s.0) (trace ++ step ∷ []))) (cons_option (begun_operation step.1) [])
open_in-push trace step = still_open (λ s. begun_operation s.1) (λ k s. ends k s.0) trace step

-- what is let through is an element
kept : {X : Type 0} (p : X → Bool) (xs : List X) (x : X) → Contains (filter p xs) x → Contains xs x
kept p [] x h = h
kept {X} p (z ∷ xs) x h = at (p z) (kept p xs x) h
  where
    at : (b : Bool) → (Contains (filter p xs) x → Contains xs x) → Contains (cond b (z ∷ filter p xs) (filter p xs)) x → Contains (z ∷ xs) x
    at true later (zero, within, is) = (0, omega arith, is)
    at true later (suc i, within, is) = let has = later (i, omega arith, is) in (suc has.0, omega (arith, has.1), has.2)
    at false later h = let has = later h in (suc has.0, omega (arith, has.1), has.2)

filter-all : {X : Type 0} (p : X → Bool) (xs : List X) → ((x : X) → Contains xs x → p x ≡ true) → filter p xs ≡ xs
filter-all p [] passes = refl
filter-all {X} p (x ∷ xs) passes =
    ap (λ b. cond b (x ∷ filter p xs) (filter p xs)) (passes x (0, omega arith, refl))
    ∙ ap (λ ys. x ∷ ys) (filter-all p xs (λ z has. passes z (suc has.0, omega (arith, has.1), has.2)))

-- an entry of the thread began what it has open
open_began : (journal : List Entry) (thread k : ℕ) → Contains (open_operations journal thread) k → PartsAt (λ e. begun_by thread e ≡ Some k) journal
open_began journal thread k has =
    parts_given (begun_by thread) journal k (kept (λ n. not (is_ended journal n)) (filter_map (begun_by thread) journal) k has)

-- an entry of a thread began the operation within which the thread is
pub within_began : (journal : List Entry) (thread k : ℕ) → IsWithin journal thread k → PartsAt (λ e. begun_by thread e ≡ Some k) journal
within_began journal thread k within =
    open_began journal thread k (subst (λ (ks : List ℕ). Contains ks k) (sym within) (0, omega arith, refl))

-- the one that a thread began is one that has the number
unfoldable pub numbered : (journal : List Entry) (thread k : ℕ) → PartsAt (λ e. begun_by thread e ≡ Some k) journal → PartsAt (Numbers begun_operation k) journal
numbered journal thread k p = record {
  before = p.before;
  here = p.here;
  after = p.after;
  parted = p.parted;
  holds = (begun_by-parts thread p.here k p.holds).1;
}

-- one thread alone began an operation
one_opener : (files : Files) (journal : List Entry) (k thread other : ℕ) → IsLegal files journal →
    PartsAt (λ e. begun_by thread e ≡ Some k) journal → PartsAt (λ e. begun_by other e ≡ Some k) journal → thread ≡ other
unfolding numbered
one_opener files journal k thread other legal p q =
    let one = one_number files begun_operation (number-begun files) journal k legal (numbered journal thread k p) (numbered journal other k q) in
    let same : p.here ≡ q.here = one.1 in
    sym (begun_by-parts thread p.here k p.holds).0 ∙ ap (λ e. e.thread) same ∙ (begun_by-parts other q.here k q.holds).0

-- in a proper journal, the thread that ends an operation began it before
ended_began : (files : Files) (journal : List Entry) (k : ℕ) → IsProper files journal → (p : PartsAt (λ e. ends k e.event ≡ true) journal) →
    PartsAt (λ e. begun_by p.here.thread e ≡ Some k) p.before
ended_began files journal k proper p =
    within_began p.before p.here.thread k
    (subst (λ (event : Event). Fits p.before p.here.thread event) (ends-leave k p.here.event p.holds) (proper.fits p.before p.here p.after p.parted))

-- what is not begun yet is not ended
not_ended : (files : Files) (journal : List Entry) (k : ℕ) → IsProper files journal → begun_count journal < k → is_ended journal k ≡ false
not_ended files journal k proper beyond =
    false_from_ne_true (is_ended journal k)
    (λ ended.
    let p = parts_any (λ e. ends k e.event) journal ended in
    let began : PartsAt (λ e. begun_by p.here.thread e ≡ Some k) journal =
    subst (PartsAt (λ e. begun_by p.here.thread e ≡ Some k)) (sym p.parted)
    (parts-append (λ e. begun_by p.here.thread e ≡ Some k) p.before (p.here ∷ p.after) (ended_began files journal k proper p)) in
    let bounds = number_bounds files begun_operation (number-begun files) journal k proper.legal (numbered journal p.here.thread k began) in
    let most = bounds.1 in
    omega arith)

-- an entry of another thread changes nothing of what a thread has open
pub open-other : (files : Files) (journal : List Entry) (entry : Entry) (thread : ℕ) → IsProper files (journal ++ entry ∷ []) →
    eqb entry.thread thread ≡ false → open_operations (journal ++ entry ∷ []) thread ≡ open_operations journal thread
open-other files journal entry thread proper other =
    open_operations-push journal entry thread
    ∙ ap (λ o. filter (λ k. not (ends k entry.event)) (open_operations journal thread) ++ filter (λ k. not (is_ended (journal ++ entry ∷ []) k)) (cons_option o []))
    (ap (λ b. cond b (begun_operation entry.reply) None) other)
    ∙ append-nil (filter (λ k. not (ends k entry.event)) (open_operations journal thread))
    ∙ filter-all (λ k. not (ends k entry.event)) (open_operations journal thread)
    (λ k has. ap not (false_from_ne_true (ends k entry.event)
    (λ ended.
    let within : IsWithin journal entry.thread k =
    subst (λ (event : Event). Fits journal entry.thread event) (ends-leave k entry.event ended) (proper.fits journal entry [] refl) in
    let same : entry.thread ≡ thread =
    one_opener files journal k entry.thread thread (IsLegal-prefix files journal (entry ∷ []) proper.legal)
    (within_began journal entry.thread k within) (open_began journal thread k has) in
    let is : eqb entry.thread thread ≡ true = eq-eqb entry.thread thread same in
    cc (is, other))))

-- the entry begins an operation: it is the thread's, with this one reply
pub within-begun : (files : Files) (journal : List Entry) (entry : Entry) (k : ℕ) → IsProper files (journal ++ entry ∷ []) →
    begun_operation entry.reply ≡ Some k → IsWithin (journal ++ entry ∷ []) entry.thread k
within-begun files journal entry k proper begun =
    let b : Begins journal entry.event entry.reply k = begins files journal entry.event entry.reply k (proper.legal journal entry [] refl) begun in
    let none : HasNoOpen journal entry.thread =
    subst (λ (event : Event). Fits journal entry.thread event) b.event_is (proper.fits journal entry [] refl) in
    let number = b.number_is in
    let before : is_ended journal k ≡ false = not_ended files journal k (IsProper-prefix files journal (entry ∷ []) proper) (omega arith) in
    let here : ends k entry.event ≡ false = ap (ends k) b.event_is in
    let still : is_ended (journal ++ entry ∷ []) k ≡ false =
    list_any-push (λ e. ends k e.event) journal entry ∙ or_from (is_ended journal k) (ends k entry.event) before here in
    open_operations-push journal entry entry.thread
    ∙ ap (λ ks. filter (λ n. not (ends n entry.event)) ks ++ filter (λ n. not (is_ended (journal ++ entry ∷ []) n)) (cons_option (begun_by entry.thread entry) [])) none
    ∙ ap (λ o. filter (λ n. not (is_ended (journal ++ entry ∷ []) n)) (cons_option o [])) (begun_by-own entry ∙ begun)
    ∙ ap (λ b. cond (not b) (k ∷ []) []) still

-- a thread within an operation begins none
within_begins_none : (files : Files) (journal : List Entry) (entry : Entry) (k : ℕ) → IsProper files (journal ++ entry ∷ []) →
    IsWithin journal entry.thread k → begun_operation entry.reply ≡ None
within_begins_none files journal entry k proper within = at (begun_operation entry.reply) refl
  where
    at : (o : Option ℕ) → begun_operation entry.reply ≡ o → o ≡ None
    at None is = refl
    at (Some n) is =
        let b : Begins journal entry.event entry.reply n = begins files journal entry.event entry.reply n (proper.legal journal entry [] refl) is in
        let none : open_operations journal entry.thread ≡ [] =
        subst (λ (event : Event). Fits journal entry.thread event) b.event_is (proper.fits journal entry [] refl) in
        absurd (cc (none, within))

own-stays : (files : Files) (journal : List Entry) (entry : Entry) (k : ℕ) → IsProper files (journal ++ entry ∷ []) →
    IsWithin journal entry.thread k → ends k entry.event ≡ false → IsWithin (journal ++ entry ∷ []) entry.thread k
own-stays files journal entry k proper within goes_on =
    open_operations-push journal entry entry.thread
    ∙ ap (λ ks. filter (λ n. not (ends n entry.event)) ks ++ filter (λ n. not (is_ended (journal ++ entry ∷ []) n)) (cons_option (begun_by entry.thread entry) [])) within
    ∙ ap (λ o. filter (λ n. not (ends n entry.event)) (k ∷ []) ++ filter (λ n. not (is_ended (journal ++ entry ∷ []) n)) (cons_option o []))
    (begun_by-own entry ∙ within_begins_none files journal entry k proper within)
    ∙ append-nil (filter (λ n. not (ends n entry.event)) (k ∷ []))
    ∙ ap (λ b. cond (not b) (k ∷ []) []) goes_on

-- a thread stays within an operation, whatever any thread asks for, until it leaves it
pub within-stays : (files : Files) (journal : List Entry) (entry : Entry) (thread k : ℕ) → IsProper files (journal ++ entry ∷ []) →
    IsWithin journal thread k → ends k entry.event ≡ false → IsWithin (journal ++ entry ∷ []) thread k
within-stays files journal entry thread k proper within goes_on = at (eqb entry.thread thread) refl
  where
    at : (b : Bool) → eqb entry.thread thread ≡ b → IsWithin (journal ++ entry ∷ []) thread k
    at true is =
        let same : entry.thread ≡ thread = eqb-true entry.thread thread is in
        subst (λ t. IsWithin (journal ++ entry ∷ []) t k) same
        (own-stays files journal entry k proper (subst (λ t. IsWithin journal t k) (sym same) within) goes_on)
    at false is = open-other files journal entry thread proper is ∙ within

-- after a `Leave` a thread is within none
pub within-ended : (files : Files) (journal : List Entry) (entry : Entry) (k : ℕ) → IsProper files (journal ++ entry ∷ []) →
    entry.event ≡ events.Leave k → HasNoOpen (journal ++ entry ∷ []) entry.thread
within-ended files journal entry k proper leaves =
    let within : IsWithin journal entry.thread k =
    subst (λ (event : Event). Fits journal entry.thread event) leaves (proper.fits journal entry [] refl) in
    let ended : ends k entry.event ≡ true = ap (ends k) leaves ∙ eq-eqb k k refl in
    open_operations-push journal entry entry.thread
    ∙ ap (λ ks. filter (λ n. not (ends n entry.event)) ks ++ filter (λ n. not (is_ended (journal ++ entry ∷ []) n)) (cons_option (begun_by entry.thread entry) [])) within
    ∙ ap (λ o. filter (λ n. not (ends n entry.event)) (k ∷ []) ++ filter (λ n. not (is_ended (journal ++ entry ∷ []) n)) (cons_option o []))
    (begun_by-own entry ∙ within_begins_none files journal entry k proper within)
    ∙ append-nil (filter (λ n. not (ends n entry.event)) (k ∷ []))
    ∙ ap (λ b. cond (not b) (k ∷ []) []) ended

-- a thread within none stays there until it begins an operation
pub no_open-stays : (journal : List Entry) (entry : Entry) (thread : ℕ) →
    HasNoOpen journal thread → begun_by thread entry ≡ None → HasNoOpen (journal ++ entry ∷ []) thread
no_open-stays journal entry thread none begins_none =
    open_operations-push journal entry thread
    ∙ ap (λ ks. filter (λ n. not (ends n entry.event)) ks ++ filter (λ n. not (is_ended (journal ++ entry ∷ []) n)) (cons_option (begun_by thread entry) [])) none
    ∙ ap (λ o. filter (λ n. not (is_ended (journal ++ entry ∷ []) n)) (cons_option o [])) begins_none

-- In a proper journal a thread is within one operation, or within none.
pub within_or_none : (files : Files) (journal : List Entry) (thread : ℕ) → IsProper files journal →
    HasNoOpen journal thread ⊎ ((k : ℕ) × IsWithin journal thread k)
within_or_none files journal thread =
    each_push (λ (j : List Entry). IsProper files j → HasNoOpen j thread ⊎ ((k : ℕ) × IsWithin j thread k)) (λ proper. inl refl)
    (λ j e before proper. step j e proper (before (IsProper-prefix files j (e ∷ []) proper)) (begun_by thread e) refl) journal
  where
    goes : (j : List Entry) (e : Entry) (k : ℕ) → IsProper files (j ++ e ∷ []) → IsWithin j thread k → (b : Bool) → ends k e.event ≡ b →
        HasNoOpen (j ++ e ∷ []) thread ⊎ ((n : ℕ) × IsWithin (j ++ e ∷ []) thread n)
    goes j e k proper within true ended =
        let left : e.event ≡ events.Leave k = ends-leave k e.event ended in
        let own : IsWithin j e.thread k = subst (λ (event : Event). Fits j e.thread event) left (proper.fits j e [] refl) in
        let same : e.thread ≡ thread =
        one_opener files j k e.thread thread (IsLegal-prefix files j (e ∷ []) proper.legal) (within_began j e.thread k own) (within_began j thread k within) in
        inl (subst (HasNoOpen (j ++ e ∷ [])) same (within-ended files j e k proper left))
    goes j e k proper within false on = inr (k, within-stays files j e thread k proper within on)

    step : (j : List Entry) (e : Entry) → IsProper files (j ++ e ∷ []) → (HasNoOpen j thread ⊎ ((k : ℕ) × IsWithin j thread k)) →
        (o : Option ℕ) → begun_by thread e ≡ o → HasNoOpen (j ++ e ∷ []) thread ⊎ ((k : ℕ) × IsWithin (j ++ e ∷ []) thread k)
    step j e proper (inl none) None is = inl (no_open-stays j e thread none is)
    step j e proper (inl none) (Some k) is =
        let own = begun_by-parts thread e k is in
        inr (k, subst (λ t. IsWithin (j ++ e ∷ []) t k) own.0 (within-begun files j e k proper own.1))
    step j e proper (inr (k, within)) o is = goes j e k proper within (ends k e.event) refl

-- an operation within which a thread is, is open
pub within-open : (journal : List Entry) (thread k : ℕ) → IsWithin journal thread k → IsOpen journal k
within-open journal thread k within =
    let p = within_began journal thread k within in
    let begun : list_any (λ e. is_number k (begun_operation e.reply)) journal ≡ true =
    any_parts (λ e. is_number k (begun_operation e.reply)) journal (record {
      before = p.before;
      here = p.here;
      after = p.after;
      parted = p.parted;
      holds = is_number-true k (begun_operation p.here.reply) (begun_by-parts thread p.here k p.holds).1;
    }) in
    let passes : AllByRecursion (λ n. not (is_ended journal n) ≡ true) (k ∷ []) =
    subst (AllByRecursion (λ n. not (is_ended journal n) ≡ true)) within (all.kept_by_passes (λ n. not (is_ended journal n)) (filter_map (begun_by thread) journal)) in
    and_from (list_any (λ e. is_number k (begun_operation e.reply)) journal) (not (is_ended journal k)) begun passes.0

-- In a proper journal a thread is within each operation that is open.
pub open-within : (files : Files) (journal : List Entry) (k : ℕ) → IsProper files journal → IsOpen journal k → (thread : ℕ) × IsWithin journal thread k
open-within files journal k proper is =
    let parts = and_parts (list_any (λ e. is_number k (begun_operation e.reply)) journal) (not (is_ended journal k)) is in
    let p = parts_any (λ e. is_number k (begun_operation e.reply)) journal parts.0 in
    let began : begun_by p.here.thread p.here ≡ Some k = begun_by-own p.here ∙ is_number-some k (begun_operation p.here.reply) p.holds in
    let has : Contains (open_operations journal p.here.thread) k =
    kept_in (λ n. not (is_ended journal n)) (filter_map (begun_by p.here.thread) journal) k
    (given_parts (begun_by p.here.thread) journal k (record { before = p.before; here = p.here; after = p.after; parted = p.parted; holds = began }))
    parts.1 in
    (p.here.thread, at p.here.thread has (within_or_none files journal p.here.thread proper))
  where
    at : (thread : ℕ) → Contains (open_operations journal thread) k → (HasNoOpen journal thread ⊎ ((n : ℕ) × IsWithin journal thread n)) → IsWithin journal thread k
    at thread has (inl none) = let empty : Contains [] k = subst (λ (ks : List ℕ). Contains ks k) none has in absurd (omega (arith, empty.1))
    at thread has (inr (n, within)) = one n within (subst (λ (ks : List ℕ). Contains ks k) within has)
      where
        one : (n : ℕ) → IsWithin journal thread n → Contains (n ∷ []) k → IsWithin journal thread k
        one n within (zero, inside, same) = within ∙ ap (λ m. m ∷ []) same
        one n within (suc i, inside, same) = absurd (omega arith)

same_bool : (a b : Bool) → (a ≡ true → b ≡ true) → (b ≡ true → a ≡ true) → a ≡ b
same_bool true b to from = sym (to refl)
same_bool false true to from = from refl
same_bool false false to from = refl

-- an end by a thread stands among its own entries
own_ended : (k : ℕ) (before : List Entry) (e : Entry) (after : List Entry) (thread : ℕ) → eqb e.thread thread ≡ true → ends k e.event ≡ true →
    list_any (λ step. ends k step.0) (own_entries (before ++ e ∷ after) thread) ≡ true
own_ended k [] e after thread own ended =
    ap (λ b. list_any (λ (step : Event × Reply). ends k step.0) (map (λ x. (x.event, x.reply)) (cond b (e ∷ filter (λ x. eqb x.thread thread) after) (filter (λ x. eqb x.thread thread) after)))) own
    ∙ or_left (ends k e.event) (list_any (λ step. ends k step.0) (own_entries after thread)) ended
own_ended k (b ∷ before) e after thread own ended = at (eqb b.thread thread) (own_ended k before e after thread own ended)
  where
    pair : Entry → Event × Reply
    pair x = (x.event, x.reply)

    mine : List Entry
    mine = filter (λ x. eqb x.thread thread) (before ++ e ∷ after)

    at : (c : Bool) → list_any (λ step. ends k step.0) (map pair mine) ≡ true → list_any (λ step. ends k step.0) (map pair (cond c (b ∷ mine) mine)) ≡ true
    at true later = or_right (ends k b.event) (list_any (λ step. ends k step.0) (map pair mine)) later
    at false later = later

-- What a thread has open follows from its own entries: no other thread ends what it began.
pub own_entries_tell_within_each : OwnEntriesTellWithin
own_entries_tell_within_each files journal thread proper =
    filter-same (λ k. not (is_ended journal k)) (λ k. not (list_any (λ step. ends k step.0) (own_entries journal thread)))
    (filter_map (begun_by thread) journal)
    (λ k has. ap not (same_bool (is_ended journal k) (list_any (λ step. ends k step.0) (own_entries journal thread))
    (λ ended.
    let p = parts_any (λ e. ends k e.event) journal ended in
    let began : PartsAt (λ e. begun_by p.here.thread e ≡ Some k) journal =
    subst (PartsAt (λ e. begun_by p.here.thread e ≡ Some k)) (sym p.parted)
    (parts-append (λ e. begun_by p.here.thread e ≡ Some k) p.before (p.here ∷ p.after) (ended_began files journal k proper p)) in
    let same : p.here.thread ≡ thread =
    one_opener files journal k p.here.thread thread proper.legal began (parts_given (begun_by thread) journal k has) in
    subst (λ (j : List Entry). list_any (λ step. ends k step.0) (own_entries j thread) ≡ true) (sym p.parted)
    (own_ended k p.before p.here p.after thread (eq-eqb p.here.thread thread same) p.holds))
    (ended_own k journal thread)))
    ∙ ap (filter (λ k. not (list_any (λ step. ends k step.0) (own_entries journal thread)))) (sym (begun_own journal thread))
