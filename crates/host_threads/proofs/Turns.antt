-- The turns taken so far.
use Rattle.std.proofs.Common.{◌≡◌, ◌≢◌, ◌<◌, ◌-◌, ◌+◌, ◌%◌, ℕ, zero, suc, Bool, true, false, not, ◌&&◌, ◌||◌, eqb, cond, List, [], ◌∷◌, ◌++◌, length, get_or, set, Option, Some, None, inl, inr, refl, sym, ap, subst, ◌∙◌, arith}
use Rattle.std.specs.List.{filter, list_any, range_with_len, slice_get}
use Rattle.std.specs.Option.{option_map, option_map_or}
use Rattle.std.proofs.lemmas.Bool.Decides.{eqb_tells}
use Rattle.std.proofs.lemmas.List.Elements.{filter_agree}
use Rattle.std.proofs.lemmas.List.{length-map, length-set, length_push}
use Rattle.std.proofs.lemmas.Option.{slice_get_within, slice_get-map}
use Rattle.std.proofs.Math.Nat.{mod-add-mod}
use Rattle.host_events.specs.declared.flow.Next.{Next}
use Rattle.host_events.specs.declared.flow.Next.TheVariants as nexts
use Rattle.host_events.specs.declared.journal.Entry.{Entry}
use Rattle.host_events.proofs.Push.{list_any-push}
use Rattle.host_threads.specs.declared.seat.Seat.{Seat}
use Rattle.host_threads.specs.Seats.{asks, asks_at, asking, given}
use Rattle.host_threads.specs.Turns.{IsThread, IsOfThreads, digit_at, TakesTurns}
use Rattle.host_threads.proofs.Places.{slice_get-set_other, slice_get-set_same, filter_passes, filter-filter, filter-or_none, filter-range_more, parts_of_push}

or_assoc : (a b c : Bool) → ((a || b) || c) ≡ (a || (b || c))
or_assoc true b c = refl
or_assoc false b c = refl

-- the threads, in rising order, that have an entry among these or will ask later
abbrev pub unfinished_or : ℕ → (ℕ → Bool) → List Entry → List ℕ
unfinished_or threads later entries =
    filter (λ t. list_any (λ entry. eqb entry.thread t) entries || later t) (range_with_len 1 threads)

-- turns are taken, where some threads will ask later
abbrev pub TakesTurnsSoFar : ℕ → (ℕ → Bool) → List Entry → List ℕ → Type 0
TakesTurnsSoFar threads later journal schedule =
    (before : List Entry) (entry : Entry) (after : List Entry) → journal ≡ before ++ entry ∷ after →
    let waiting = unfinished_or threads later (entry ∷ after) in
    slice_get waiting (digit_at schedule (length before) % length waiting) ≡ Some entry.thread

-- The one whose turn it is had an entry to come, and all others have one to come where they had.
unfinished_or-push : (threads : ℕ) (later after : ℕ → Bool) (entry : Entry) (entries : List Entry) →
    ((t : ℕ) → (eqb entry.thread t || after t) ≡ later t) →
    unfinished_or threads after (entries ++ entry ∷ []) ≡ unfinished_or threads later entries
unfinished_or-push threads later after entry entries same =
    filter_agree (λ t. list_any (λ e. eqb e.thread t) (entries ++ entry ∷ []) || after t)
    (λ t. list_any (λ e. eqb e.thread t) entries || later t)
    (λ t. ap (λ b. b || after t) (list_any-push (λ (e : Entry). eqb e.thread t) entries entry)
    ∙ or_assoc (list_any (λ e. eqb e.thread t) entries) (eqb entry.thread t) (after t)
    ∙ ap (λ b. list_any (λ e. eqb e.thread t) entries || b) (same t))
    (range_with_len 1 threads)

-- it is the turn of the thread of the entry, of those that wait, at this digit
abbrev IsTurnOf : List ℕ → List ℕ → ℕ → Entry → Type 0
IsTurnOf schedule waiting j entry = slice_get waiting (digit_at schedule j % length waiting) ≡ Some entry.thread

pub TakesTurnsSoFar-push : (threads : ℕ) (later after : ℕ → Bool) (journal : List Entry) (entry : Entry) (schedule : List ℕ) →
    TakesTurnsSoFar threads later journal schedule → IsTurnOf schedule (unfinished_or threads later []) (length journal) entry →
    ((t : ℕ) → (eqb entry.thread t || after t) ≡ later t) →
    TakesTurnsSoFar threads after (journal ++ entry ∷ []) schedule
TakesTurnsSoFar-push threads later after journal entry schedule taken turn same before at rest e =
    elim (parts_of_push journal before rest entry at e) [
      | inl p ↦
          subst (λ (r : List Entry). IsTurnOf schedule (unfinished_or threads after (at ∷ r)) (length before) at) (sym p.2)
          (subst (λ (x : Entry). IsTurnOf schedule (unfinished_or threads after (x ∷ [])) (length before) x) p.1
          (subst (λ (j : List Entry). IsTurnOf schedule (unfinished_or threads after (entry ∷ [])) (length j) entry) p.0
          (subst (λ (ws : List ℕ). IsTurnOf schedule ws (length journal) entry)
          (sym (unfinished_or-push threads later after entry [] same)) turn)))
      | inr p ↦
          subst (λ (r : List Entry). IsTurnOf schedule (unfinished_or threads after (at ∷ r)) (length before) at) (sym p.2)
          (subst (λ (ws : List ℕ). IsTurnOf schedule ws (length before) at)
          (sym (unfinished_or-push threads later after entry (at ∷ p.0) same)) (taken before at p.0 p.1))
    ]

pub TakesTurns-from_so_far : (threads : ℕ) (later : ℕ → Bool) (journal : List Entry) (schedule : List ℕ) →
    TakesTurnsSoFar threads later journal schedule → filter later (range_with_len 1 threads) ≡ [] →
    TakesTurns threads journal schedule
TakesTurns-from_so_far threads later journal schedule taken none before entry rest e =
    subst (λ (ws : List ℕ). IsTurnOf schedule ws (length before) entry)
    (filter-or_none (λ t. list_any (λ (x : Entry). eqb x.thread t) (entry ∷ rest)) later (range_with_len 1 threads) none)
    (taken before entry rest e)

pub IsOfThreads-push : (threads : ℕ) (journal : List Entry) (entry : Entry) → IsOfThreads threads journal → IsThread threads entry.thread →
    IsOfThreads threads (journal ++ entry ∷ [])
IsOfThreads-push threads journal entry all one before at rest e =
    elim (parts_of_push journal before rest entry at e) [
      | inl p ↦ subst (λ (x : Entry). IsThread threads x.thread) p.1 one
      | inr p ↦ all before at p.0 p.1
    ]

module _ {Order End : Type 0} where
  -- a write changes what one thread asks
  pub asks_at-set_other : (given : List (Next Order End)) (i t : ℕ) (next : Next Order End) → t ≢ suc i →
      asks_at (set given i next) t ≡ asks_at given t
  asks_at-set_other given i zero next differs = refl
  asks_at-set_other given i (suc j) next differs =
      ap (λ o. option_map_or (λ n. asks n) o false) (slice_get-set_other given i j next (λ e. differs (ap suc e)))

  pub asks_at-set_same : (given : List (Next Order End)) (i : ℕ) (next : Next Order End) → i < length given →
      asks_at (set given i next) (suc i) ≡ asks next
  asks_at-set_same given i next within =
      ap (λ o. option_map_or (λ n. asks n) o false) (slice_get-set_same given i next within)

  -- a thread that waits has an order
  pub asking_has : (given : List (Next Order End)) (k t : ℕ) → slice_get (asking given) k ≡ Some t →
      (i : ℕ) × (order : Order) × (t ≡ suc i) × (i < length given) × (slice_get given i ≡ Some (nexts.Ask order))
  asking_has given k t at = has t (filter_passes (asks_at given) (range_with_len 1 (length given)) k t at)
    where
      of_next : (i : ℕ) (o : Option (Next Order End)) → slice_get given i ≡ o → option_map_or (λ n. asks n) o false ≡ true →
          (order : Order) × (i < length given) × (slice_get given i ≡ Some (nexts.Ask order))
      of_next i None at asked = cc
      of_next i (Some (nexts.Ask order)) at asked = (order, slice_get_within given i (nexts.Ask order) at, at)
      of_next i (Some (nexts.End end)) at asked = cc
      of_next i (Some nexts.OutOfMemory) at asked = cc

      has : (t : ℕ) → asks_at given t ≡ true →
          (i : ℕ) × (order : Order) × (t ≡ suc i) × (i < length given) × (slice_get given i ≡ Some (nexts.Ask order))
      has zero asked = cc
      has (suc i) asked = let o = of_next i (slice_get given i) refl asked in (i, o.0, refl, o.1, o.2)

  -- where the flow goes on to ask, those that wait stay; else the thread is gone from them
  pub asking-set_asks : (given : List (Next Order End)) (i : ℕ) (next : Next Order End) → i < length given →
      asks_at given (suc i) ≡ true → asks next ≡ true → asking (set given i next) ≡ asking given
  asking-set_asks given i next within asked asks_more =
      ap (λ n. filter (asks_at (set given i next)) (range_with_len 1 n)) (length-set given i next)
      ∙ filter_agree (asks_at (set given i next)) (asks_at given) agree (range_with_len 1 (length given))
    where
      agree : (t : ℕ) → asks_at (set given i next) t ≡ asks_at given t
      agree t = elim (eqb_tells t (suc i)) [
        | inl p ↦ ap (asks_at (set given i next)) p.1 ∙ asks_at-set_same given i next within ∙ asks_more ∙ sym asked ∙ ap (asks_at given) (sym p.1)
        | inr p ↦ asks_at-set_other given i t next p.1
      ]

  pub asking-set_ends : (given : List (Next Order End)) (i : ℕ) (next : Next Order End) → i < length given →
      asks next ≡ false → asking (set given i next) ≡ filter (λ t. not (eqb t (suc i))) (asking given)
  asking-set_ends given i next within asks_no_more =
      ap (λ n. filter (asks_at (set given i next)) (range_with_len 1 n)) (length-set given i next)
      ∙ filter_agree (asks_at (set given i next)) (λ t. asks_at given t && not (eqb t (suc i))) agree (range_with_len 1 (length given))
      ∙ sym (filter-filter (asks_at given) (λ t. not (eqb t (suc i))) (range_with_len 1 (length given)))
    where
      and-true : (b : Bool) → b ≡ (b && true)
      and-true true = refl
      and-true false = refl

      and-false : (b : Bool) → false ≡ (b && false)
      and-false true = refl
      and-false false = refl

      agree : (t : ℕ) → asks_at (set given i next) t ≡ (asks_at given t && not (eqb t (suc i)))
      agree t = elim (eqb_tells t (suc i)) [
        | inl p ↦ ap (asks_at (set given i next)) p.1 ∙ asks_at-set_same given i next within ∙ asks_no_more ∙ and-false (asks_at given t) ∙ ap (λ b. asks_at given t && not b) (sym p.0)
        | inr p ↦ asks_at-set_other given i t next p.1 ∙ and-true (asks_at given t) ∙ ap (λ b. asks_at given t && not b) (sym p.0)
      ]

  -- the thread whose turn it is asked, and all others ask as before
  pub asks_at-turn : (given : List (Next Order End)) (i : ℕ) (next : Next Order End) → asks_at given (suc i) ≡ true →
      (t : ℕ) → (eqb (suc i) t || asks_at (set given i next) t) ≡ asks_at given t
  asks_at-turn given i next asked t = elim (eqb_tells (suc i) t) [
    | inl p ↦ ap (λ b. b || asks_at (set given i next) t) p.0 ∙ sym asked ∙ ap (asks_at given) p.1
    | inr p ↦ ap (λ b. b || asks_at (set given i next) t) p.0 ∙ asks_at-set_other given i t next (λ e. p.1 (sym e))
  ]

-- What the turns so far have left, where no flow lacks memory: those that ask now have an entry later, and the
-- schedule stands at the next turn's digit.
pub record HasTaken {Order End : Type 0} (given : List (Next Order End)) (journal : List Entry) (schedule : List ℕ) (turn : ℕ) : Type 0 where
  pub turns : TakesTurnsSoFar (length given) (asks_at given) journal schedule
  pub threads : IsOfThreads (length given) journal
  pub at : turn ≡ length journal % length schedule

pub HasTaken-turn : {Order End : Type 0} (given : List (Next Order End)) (journal : List Entry) (schedule : List ℕ) (turn i : ℕ)
    (next : Next Order End) (entry : Entry) → HasTaken given journal schedule turn → i < length given → asks_at given (suc i) ≡ true →
    entry.thread ≡ suc i →
    slice_get (asking given) ((get_or schedule turn 0 - 48) % length (asking given)) ≡ Some (suc i) →
    HasTaken (set given i next) (journal ++ entry ∷ []) schedule ((turn + 1) % length schedule)
HasTaken-turn given journal schedule turn i next entry taken within asked by digit = record {
  turns = subst (λ (n : ℕ). TakesTurnsSoFar n (asks_at (set given i next)) (journal ++ entry ∷ []) schedule) (sym (length-set given i next))
      (TakesTurnsSoFar-push (length given) (asks_at given) (asks_at (set given i next)) journal entry schedule taken.turns
      (subst (λ (j : ℕ). slice_get (asking given) ((get_or schedule j 0 - 48) % length (asking given)) ≡ Some entry.thread) taken.at
      (digit ∙ ap Some (sym by)))
      (λ t. ap (λ u. eqb u t || asks_at (set given i next) t) by ∙ asks_at-turn given i next asked t));
  threads = subst (λ (n : ℕ). IsOfThreads n (journal ++ entry ∷ [])) (sym (length-set given i next))
      (IsOfThreads-push (length given) journal entry taken.threads
      (subst (λ (t : ℕ). IsThread (length given) t) (sym by) (omega arith, omega arith)));
  at = ap (λ j. (j + 1) % length schedule) taken.at ∙ mod-add-mod (length journal) (length schedule) 1
      ∙ ap (λ n. n % length schedule) (sym (length_push journal entry));
}

-- a loop over what the flows gave
pub asking_more : {Order End : Type 0} (given : List (Next Order End)) (before : ℕ) (next : Next Order End) → slice_get given before ≡ Some next →
    filter (asks_at given) (range_with_len 1 (before + 1))
    ≡ filter (asks_at given) (range_with_len 1 before) ++ cond (asks next) ((before + 1) ∷ []) []
asking_more given before next at =
    filter-range_more (asks_at given) 1 before
    ∙ ap (λ t. filter (asks_at given) (range_with_len 1 before) ++ cond (asks_at given t) (t ∷ []) []) one-add-is
    ∙ ap (λ o. filter (asks_at given) (range_with_len 1 before) ++ cond (option_map_or (λ n. asks n) o false) (suc before ∷ []) []) at
    ∙ ap (λ t. filter (asks_at given) (range_with_len 1 before) ++ cond (asks next) (t ∷ []) []) (sym add-one-is)
  where
    one-add-is : 1 + before ≡ suc before
    one-add-is = omega arith

    add-one-is : before + 1 ≡ suc before
    add-one-is = omega arith

pub given_at : {Flow Order End : Type 0} (seats : List (Seat Flow Order End)) (i : ℕ) (seat : Seat Flow Order End) → slice_get seats i ≡ Some seat →
    slice_get (given seats) i ≡ Some seat.next
given_at {Flow} {Order} {End} seats i seat at =
    slice_get-map (λ (s : Seat Flow Order End). s.next) seats i ∙ ap (option_map (λ (s : Seat Flow Order End). s.next)) at

pub length-given : {Flow Order End : Type 0} (seats : List (Seat Flow Order End)) → length (given seats) ≡ length seats
length-given {Flow} {Order} {End} seats = length-map seats (λ (s : Seat Flow Order End). s.next)
