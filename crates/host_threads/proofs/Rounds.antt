-- One round of the driver: whose turn it is, and what a turn leaves of the rest.
use Rattle.std.proofs.Common.{◌≡◌, ◌≢◌, ◌<◌, ◌≤◌, ◌-◌, ◌+◌, ◌%◌, ℕ, zero, suc, Bool, true, false, not, ◌&&◌, eqb, List, [], ◌∷◌, ◌++◌, length, map, get_or, set, nat_le, Some, ◌⊎◌, inl, inr, refl, sym, ap, subst, ◌∙◌, arith}
use Rattle.std.specs.Char.{is_ascii_digit}
use Rattle.std.specs.List.{filter, list_all, slice_get}
use Rattle.std.specs.Option.{option_map_or}
use Rattle.std.proofs.Math.Nat.{zero-mod}
use Rattle.std.proofs.lemmas.Bool.{false≢true}
use Rattle.std.proofs.lemmas.Bool.Decides.{eqb_tells, nat_tests}
use Rattle.std.proofs.lemmas.List.{map-set}
use Rattle.std.proofs.lemmas.List.Folds.{list_all_at}
use Rattle.std.proofs.lemmas.Option.{slice_get_cases, slice_get_read}
use Rattle.host_events.specs.declared.flow.Next.{Next}
use Rattle.host_events.specs.declared.flow.Next.TheVariants as nexts
use Rattle.host_events.specs.declared.journal.Entry.{Entry}
use Rattle.host_threads.specs.declared.seat.Seat.{Seat}
use Rattle.host_threads.specs.Seats.{asks, GoesOn, IfGoesOn, asks_at, asking, given}
use Rattle.host_threads.specs.Turns.{IsSchedule}
use Rattle.host_threads.proofs.Places.{slice_get-set_other, slice_get-set_same}
use Rattle.host_threads.proofs.Turns.{HasTaken, HasTaken-turn, asking_has, asking-set_asks, asking-set_ends, given_at, length-given}

and_left : (a b : Bool) → (a && b) ≡ true → a ≡ true
and_left true b h = refl
and_left false b h = cc

and_right : (a b : Bool) → (a && b) ≡ true → b ≡ true
and_right true b h = h
and_right false b h = cc

-- a schedule has a digit at each place
digit_above : (b : ℕ) → is_ascii_digit b ≡ true → 48 ≤ b
digit_above b h = grind (arith, nat_tests)

digits_of : (digits : List ℕ) → IsSchedule digits → list_all is_ascii_digit digits ≡ true
digits_of digits h = and_right _ (list_all is_ascii_digit digits) h

pub digit_at_place : (digits : List ℕ) (j : ℕ) → IsSchedule digits → j < length digits → 48 ≤ get_or digits j 0
digit_at_place digits j h within = at (is_ascii_digit (get_or digits j 0)) refl
  where
    at : (b : Bool) → is_ascii_digit (get_or digits j 0) ≡ b → 48 ≤ get_or digits j 0
    at true e = digit_above (get_or digits j 0) e
    at false e = absurd (false≢true (sym (list_all_at is_ascii_digit digits j 0 within e) ∙ digits_of digits h))

pub mod-below : (j n : ℕ) → 0 < n → j % n < n
mod-below j n positive = omega arith

pub schedule_some : (digits : List ℕ) → IsSchedule digits → 0 < length digits
schedule_some digits h =
    let some : nat_le 1 (length digits) ≡ true =
    and_left (nat_le 1 (length digits)) (nat_le (length digits) 64)
    (and_left (nat_le 1 (length digits) && nat_le (length digits) 64) (list_all is_ascii_digit digits) h) in
    grind (arith, nat_tests)

-- what a write leaves at a place
pub slice_get-set_cases : {X : Type 0} (xs : List X) (k i : ℕ) (v x : X) → k < length xs → slice_get (set xs k v) i ≡ Some x →
    ((i ≡ k) × (v ≡ x)) ⊎ ((i ≢ k) × (slice_get xs i ≡ Some x))
slice_get-set_cases xs k i v x within at = elim (eqb_tells i k) [
  | inl p ↦
      let here : Some v ≡ Some x = sym (slice_get-set_same xs k v within) ∙ ap (λ j. slice_get (set xs k v) j) (sym p.1) ∙ at in
      inl (p.1, cc)
  | inr p ↦ inr (p.1, sym (slice_get-set_other xs k i v p.1) ∙ at)
]

-- an element of a mapped list
pub slice_get-map_some : {X Y : Type 0} (f : X → Y) (xs : List X) (i : ℕ) (y : Y) → slice_get (map f xs) i ≡ Some y →
    (x : X) × (slice_get xs i ≡ Some x) × (f x ≡ y)
slice_get-map_some f [] i y at = cc
slice_get-map_some f (x ∷ xs) zero y at = (x, refl, cc)
slice_get-map_some f (x ∷ xs) (suc i) y at = slice_get-map_some f xs i y at

pub none_from_length : {X : Type 0} (xs : List X) (n : ℕ) → n ≡ length xs → true ≡ eqb n 0 → xs ≡ []
none_from_length [] n count none = refl
none_from_length (x ∷ xs) n count none = let zero_is : n ≡ 0 = grind (arith, nat_tests) in absurd (omega arith)

-- a place within a list has an element
pub at_place : {X : Type 0} (xs : List X) (i : ℕ) → i < length xs → (x : X) × (slice_get xs i ≡ Some x)
at_place xs i within = elim (slice_get_cases xs i).1 [
  | inl p ↦ (p.0, p.2)
  | inr p ↦ absurd (omega (arith, p.0))
]

pub IfGoesOn-holds : {Order End : Type 0} (next : Next Order End) (fact : Type 0) → IfGoesOn next fact → GoesOn next → fact
IfGoesOn-holds (nexts.Ask order) fact holds goes = holds
IfGoesOn-holds (nexts.End end) fact holds goes = holds
IfGoesOn-holds nexts.OutOfMemory fact holds goes = absurd goes

module _ {Flow Order End : Type 0} where
  -- the thread whose turn it is, and the seat at its place
  pub record HasTurn (seats : List (Seat Flow Order End)) (digit thread : ℕ) (seat : Seat Flow Order End) : Type 0 where
    pub place : ℕ
    pub order : Order
    pub thread_is : thread ≡ place + 1
    pub within : place < length seats
    pub at : slice_get seats place ≡ Some seat
    pub next_is : seat.next ≡ nexts.Ask order
    pub asked : asks_at (given seats) (suc place) ≡ true
    pub chosen : slice_get (asking (given seats)) (digit % length (asking (given seats))) ≡ Some (suc place)

  pub in_turn : (seats : List (Seat Flow Order End)) (waiting : List ℕ) (n digit thread : ℕ) → n ≡ length waiting → false ≡ eqb n 0 →
      waiting ≡ asking (given seats) → thread ≡ get_or waiting (digit % n) thread →
      (place : ℕ) × (order : Order) × (thread ≡ suc place) × (place < length (given seats)) × (slice_get (given seats) place ≡ Some (nexts.Ask order))
      × (slice_get (asking (given seats)) (digit % length (asking (given seats))) ≡ Some thread)
  in_turn seats waiting n digit thread count some is at =
      let positive : 0 < n = grind (arith, nat_tests) in
      let within : digit % n < n = omega arith in
      let here : slice_get waiting (digit % n) ≡ Some thread = slice_get_read waiting n (digit % n) thread count within at in
      let there : slice_get (asking (given seats)) (digit % length (asking (given seats))) ≡ Some thread =
      subst (λ (ws : List ℕ). slice_get ws (digit % length ws) ≡ Some thread) is (subst (λ (k : ℕ). slice_get waiting (digit % k) ≡ Some thread) count here) in
      let has = asking_has (given seats) (digit % length (asking (given seats))) thread there in
      (has.0, has.1, has.2, has.3, has.4, there)

  pub HasTurn-at : (seats : List (Seat Flow Order End)) (waiting : List ℕ) (n digit thread : ℕ) (seat : Seat Flow Order End) → n ≡ length waiting → false ≡ eqb n 0 →
      waiting ≡ asking (given seats) → thread ≡ get_or waiting (digit % n) thread → seat ≡ get_or seats (thread - 1) seat →
      HasTurn seats digit thread seat
  HasTurn-at seats waiting n digit thread seat count some is at seat_at =
      let t = in_turn seats waiting n digit thread count some is at in
      let before : thread - 1 ≡ t.0 = omega (arith, t.2) in
      let within : t.0 < length seats = omega (arith, t.3, length-given seats) in
      let seat_here : slice_get seats t.0 ≡ Some seat =
      slice_get_read seats (length seats) t.0 seat refl within (subst (λ (k : ℕ). seat ≡ get_or seats k seat) before seat_at) in
      let same : Some seat.next ≡ Some (nexts.Ask t.1) = sym (given_at seats t.0 seat seat_here) ∙ t.4 in
      record {
        place = t.0;
        order = t.1;
        thread_is = omega (arith, t.2);
        within = within;
        at = seat_here;
        next_is = cc;
        asked = ap (λ o. option_map_or (λ n. asks n) o false) t.4;
        chosen = t.5 ∙ ap Some t.2;
      }

  pub given-set : (seats : List (Seat Flow Order End)) (i : ℕ) (seat : Seat Flow Order End) →
      given (set seats i seat) ≡ set (given seats) i seat.next
  given-set seats i seat = map-set (λ (s : Seat Flow Order End). s.next) seats i seat

  -- no flow lacks memory
  abbrev pub AllGoOn : List (Seat Flow Order End) → Type 0
  AllGoOn seats = (i : ℕ) (seat : Seat Flow Order End) → slice_get seats i ≡ Some seat → GoesOn seat.next

  -- where none lacks memory after a turn, none did before it
  pub AllGoOn-before : (seats : List (Seat Flow Order End)) (digit thread : ℕ) (seat after : Seat Flow Order End) →
      (t : HasTurn seats digit thread seat) → AllGoOn (set seats t.place after) → AllGoOn seats
  AllGoOn-before seats digit thread seat after t all i other at = elim (eqb_tells i t.place) [
    | inl p ↦
        let same : Some other ≡ Some seat = sym at ∙ ap (λ j. slice_get seats j) p.1 ∙ t.at in
        let is : seat ≡ other = cc in
        subst (λ (s : Seat Flow Order End). GoesOn s.next) is (subst GoesOn (sym t.next_is) tt)
    | inr p ↦ all i other (slice_get-set_other seats t.place i after p.1 ∙ at)
  ]

  pub HasTaken-round : (seats : List (Seat Flow Order End)) (journal later : List Entry) (schedule : List ℕ) (turn thread : ℕ)
      (seat after : Seat Flow Order End) (t : HasTurn seats (get_or schedule turn 0 - 48) thread seat) →
      (AllGoOn seats → HasTaken (given seats) journal schedule turn) →
      IfGoesOn after.next ((entry : Entry) × (entry.thread ≡ thread) × (later ≡ journal ++ entry ∷ [])) →
      AllGoOn (set seats t.place after) →
      HasTaken (given (set seats t.place after)) later schedule ((turn + 1) % length schedule)
  HasTaken-round seats journal later schedule turn thread seat after t taken entry all =
      let goes : GoesOn after.next = all t.place after (slice_get-set_same seats t.place after t.within) in
      let one = IfGoesOn-holds after.next _ entry goes in
      let by : one.0.thread ≡ suc t.place = omega (arith, one.1, t.thread_is) in
      let before = taken (AllGoOn-before seats (get_or schedule turn 0 - 48) thread seat after t all) in
      subst (λ (given' : List (Next Order End)). HasTaken given' later schedule ((turn + 1) % length schedule)) (sym (given-set seats t.place after))
      (subst (λ (j : List Entry). HasTaken (set (given seats) t.place after.next) j schedule ((turn + 1) % length schedule)) (sym one.2)
      (HasTaken-turn (given seats) journal schedule turn t.place after.next one.0 before (omega (arith, t.within, length-given seats)) t.asked by t.chosen))

  -- who waits after a turn
  pub asking-after_ask : (seats : List (Seat Flow Order End)) (digit thread : ℕ) (seat after : Seat Flow Order End) → (t : HasTurn seats digit thread seat) →
      asks after.next ≡ true → asking (given seats) ≡ asking (given (set seats t.place after))
  asking-after_ask seats digit thread seat after t asks_more =
      sym (asking-set_asks (given seats) t.place after.next (omega (arith, t.within, length-given seats)) t.asked asks_more)
      ∙ ap (λ ns. asking ns) (sym (given-set seats t.place after))

  pub asking-after_end : (seats : List (Seat Flow Order End)) (digit thread : ℕ) (seat after : Seat Flow Order End) → (t : HasTurn seats digit thread seat) →
      asks after.next ≡ false → filter (λ other. not (eqb other thread)) (asking (given seats)) ≡ asking (given (set seats t.place after))
  asking-after_end seats digit thread seat after t asks_no_more =
      let is : thread ≡ suc t.place = omega (arith, t.thread_is) in
      ap (λ k. filter (λ other. not (eqb other k)) (asking (given seats))) is
      ∙ sym (asking-set_ends (given seats) t.place after.next (omega (arith, t.within, length-given seats)) asks_no_more)
      ∙ ap (λ ns. asking ns) (sym (given-set seats t.place after))

  -- at the end each flow has an end
  pub AllGoOn-ended : (seats : List (Seat Flow Order End)) (ends : List End) → given seats ≡ map nexts.End ends → AllGoOn seats
  AllGoOn-ended seats ends is i seat at =
      let end = slice_get-map_some nexts.End ends i seat.next (ap (λ given'. slice_get given' i) (sym is) ∙ given_at seats i seat at) in
      subst GoesOn end.2 tt

-- before the first turn
pub no_parts : {X : Type 0} (journal before after : List X) (x : X) → journal ≡ [] → journal ≡ before ++ x ∷ after → ⊥
no_parts journal [] after x none at = cc
no_parts journal (b ∷ bs) after x none at = cc

pub HasTaken-none : {Order End : Type 0} (given' : List (Next Order End)) (journal : List Entry) (schedule : List ℕ) → journal ≡ [] → HasTaken given' journal schedule 0
HasTaken-none given' journal schedule none = record {
  turns = λ before entry after at. absurd (no_parts journal before after entry none at);
  threads = λ before entry after at. absurd (no_parts journal before after entry none at);
  at = sym (ap (λ j. length j % length schedule) none ∙ zero-mod (length schedule));
}
