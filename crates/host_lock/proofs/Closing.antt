-- What is known once all seats are joined.
use Rattle.std.proofs.Common.{◌≡◌, ◌≢◌, ℕ, zero, suc, ◌≤◌, ◌<◌, ◌⊎◌, inl, inr, eqb, cond, Bool, true, false, List, [], ◌∷◌, ◌++◌, length, get_or, map, set, sum_by, Option, Some, refl, ap, sym, subst, ◌∙◌, arith}
use mathlib.Core.Option.{some, none}
use mathlib.Core.List.{IsPrefix}
use lib.ListN.{get_elem?}
use Rattle.std.specs.List.{All, Contains, filter, remove}
use Rattle.std.proofs.lemmas.Bool.Decides.{nat_tests}
use Rattle.std.proofs.lemmas.List.{map-append, length-map}
use Rattle.std.proofs.lemmas.List.Elements.{All-nil, All-cons, All-head, All-tail, All-push, All-weaker, All-contains, Contains-append_left, Contains-append_right}
use Rattle.std.proofs.lemmas.List.Sums.{sum_by-le-sum_by}
use Rattle.atomic_table.specs.Table.{State, Final, Seen}
use Rattle.host_events.specs.declared.journal.Entry.{Entry}
use Rattle.host_events.specs.Journal.{own_entries}
use Rattle.host_lock.specs.declared.view.Begun.{Begun}
use Rattle.host_lock.specs.declared.view.Own.{Own}
use Rattle.host_lock.specs.declared.view.View.{View}
use Rattle.host_lock.specs.Views.{own, seated, joined, spent, tickets_of, has_ticket, places, thread_count}
use Rattle.host_lock.specs.Rule.{IsHandedOut, Place, at_home, out, IsOneHistory}
use Rattle.host_lock.specs.Known.{SeatView, Gathers, IsHistory}
use Rattle.host_lock.proofs.Lists.{same_at, sum_set, at-le-sum, two-le-sum, prefix_trans}
use Rattle.host_lock.proofs.Waiting.{none_some}

pub contains_here : {X : Type 0} (x y : X) (xs : List X) → x ≡ y → Contains (x ∷ xs) y
contains_here x y xs is = (0, omega arith, is)

contains_later : {X : Type 0} (x y : X) (xs : List X) → Contains xs y → Contains (x ∷ xs) y
contains_later x y xs has = let within = has.1 in (suc has.0, omega arith, has.2)

contains_cases : {X : Type 0} (x y : X) (xs : List X) → Contains (x ∷ xs) y → (x ≡ y) ⊎ Contains xs y
contains_cases x y xs (zero, within, same) = inl same
contains_cases x y xs (suc k, within, same) = inr (k, omega arith, same)

module _ {S : Type 0} where
  -- one seat gathers itself
  pub gathers_one : (b : Begun S) (seat : SeatView S) (handed : Option ℕ) → Gathers (seat ∷ []) (seated b seat.thread seat.seen seat.mine handed)
  gathers_one b seat handed = record {
    threads = refl;
    seen = All-cons (λ x. Contains (seat.seen ∷ []) x.seen) seat [] (contains_here seat.seen seat.seen [] refl) (All-nil (λ x. Contains (seat.seen ∷ []) x.seen));
    idle = (refl, refl);
  }

  -- a seat that is joined is gathered too
  pub gathers_more : (b : Begun S) (done : List (SeatView S)) (v : View S) (seat : SeatView S) (handed : Option ℕ) → Gathers done v →
      Gathers (done ++ seat ∷ []) (joined v (seated b seat.thread seat.seen seat.mine handed))
  gathers_more b done v seat handed gathered =
      let w = seated b seat.thread seat.seen seat.mine handed in
      let both = joined v w in
      let Has : SeatView S → Type 0 = λ x. Contains (both.seen ∷ both.known) x.seen in
      let old : (xs : List Entry) → Contains (v.seen ∷ v.known) xs → Contains (both.seen ∷ both.known) xs =
      λ xs has. contains_later both.seen xs both.known (elim (contains_cases v.seen xs v.known has) [
        | inl is ↦ Contains-append_right (v.known ++ []) (v.seen ∷ seat.seen ∷ []) xs (contains_here v.seen xs (seat.seen ∷ []) is)
        | inr in_rest ↦ Contains-append_left (v.known ++ []) (v.seen ∷ seat.seen ∷ []) xs (Contains-append_left v.known [] xs in_rest)
      ]) in
      record {
        threads = ap (λ os. os ++ own seat.thread seat.mine ∷ []) gathered.threads ∙ sym (map-append (λ (x : SeatView S). own x.thread x.mine) done (seat ∷ []));
        seen = All-push Has done seat (All-weaker (λ x. Contains (v.seen ∷ v.known) x.seen) Has (λ x has. old x.seen has) done gathered.seen)
            (contains_later both.seen seat.seen both.known (Contains-append_right (v.known ++ []) (v.seen ∷ seat.seen ∷ []) seat.seen
            (contains_later v.seen seat.seen (seat.seen ∷ []) (contains_here seat.seen seat.seen [] refl))));
        idle = (refl, refl);
      }

-- an element of a list of threads stands in it
places_contains : {S : Type 0} (seats : List (SeatView S)) (t : ℕ) →
    1 ≤ length (filter (λ o. eqb o.thread t) (map (λ (x : SeatView S). own x.thread x.mine) seats)) →
    Contains (map (λ (x : SeatView S). x.thread) seats) t
places_contains [] t some_place = absurd (omega arith)
places_contains (x ∷ xs) t some_place = by_test (places_contains xs t) (eqb x.thread t) refl some_place where
  by_test : (1 ≤ length (filter (λ o. eqb o.thread t) (map (λ y. own y.thread y.mine) xs)) → Contains (map (λ y. y.thread) xs) t) →
      (b : Bool) → eqb x.thread t ≡ b →
      1 ≤ length (cond b (own x.thread x.mine ∷ filter (λ o. eqb o.thread t) (map (λ y. own y.thread y.mine) xs)) (filter (λ o. eqb o.thread t) (map (λ y. own y.thread y.mine) xs))) →
      Contains (map (λ y. y.thread) (x ∷ xs)) t
  by_test later true is places_here = contains_here x.thread t (map (λ y. y.thread) xs) (grind (arith, nat_tests))
  by_test later false is places_here = contains_later x.thread t (map (λ y. y.thread) xs) (later places_here)

length_filter : {X : Type 0} (p : X → Bool) (xs : List X) → length (filter p xs) ≤ length xs
length_filter p [] = omega arith
length_filter p (x ∷ xs) = by_test (p x) (length_filter p xs) where
  by_test : (b : Bool) → length (filter p xs) ≤ length xs → length (cond b (x ∷ filter p xs) (filter p xs)) ≤ length (x ∷ xs)
  by_test true h = omega arith
  by_test false h = omega arith

own_of_each : {S : Type 0} (counted : List Entry) (seats : List (SeatView S)) →
    All (λ o. own_entries counted o.thread ≡ o.mine) (map (λ (x : SeatView S). own x.thread x.mine) seats) →
    All (λ (x : SeatView S). own_entries counted x.thread ≡ x.mine) seats
own_of_each counted [] all = All-nil (λ x. own_entries counted x.thread ≡ x.mine)
own_of_each counted (x ∷ xs) all =
    All-cons (λ y. own_entries counted y.thread ≡ y.mine) x xs
    (All-head (λ (o : Own). own_entries counted o.thread ≡ o.mine) (own x.thread x.mine) (map (λ y. own y.thread y.mine) xs) all)
    (own_of_each counted xs (All-tail (λ (o : Own). own_entries counted o.thread ≡ o.mine) (own x.thread x.mine) (map (λ y. own y.thread y.mine) xs) all))

module _ {S F : Type 0} (journal : S → List Entry) (fixed : S → F) (allows : F → List Entry → Type 0) where
  module _ (b : Begun S) (s : State (Option S) (View S)) (r : IsOneHistory journal fixed allows b s) (id : ℕ) (seats : List (SeatView S)) (v : View S)
      (at : get_elem? s.views id ≡ some v) (gathered : Gathers seats v) (count : length seats ≡ b.threads) where
    -- all threads stand in the one seat
    all_here : thread_count v ≡ sum_by thread_count s.views
    all_here =
        let le = at-le-sum thread_count s.views id v at in
        let len : thread_count v ≡ length seats = ap length gathered.threads ∙ length-map seats (λ (x : SeatView S). own x.thread x.mine) in
        omega (arith, r.all, r.few.0, count)

    -- so a thread stands there as often as it stands anywhere
    places_here : (t : ℕ) → places t v ≡ sum_by (places t) s.views
    places_here t =
        let all = all_here in
        let left = sum_set thread_count s.views id v spent at in
        let few = sum_set (places t) s.views id v spent at in
        let le : sum_by (places t) (set s.views id spent) ≤ sum_by thread_count (set s.views id spent) =
        sum_by-le-sum_by (places t) thread_count (set s.views id spent) (λ x. length_filter (λ o. eqb o.thread t) x.threads) in
        omega arith

    -- the state is at home
    pub state_home : Place journal fixed allows b r.counted s.homes s.views →
        (state : S) × (s.homes ≡ some (Some state) ∷ []) × (journal state ≡ r.counted) × (fixed state ≡ fixed b.state.value)
    state_home (at_home state has is part idle_all) = (state, has, is, part)
    state_home (out seat x away there ticket kept others) =
        let ne : id ≢ seat = λ h. let same : x ≡ v = same_at s.views seat x v there (ap (get_elem? s.views) (sym h) ∙ at) in
        none_some r.counted (sym gathered.idle.1 ∙ ap (λ (y : View S). y.taken) (sym same) ∙ kept) in
        let two = two-le-sum thread_count s.views id seat v x ne at there in
        let waits = (r.seats seat x there).waits in
        let one : has_ticket x ≡ 1 = ap tickets_of ticket in
        let all = all_here in
        absurd (omega arith)

    pub history : IsHistory seats r.counted
    history =
        let sits = r.seats id v at in record {
          begins = All-weaker (λ (x : SeatView S). Contains (v.seen ∷ v.known) x.seen) (λ (x : SeatView S). IsPrefix x.seen r.counted)
              (λ x has. elim (contains_cases v.seen x.seen v.known has) [
                | inl is ↦ subst (λ es. IsPrefix es r.counted) is sits.seen
                | inr known ↦ prefix_trans x.seen v.seen r.counted (All-contains (λ xs. IsPrefix xs v.seen) v.known x.seen sits.known known) sits.seen
              ])
              seats gathered.seen;
          own = own_of_each r.counted seats (subst (All (λ o. own_entries r.counted o.thread ≡ o.mine)) gathered.threads sits.mine);
          threads = All-weaker (λ (e : Entry). IsHandedOut r.counts.handed e.thread) (λ (e : Entry). Contains (map (λ (x : SeatView S). x.thread) seats) e.thread)
              (λ e is. let once = r.once e.thread is in let here = places_here e.thread in
              places_contains seats e.thread (subst (λ os. 1 ≤ length (filter (λ o. eqb o.thread e.thread) os)) gathered.threads (omega arith)))
              r.counted r.entries;
        }

  -- what a closed table holds, where one seat has all threads
  pub closing : (b : Begun S) (id : ℕ) (v : View S) (seats : List (SeatView S)) (ws : List ℕ) (xs : List (Option S)) →
      Final (Seen (IsOneHistory journal fixed allows b) id v) ws xs → Gathers seats v → length seats ≡ b.threads →
      (state : S) × (get_elem? xs 0 ≡ some (Some state)) × (fixed state ≡ fixed b.state.value) × IsHistory seats (journal state)
  closing b id v seats ws xs final gathered count =
      let s = final.0 in
      let r = final.1.0 in
      let at = final.1.1 in
      let home = state_home b s r id seats v at gathered count r.place in (
        home.0,
        final.4 0 (Some home.0) (ap (λ (hs : List (mathlib.Core.Option.Option (Option S))). get_elem? hs 0) home.1),
        home.3,
        subst (IsHistory seats) (sym home.2) (history b s r id seats v at gathered count),
      )

-- a list is its first element and the rest
pub first_rest : {X : Type 0} (xs : List X) (x : X) → 0 < length xs → x ≡ get_or xs 0 x → x ∷ remove xs 0 ≡ xs
first_rest [] x some_there is = absurd (omega arith)
first_rest (y ∷ ys) x some_there is = ap (λ z. z ∷ ys) is
