-- The step that ends a turn keeps the rule.
use Rattle.std.proofs.Common.{◌≡◌, ◌≢◌, ℕ, zero, suc, ◌+◌, ◌%◌, ◌^◌, ◌≤◌, ◌<◌, eqb, cond, Bool, true, false, List, [], ◌∷◌, ◌++◌, length, get_or, set, Option, Some, None, refl, ap, sym, subst, ◌∙◌, arith, eq-eqb, length-set, length-append}
use mathlib.Core.Option.{some, none}
use mathlib.Core.Logic.{dite}
use mathlib.Core.List.{IsPrefix}
use native.Mathlib.Decide.{dec_le}
use lib.ListN.{get_elem?}
use Rattle.std.specs.List.{filter}
use Rattle.std.proofs.lemmas.List.Elements.{All-nil, All-cons, All-head, All-push}
use Rattle.atomic_table.specs.Table.{State, gives, Allows}
use Rattle.host_events.specs.declared.journal.Entry.{Entry}
use Rattle.host_events.specs.Journal.{own_entries}
use Rattle.host_lock.specs.declared.view.Begun.{Begun}
use Rattle.host_lock.specs.declared.view.Own.{Own}
use Rattle.host_lock.specs.declared.view.View.{View}
use Rattle.host_lock.specs.Views.{Pair, pair_of, own, seated, with_ticket, in_turn, after_turn, has_ticket, places, thread_count}
use Rattle.host_lock.specs.Rule.{IsHandedOut, Place, at_home, out, Sits}
use Rattle.host_lock.specs.Steps.{passes}
use Rattle.host_lock.proofs.Lists.{same_at, each_set, sum_set, at-le-sum, two-le-sum, prefix_self, prefix_more}
use Rattle.host_lock.proofs.Journals.{own_push_same, own_push_other}
use Rattle.host_lock.proofs.Waiting.{some_inj, none_some, Holds, Few, small, second_word}

none_of : {X : Type 0} (o : Option X) → ¬ (o ≢ None) → o ≡ None
none_of None h = refl
none_of (Some x) h = absurd (h (λ e. none_some x (sym e)))

last_is : {X : Type 0} (xs : List X) (a b : X) → xs ++ a ∷ [] ≡ xs ++ b ∷ [] → a ≡ b
last_is [] a b e = cc e
last_is (x ∷ xs) a b e = last_is xs a b (cc e)

abbrev pub held : {X : Type 0} → X → List (ℕ × Option X)
held x = (0, Some x) ∷ []

abbrev first_held : {X : Type 0} → List (ℕ × Option X) → Option X
first_held [] = None
first_held (p ∷ ps) = p.1

pub held_is : {X : Type 0} (x y : X) → held x ≡ held y → x ≡ y
held_is x y e = some_inj x y (ap first_held e)

-- the thread of an element stands in the list
pub stands_at : (os : List Own) (k t : ℕ) (d : Own) → k < length os → (get_or os k d).thread ≡ t →
    1 ≤ length (filter (λ o. eqb o.thread t) os)
stands_at [] k t d within is = absurd (omega arith)
stands_at (o ∷ os) zero t d within is =
    subst (λ b. 1 ≤ length (cond b (o ∷ filter (λ x. eqb x.thread t) os) (filter (λ x. eqb x.thread t) os))) (sym (eq-eqb o.thread t is)) (omega arith)
stands_at (o ∷ os) (suc k) t d within is = more (eqb o.thread t) (stands_at os k t d (omega arith) is) where
  more : (b : Bool) → 1 ≤ length (filter (λ x. eqb x.thread t) os) →
      1 ≤ length (cond b (o ∷ filter (λ x. eqb x.thread t) os) (filter (λ x. eqb x.thread t) os))
  more true h = omega arith
  more false h = h

one_place : (b : Bool) (x y : Own) → length (cond b (x ∷ []) []) ≡ length (cond b (y ∷ []) [])
one_place true x y = refl
one_place false x y = refl

module _ {S F : Type 0} (journal : S → List Entry) (fixed : S → F) (allows : F → List Entry → Type 0) where
  -- a thread that stands in a seat was handed out
  pub handed_out : (b : Begun S) (s : State (Option S) (View S)) (r : Holds journal fixed allows b s) (id t : ℕ) (v : View S) →
      get_elem? s.views id ≡ some v → 1 ≤ places t v → IsHandedOut r.counts.handed t
  handed_out b s r id t v at stands =
      let some_place = at-le-sum (places t) s.views id v at in
      dite (dec_le 1 t)
      (λ one. dite (dec_le t r.counts.handed) (λ le. (one, le))
      (λ no. let never = r.never t (λ h. no h.1) in absurd (omega arith)))
      (λ no. let never = r.never t (λ h. no h.0) in absurd (omega arith))

  -- fetch_add on serving, once the counted journal is known to be the one that was taken
  passes_now : Few journal fixed allows → (b : Begun S) (s : State (Option S) (View S)) (r : Holds journal fixed allows b s) (id t n : ℕ) (seen : List Entry) (mine : List Pair) (handed : Option ℕ) (state : S) (entry : Entry) →
      get_elem? s.views id ≡ some (in_turn r.counted (with_ticket n (seated b t seen mine handed))) →
      n ≡ length r.counted → s.homes ≡ none ∷ [] →
      ((other : ℕ) (x : View S) → get_elem? s.views other ≡ some x → x.taken ≢ None → other ≡ id) →
      entry.thread ≡ t → journal state ≡ r.counted ++ entry ∷ [] → fixed state ≡ fixed b.state.value →
      allows (fixed b.state.value) (r.counted ++ entry ∷ []) →
      Holds journal fixed allows b record {
        words = set s.words 1 ((get_or s.words 1 0 + 1) % 2 ^ 64);
        homes = set s.homes 0 (some (Some state));
        views = set s.views id (after_turn r.counted entry (in_turn r.counted (with_ticket n (seated b t seen mine handed))));
      }
  passes_now few b s r id t n seen mine handed state entry at served away others by grew part allowed =
      let v = in_turn r.counted (with_ticket n (seated b t seen mine handed)) in
      let w = after_turn r.counted entry v in
      let now : List Entry = r.counted ++ entry ∷ [] in
      let sits = r.seats id v at in
      let short = (small journal fixed allows few b s r).1 in
      let is = second_word journal fixed allows b s r in
      let next : (get_or s.words 1 0 + 1) % 2 ^ 64 ≡ length r.counted + 1 = omega arith in
      let longer' : length now ≡ length r.counted + 1 = omega (arith, length-append r.counted (entry ∷ [])) in
      let stands : 1 ≤ places t v = stands_at v.threads 0 t (own t mine) (omega arith) refl in
      let out_is = handed_out b s r id t v at stands in
      let its = (sits.ticket n refl).2 in
      let place_is : (thread : ℕ) → places thread w ≡ places thread v =
      λ thread. one_place (eqb t thread) (own t (cond (eqb t entry.thread) (mine ++ pair_of entry ∷ []) mine)) (own t mine) in
      record {
        counted = now;
        counts = r.counts;
        words = ap (λ (ws : List ℕ). set ws 1 ((get_or s.words 1 0 + 1) % 2 ^ 64)) r.words
            ∙ ap (λ (k : ℕ). r.counts.ticket ∷ k ∷ []) (next ∙ sym longer');
        ticket = omega (arith, r.ticket, sum_set has_ticket s.views id v w at, longer');
        place = at_home state (ap (λ (hs : List (mathlib.Core.Option.Option (Option S))). set hs 0 (some (Some state))) away) grew part
            (each_set (λ i x. x.taken ≡ None) s.views id w (λ j x ne e. none_of x.taken (λ h. ne (others j x e h))) refl);
        allowed = allowed;
        seats = each_set (Sits journal fixed allows b now r.counts) s.views id w
            (λ j x ne e. let p = r.seats j x e in record {
              begins = p.begins;
              seen = prefix_more x.seen r.counted (entry ∷ []) p.seen;
              known = p.known;
              mine = λ k d within.
                  let other : entry.thread ≢ (get_or x.threads k d).thread = λ h.
                  let too = two-le-sum (places t) s.views id j v x (λ z. ne (sym z)) at e in
                  let one = r.once t out_is in
                  let there = stands_at x.threads k t d within (sym h ∙ by) in
                  omega arith in
                  own_push_other r.counted entry (get_or x.threads k d).thread other ∙ p.mine k d within;
              ticket = λ m h. let q = p.ticket m h in
                  let apart : m ≢ n = λ z. ne (sym q.2 ∙ ap r.counts.seat_of z ∙ its) in
                  (omega (arith, longer', q.0, served, apart), q.1, q.2);
              waits = p.waits;
              handed = p.handed;
            })
            record {
              begins = λ _. refl;
              seen = prefix_self now;
              known = All-nil (λ xs. IsPrefix xs now);
              mine = All-cons (λ o. own_entries now o.thread ≡ o.mine) (own t (cond (eqb t entry.thread) (mine ++ pair_of entry ∷ []) mine)) []
                  (own_push_same r.counted entry t by
                  ∙ ap (λ ms. ms ++ pair_of entry ∷ []) (All-head (λ o. own_entries r.counted o.thread ≡ o.mine) (own t mine) [] sits.mine)
                  ∙ ap (λ c. cond c (mine ++ pair_of entry ∷ []) mine) (sym (eq-eqb t entry.thread (sym by))))
                  (All-nil (λ o. own_entries now o.thread ≡ o.mine));
              ticket = λ m h. absurd (none_some m h);
              waits = omega arith;
              handed = sits.handed;
            };
        once = λ thread h. omega (arith, r.once thread h, sum_set (places thread) s.views id v w at, place_is thread);
        never = λ thread h. omega (arith, r.never thread h, sum_set (places thread) s.views id v w at, place_is thread);
        all = omega (arith, r.all, sum_set thread_count s.views id v w at);
        entries = All-push (λ (e : Entry). IsHandedOut r.counts.handed e.thread) r.counted entry r.entries (subst (IsHandedOut r.counts.handed) (sym by) out_is);
        keeper = subst (λ k. r.counts.keeper < k) (sym (length-set s.views id w)) r.keeper;
        few = r.few;
      }

  -- The slot is out with the seat that is in its turn, which has the ticket that is served.
  in_its_turn : (b : Begun S) (s : State (Option S) (View S)) (r : Holds journal fixed allows b s) (id n : ℕ) (before : List Entry) (v : View S) →
      get_elem? s.views id ≡ some v → v.taken ≡ Some before → v.ticket ≡ Some n → Place journal fixed allows b r.counted s.homes s.views →
      (r.counted ≡ before) × (n ≡ length r.counted) × (s.homes ≡ none ∷ []) ×
      ((other : ℕ) (x : View S) → get_elem? s.views other ≡ some x → x.taken ≢ None → other ≡ id)
  in_its_turn b s r id n before v at taken ticket (at_home state has is part idle_all) =
      absurd (none_some before (sym (idle_all id v at) ∙ taken))
  in_its_turn b s r id n before v at taken ticket (out seat x away there served kept others) =
      let here : id ≡ seat = others id v at (λ h. none_some before (sym h ∙ taken)) in
      let same : x ≡ v = same_at s.views seat x v there (ap (get_elem? s.views) (sym here) ∙ at) in (
        some_inj r.counted before (sym kept ∙ ap (λ (y : View S). y.taken) same ∙ taken),
        some_inj n (length r.counted) (sym ticket ∙ ap (λ (y : View S). y.ticket) (sym same) ∙ served),
        away,
        λ other y e h. others other y e h ∙ sym here,
      )

  -- fetch_add on serving
  pub passes_keeps : Few journal fixed allows → (slots : ℕ) (b begun : Begun S) (id t n : ℕ) (seen : List Entry) (mine : List Pair) (handed : Option ℕ) (state : S) (before : List Entry) (entry : Entry) →
      entry.thread ≡ t → journal state ≡ before ++ entry ∷ [] → fixed state ≡ fixed begun.state.value →
      allows (fixed begun.state.value) (before ++ entry ∷ []) →
      Allows (Holds journal fixed allows b) slots id (in_turn before (with_ticket n (seated begun t seen mine handed)), (0, Some state) ∷ []) 1
      (λ k. (k + 1) % 2 ^ 64)
      (λ _. passes journal (in_turn before (with_ticket n (seated begun t seen mine handed)), (0, Some state) ∷ []))
  passes_keeps few slots b begun id t n seen mine handed state before entry by grew part allowed s r wide at _ =
      let v = in_turn before (with_ticket n (seated begun t seen mine handed)) in
      let sits = r.seats id v at in
      let same : begun ≡ b = some_inj begun b (sits.begins (omega arith)) in
      let turn = in_its_turn b s r id n before v at refl refl r.place in
      let Is : Begun S × List Entry → Type 0 = λ p.
      get_elem? s.views id ≡ some (in_turn p.1 (with_ticket n (seated p.0 t seen mine handed))) →
      journal state ≡ p.1 ++ entry ∷ [] → fixed state ≡ fixed p.0.state.value → allows (fixed p.0.state.value) (p.1 ++ entry ∷ []) →
      Holds journal fixed allows b record {
        words = set s.words 1 ((get_or s.words 1 0 + 1) % 2 ^ 64);
        homes = set s.homes 0 (some (Some state));
        views = set s.views id (after_turn p.1 entry (in_turn p.1 (with_ticket n (seated p.0 t seen mine handed))));
      } in (
        after_turn before entry v,
        gives,
        tt,
        subst Is (λ k. (sym same k, turn.0 k))
            (λ at' grew' part' allowed'. passes_now few b s r id t n seen mine handed state entry at' turn.1 turn.2 turn.3 by grew' part' allowed')
            at grew part allowed,
        λ state' before' entry' same_slot taken grew'.
            let state_is : state ≡ state' = held_is state state' same_slot in
            let before_is : before ≡ before' = some_inj before before' taken in
            let entry_is : entry ≡ entry' = last_is before entry entry'
            (sym grew ∙ ap journal state_is ∙ grew' ∙ ap (λ es. es ++ entry' ∷ []) (sym before_is)) in
            λ k. (after_turn (before_is k) (entry_is k) v, []),
      )
