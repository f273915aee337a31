-- Drawing a ticket and waiting for the turn keep the rule.
use Rattle.std.proofs.Common.{◌≡◌, ◌≢◌, ℕ, suc, ◌+◌, ◌%◌, ◌^◌, ◌≤◌, ◌<◌, eqb, cond, List, [], ◌∷◌, length, get_or, set, sum_by, Option, Some, None, refl, ap, sym, subst, ◌∙◌, arith, eq-eqb, ne_eqb, length-set}
use mathlib.Core.Option.{some, none}
use mathlib.Core.Logic.{dite}
use mathlib.Core.List.{IsPrefix}
use native.Mathlib.Decide.{ℕ_discrete}
use lib.ListN.{get_elem?}
use Rattle.std.specs.List.{All}
use Rattle.atomic_table.specs.Table.{State, Act, keeps, takes, Valid, homes_after, carried_after, Allows}
use Rattle.atomic_table.proofs.Lists.{set_here, set_else, set_again}
use Rattle.host_events.specs.declared.journal.Entry.{Entry}
use Rattle.host_events.specs.Journal.{own_entries}
use Rattle.host_lock.specs.declared.view.Begun.{Begun}
use Rattle.host_lock.specs.declared.view.View.{View}
use Rattle.host_lock.specs.Views.{Pair, own, seated, with_ticket, in_turn, has_ticket, places, thread_count}
use Rattle.host_lock.specs.Rule.{Place, at_home, out, Sits, IsOneHistory}
use Rattle.host_lock.specs.Steps.{Seated, draws, Takes, looks}
use Rattle.host_lock.proofs.Lists.{at_within, same_at, each_set, sum_set}

pub some_inj : {X : Type 0} (x y : X) → Some x ≡ Some y → x ≡ y
some_inj x y e = cc e

pub none_some : {X : Type 0} (x : X) → None ≡ Some x → ⊥
none_some x e = cc e

-- a sum of terms that are smaller at each index is smaller
pub sum_le : {A : Type 0} (f g : A → ℕ) (l : List A) → ((i : ℕ) (x : A) → get_elem? l i ≡ some x → f x ≤ g x) → sum_by f l ≤ sum_by g l
sum_le f g [] each = omega arith
sum_le f g (x ∷ xs) each = omega (arith, Rattle.std.proofs.lemmas.List.Sums.sum_by-cons f x xs, Rattle.std.proofs.lemmas.List.Sums.sum_by-cons g x xs, each 0 x refl, sum_le f g xs (λ i y e. each (suc i) y e))

module _ {S F : Type 0} (journal : S → List Entry) (fixed : S → F) (allows : F → List Entry → Type 0) where
  abbrev pub St : Type 0
  St = State (Option S) (View S)

  abbrev pub Holds : Begun S → St → Type 0
  Holds b s = IsOneHistory journal fixed allows b s

  abbrev pub Few : Type 0
  Few = (part : F) (entries : List Entry) → allows part entries → length entries < 2 ^ 32

  -- neither word is near its end
  pub small : Few → (b : Begun S) (s : St) (r : Holds b s) → (r.counts.ticket < 2 ^ 33) × (length r.counted < 2 ^ 32)
  small few b s r =
      let short : length r.counted < 2 ^ 32 = few _ _ r.allowed in
      let le : sum_by has_ticket s.views ≤ sum_by thread_count s.views =
      sum_le has_ticket thread_count s.views (λ i x e. (r.seats i x e).waits) in
      (omega (arith, short, le, r.all, r.few.0, r.few.1, r.ticket), short)

  pub first_word : (b : Begun S) (s : St) (r : Holds b s) → get_or s.words 0 0 ≡ r.counts.ticket
  first_word b s r = ap (λ (ws : List ℕ). get_or ws 0 0) r.words

  pub second_word : (b : Begun S) (s : St) (r : Holds b s) → get_or s.words 1 0 ≡ length r.counted
  second_word b s r = ap (λ (ws : List ℕ). get_or ws 1 0) r.words

  -- the state stays where it is while a seat changes that is not in its turn
  pub place_kept : (b : Begun S) (counted : List Entry) (homes : List (mathlib.Core.Option.Option (Option S))) (views : List (View S)) (id : ℕ) (v w : View S) →
      get_elem? views id ≡ some v → v.taken ≡ None → w.taken ≡ None → Place journal fixed allows b counted homes views →
      Place journal fixed allows b counted homes (set views id w)
  place_kept b counted homes views id v w at idle after (at_home state has is part idle_all) =
      at_home state has is part (each_set (λ i x. x.taken ≡ None) views id w (λ j x _ e. idle_all j x e) after)
  place_kept b counted homes views id v w at idle after (out seat x away there served kept others) =
      let ne : seat ≢ id = λ h. let same : x ≡ v = same_at views seat x v there (ap (get_elem? views) h ∙ at) in
      none_some counted (sym idle ∙ ap (λ y. y.taken) (sym same) ∙ kept) in
      out seat x away (set_else views id seat w ne ∙ there) served kept
      (each_set (λ i y. y.taken ≢ None → i ≡ seat) views id w (λ j y _ e. others j y e) (λ h. absurd (h after)))

  -- fetch_add on the ticket
  pub draws_keeps : Few → (slots : ℕ) (b begun : Begun S) (id t : ℕ) (seen : List Entry) (mine : List Pair) (handed : Option ℕ) (held : List (ℕ × Option S)) →
      Allows (Holds b) slots id (seated begun t seen mine handed, held) 0 (λ n. (n + 1) % 2 ^ 64)
      (draws (seated begun t seen mine handed, held))
  draws_keeps few slots b begun id t seen mine handed held s r wide at _ =
      let v = seated begun t seen mine handed in
      let found : ℕ = get_or s.words 0 0 in
      let is : found ≡ r.counts.ticket = first_word b s r in
      let small' = (small few b s r).0 in
      let next : (found + 1) % 2 ^ 64 ≡ r.counts.ticket + 1 = omega arith in
      let w = with_ticket found v in
      let seat_of : ℕ → ℕ = λ n. cond (eqb n r.counts.ticket) id (r.counts.seat_of n) in
      let mine_of = r.seats id v at in (
        w,
        keeps,
        tt,
        record {
          counted = r.counted;
          counts = record { ticket = r.counts.ticket + 1; handed = r.counts.handed; keeper = r.counts.keeper; seat_of = seat_of };
          words = ap (λ (ws : List ℕ). set ws 0 ((found + 1) % 2 ^ 64)) r.words ∙ ap (λ (n : ℕ). n ∷ length r.counted ∷ []) next;
          ticket = omega (arith, r.ticket, sum_set has_ticket s.views id v w at);
          place = place_kept b r.counted s.homes s.views id v w at refl refl r.place;
          allowed = r.allowed;
          seats = each_set (λ i x. Sits journal fixed allows b r.counted record { ticket = r.counts.ticket + 1; handed = r.counts.handed; keeper = r.counts.keeper; seat_of = seat_of } i x) s.views id w
              (λ j x ne e. let p = r.seats j x e in record {
                begins = p.begins;
                seen = p.seen;
                known = p.known;
                mine = p.mine;
                waits = p.waits;
                handed = p.handed;
                ticket = λ n h. let q = p.ticket n h in
                    (q.0, omega (arith, q.1), ap (λ c. cond c id (r.counts.seat_of n)) (ne_eqb n r.counts.ticket (λ z. let lt = q.1 in omega arith)) ∙ q.2);
              })
              record {
                begins = mine_of.begins;
                seen = mine_of.seen;
                known = mine_of.known;
                mine = mine_of.mine;
                handed = mine_of.handed;
                ticket = λ n h. let n_is : found ≡ n = some_inj found n h in
                    (omega (arith, r.ticket), omega arith, ap (λ c. cond c id (r.counts.seat_of n)) (eq-eqb n r.counts.ticket (omega arith)));
                waits = omega arith;
              };
          once = λ thread h. omega (arith, r.once thread h, sum_set (places thread) s.views id v w at);
          never = λ thread h. omega (arith, r.never thread h, sum_set (places thread) s.views id v w at);
          all = omega (arith, r.all, sum_set thread_count s.views id v w at);
          entries = r.entries;
          keeper = subst (λ n. r.counts.keeper < n) (sym (length-set s.views id w)) r.keeper;
          few = r.few;
        },
        refl,
      )

  -- a seat changes in nothing
  same_state : (b : Begun S) (s : St) (r : Holds b s) (id : ℕ) (v : View S) → get_elem? s.views id ≡ some v →
      Holds b record { words = set s.words 1 (get_or s.words 1 0); homes = s.homes; views = set s.views id v }
  same_state b s r id v at =
      let words : set s.words 1 (get_or s.words 1 0) ≡ s.words =
      ap (λ (ws : List ℕ). set ws 1 (get_or ws 1 0)) r.words ∙ sym r.words in
      subst (Holds b) (λ k. record { words = sym words k; homes = s.homes; views = sym (set_again s.views id v at) k }) r

  abbrev Goes : Begun S → St → ℕ → ℕ → Seated S → (Seated S → Type 0) → Type 0
  Goes b s word id m then =
      (w : View S) × (a : Act (Option S)) × Valid s.homes m.1 a ×
      Holds b record { words = set s.words 1 word; homes = homes_after s.homes m.1 a; views = set s.views id w } ×
      then (w, carried_after m.1 a)

  -- the state is taken where the slot is at home
  takes_state : (b begun : Begun S) (s : St) (r : Holds b s) (id t n : ℕ) (seen : List Entry) (mine : List Pair) (handed : Option ℕ) →
      get_elem? s.views id ≡ some (with_ticket n (seated begun t seen mine handed)) → n ≡ get_or s.words 1 0 →
      Place journal fixed allows b r.counted s.homes s.views →
      Goes b s (get_or s.words 1 0) id (with_ticket n (seated begun t seen mine handed), [])
      (Takes journal fixed allows (with_ticket n (seated begun t seen mine handed), []))
  takes_state b begun s r id t n seen mine handed at served (at_home state has is part idle_all) =
      let v = with_ticket n (seated begun t seen mine handed) in
      let w = in_turn (journal state) v in
      let sits = r.seats id v at in
      let wide = at_within s.views id v at in
      let words : set s.words 1 (get_or s.words 1 0) ≡ s.words =
      ap (λ (ws : List ℕ). set ws 1 (get_or ws 1 0)) r.words ∙ sym r.words in
      let same : begun ≡ b = some_inj begun b (sits.begins (omega arith)) in (
        w,
        takes 0 (Some state),
        ap (λ (hs : List (mathlib.Core.Option.Option (Option S))). get_elem? hs 0) has,
        record {
          counted = r.counted;
          counts = r.counts;
          words = words ∙ r.words;
          ticket = omega (arith, r.ticket, sum_set has_ticket s.views id v w at);
          place = out id w (ap (λ (hs : List (mathlib.Core.Option.Option (Option S))). set hs 0 none) has) (set_here s.views id w wide)
              (ap Some (served ∙ second_word b s r)) (ap Some is)
              (each_set (λ i x. x.taken ≢ None → i ≡ id) s.views id w (λ j x _ e h. absurd (h (idle_all j x e))) (λ _. refl));
          allowed = r.allowed;
          seats = each_set (Sits journal fixed allows b r.counted r.counts) s.views id w (λ j x _ e. r.seats j x e)
              record { begins = sits.begins; seen = sits.seen; known = sits.known; mine = sits.mine; ticket = sits.ticket; waits = sits.waits; handed = sits.handed };
          once = λ thread h. omega (arith, r.once thread h, sum_set (places thread) s.views id v w at);
          never = λ thread h. omega (arith, r.never thread h, sum_set (places thread) s.views id v w at);
          all = omega (arith, r.all, sum_set thread_count s.views id v w at);
          entries = r.entries;
          keeper = subst (λ n. r.counts.keeper < n) (sym (length-set s.views id w)) r.keeper;
          few = r.few;
        },
        record {
          state = state;
          begun = begun;
          begins = refl;
          fixed_part = part ∙ ap (λ (x : Begun S). fixed x.state.value) (sym same);
          allowed = subst (λ (p : F × List Entry). allows p.0 p.1) (λ k. (fixed (sym same k).state.value, sym is k)) r.allowed;
          seen = subst (IsPrefix seen) (sym is) sits.seen;
          mine = subst (λ (es : List Entry). All (λ o. own_entries es o.thread ≡ o.mine) (own t mine ∷ [])) (sym is) sits.mine;
          takes = refl;
        },
      )
  takes_state b begun s r id t n seen mine handed at served (out seat x away there ticket kept others) =
      let v = with_ticket n (seated begun t seen mine handed) in
      let here = ((r.seats id v at).ticket n refl).2 in
      let its = ((r.seats seat x there).ticket (length r.counted) ticket).2 in
      let same : seat ≡ id = sym its ∙ ap r.counts.seat_of (sym (served ∙ second_word b s r)) ∙ here in
      let equal : x ≡ v = same_at s.views seat x v there (ap (get_elem? s.views) same ∙ at) in
      absurd (none_some r.counted (ap (λ (y : View S). y.taken) (sym equal) ∙ kept))

  -- load of serving
  pub looks_keeps : (slots : ℕ) (b begun : Begun S) (id t n : ℕ) (seen : List Entry) (mine : List Pair) (handed : Option ℕ) →
      Allows (Holds b) slots id (with_ticket n (seated begun t seen mine handed), []) 1 (λ k. k)
      (looks journal fixed allows (with_ticket n (seated begun t seen mine handed), []))
  looks_keeps slots b begun id t n seen mine handed s r wide at _ =
      let v = with_ticket n (seated begun t seen mine handed) in
      let found : ℕ = get_or s.words 1 0 in
      dite (ℕ_discrete n found)
      (λ hit. let g = takes_state b begun s r id t n seen mine handed at hit r.place in
      (g.0, g.1, g.2, g.3, ((λ _. g.4), λ miss. absurd (miss (ap Some hit)))))
      (λ miss. (v, keeps, tt, same_state b s r id v at, ((λ h. absurd (miss (some_inj n found h))), λ _. refl)))
