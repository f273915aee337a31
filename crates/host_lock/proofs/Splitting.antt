-- A split and a join of seats keep the rule, and so does the start.
use Rattle.std.proofs.Common.{◌≡◌, ◌≢◌, ℕ, zero, suc, ◌+◌, ◌^◌, ◌<◌, eqb, cond, Bool, true, false, List, [], ◌∷◌, ◌++◌, length, set, sum_by, Option, Some, None, refl, ap, sym, subst, ◌∙◌, arith, eq-eqb, ne_eqb, length-set, length-append, inl, inr}
use mathlib.Core.Option.{some, none, some-injective, some-ne-none}
use mathlib.Core.Logic.{dite}
use mathlib.Core.List.{IsPrefix}
use native.Mathlib.Decide.{ℕ_discrete}
use lib.ListN.{get_elem?}
use Rattle.std.specs.List.{filter}
use Rattle.std.proofs.lemmas.List.Elements.{All-nil, All-cons, All-weaker}
use Rattle.std.proofs.lemmas.List.Sums.{sum_by_push}
use Rattle.atomic_table.specs.Table.{State, Splits, opening}
use Rattle.atomic_table.proofs.Lists.{at_longer}
use Rattle.host_events.specs.declared.journal.Entry.{Entry}
use Rattle.host_events.specs.Journal.{own_entries}
use Rattle.host_lock.specs.declared.view.Begun.{Begun}
use Rattle.host_lock.specs.declared.view.View.{View}
use Rattle.host_lock.specs.Views.{Pair, own, seated, first_seat, with_one_more, next_seat, has_ticket, places, thread_count}
use Rattle.host_lock.specs.Rule.{IsHandedOut, Counts, Place, at_home, out, Sits}
use Rattle.host_lock.proofs.Lists.{at_snoc_cases, each_set, sum_set, prefix_self}
use Rattle.host_lock.proofs.Journals.{own_none}
use Rattle.host_lock.proofs.Waiting.{some_inj, none_some, Holds, place_kept}

-- an element that stands in no seat's place, once more at the end
each_snoc : {A : Type 0} (P : ℕ → A → Type 0) (l : List A) (w : A) → ((j : ℕ) (x : A) → get_elem? l j ≡ some x → P j x) → P (length l) w →
    (j : ℕ) (x : A) → get_elem? (l ++ w ∷ []) j ≡ some x → P j x
each_snoc {A} P l w old new j x e = elim (at_snoc_cases l w x j e) [
  | inl h ↦ old j x h
  | inr h ↦ subst (λ (p : ℕ × A). P p.0 p.1) (λ k. (sym h.0 k, h.1 k)) new
]

one_stands : (n t : ℕ) (mine : List Pair) → n ≡ t → length (filter (λ o. eqb o.thread t) (own n mine ∷ [])) ≡ 1
one_stands n t mine is = ap (λ b. length (cond b (own n mine ∷ []) [])) (eq-eqb n t is)

none_stands : (n t : ℕ) (mine : List Pair) → n ≢ t → length (filter (λ o. eqb o.thread t) (own n mine ∷ [])) ≡ 0
none_stands n t mine other = ap (λ b. length (cond b (own n mine ∷ []) [])) (ne_eqb n t other)

module _ {S F : Type 0} (journal : S → List Entry) (fixed : S → F) (allows : F → List Entry → Type 0) where
  place_longer : (b : Begun S) (counted : List Entry) (homes : List (mathlib.Core.Option.Option (Option S))) (views : List (View S)) (w : View S) →
      w.taken ≡ None → Place journal fixed allows b counted homes views → Place journal fixed allows b counted homes (views ++ w ∷ [])
  place_longer b counted homes views w idle (at_home state has is part idle_all) =
      at_home state has is part (each_snoc (λ i x. x.taken ≡ None) views w idle_all idle)
  place_longer b counted homes views w idle (out seat x away there served kept others) =
      out seat x away (at_longer views (w ∷ []) seat x there) served kept
      (each_snoc (λ i y. y.taken ≢ None → i ≡ seat) views w others (λ h. absurd (h idle)))

  -- the counts once one more thread is handed out
  abbrev one_more_out : Counts → Counts
  one_more_out c = record { ticket = c.ticket; handed = c.handed + 1; keeper = c.keeper; seat_of = c.seat_of }

  -- split of the seat that has the count
  splits_now : (b : Begun S) (s : State (Option S) (View S)) (r : Holds journal fixed allows b s) (id t : ℕ) (seen : List Entry) (mine : List Pair) →
      get_elem? s.views id ≡ some (seated b t seen mine (Some r.counts.handed)) → r.counts.handed < b.threads → id ≡ r.counts.keeper →
      Holds journal fixed allows b record {
        words = s.words;
        homes = s.homes;
        views = set s.views id (with_one_more (seated b t seen mine (Some r.counts.handed))) ++ next_seat (seated b t seen mine (Some r.counts.handed)) ∷ [];
      }
  splits_now b s r id t seen mine at more keeper_is =
      let h : ℕ = r.counts.handed in
      let v = seated b t seen mine (Some h) in
      let left = with_one_more v in
      let right = next_seat v in
      let l = set s.views id left in
      let sits = r.seats id v at in
      let c = one_more_out r.counts in
      let new_out : ¬ IsHandedOut h (h + 1) = λ p. let q = p.1 in omega arith in
      let sum : (f : View S → ℕ) → f left ≡ f v → sum_by f (l ++ right ∷ []) ≡ sum_by f s.views + f right =
      λ f same. let a = sum_set f s.views id v left at in let z = sum_by_push f l right in omega arith in
      record {
        counted = r.counted;
        counts = c;
        words = r.words;
        ticket = omega (arith, r.ticket, sum has_ticket refl);
        place = place_longer b r.counted s.homes l right refl (place_kept journal fixed allows b r.counted s.homes s.views id v left at refl refl r.place);
        allowed = r.allowed;
        seats = each_snoc (Sits journal fixed allows b r.counted c) l right
            (each_set (Sits journal fixed allows b r.counted c) s.views id left
            (λ j x ne e. let p = r.seats j x e in record {
              begins = p.begins;
              seen = p.seen;
              known = p.known;
              mine = p.mine;
              ticket = p.ticket;
              waits = p.waits;
              handed = let other = ne_eqb j r.counts.keeper (λ z. ne (z ∙ sym keeper_is)) in
                  p.handed ∙ ap (λ z. cond z (Some h) None) other ∙ ap (λ z. cond z (Some (h + 1)) None) (sym other);
            })
            record {
              begins = sits.begins;
              seen = sits.seen;
              known = sits.known;
              mine = sits.mine;
              ticket = sits.ticket;
              waits = sits.waits;
              handed = ap (λ z. cond z (Some (h + 1)) None) (sym (eq-eqb id r.counts.keeper keeper_is));
            })
            record {
              begins = λ _. refl;
              seen = sits.seen;
              known = All-nil (λ xs. IsPrefix xs seen);
              mine = All-cons (λ o. own_entries r.counted o.thread ≡ o.mine) (own (h + 1) []) []
                  (own_none h (h + 1) new_out r.counted r.entries) (All-nil (λ o. own_entries r.counted o.thread ≡ o.mine));
              ticket = λ m z. absurd (none_some m z);
              waits = omega arith;
              handed = ap (λ z. cond z (Some (h + 1)) None) (sym (ne_eqb (length l) r.counts.keeper (λ z.
                  let le = r.keeper in let same = length-set s.views id left in omega arith)));
            };
        once = λ thread out_is. dite (ℕ_discrete (h + 1) thread)
            (λ is. omega (arith, sum (places thread) refl, one_stands (h + 1) thread [] is, r.never thread (λ p. let q = p.1 in omega arith)))
            (λ ne. let lo = out_is.0 in let hi = out_is.1 in
            omega (arith, sum (places thread) refl, none_stands (h + 1) thread [] ne, r.once thread (lo, omega arith)));
        never = λ thread not_out.
            let ne : h + 1 ≢ thread = λ z. not_out (omega arith, omega arith) in
            omega (arith, sum (places thread) refl, none_stands (h + 1) thread [] ne, r.never thread (λ p. not_out (p.0, let q = p.1 in omega arith)));
        all = omega (arith, r.all, sum thread_count refl);
        entries = All-weaker (λ (e : Entry). IsHandedOut h e.thread) (λ (e : Entry). IsHandedOut (h + 1) e.thread) (λ e p. (p.0, let q = p.1 in omega arith)) r.counted r.entries;
        keeper = let same = length-set s.views id left in let k = r.keeper in omega (arith, length-append l (right ∷ []));
        few = (omega (arith, more), r.few.1);
      }

  -- split of a seat
  pub splits_keeps : (b begun : Begun S) (id t h : ℕ) (seen : List Entry) (mine : List Pair) → h < b.threads →
      Splits (Holds journal fixed allows b) id (seated begun t seen mine (Some h)) (with_one_more (seated begun t seen mine (Some h))) (next_seat (seated begun t seen mine (Some h)))
  splits_keeps b begun id t h seen mine more s r at =
      let v = seated begun t seen mine (Some h) in
      let sits = r.seats id v at in
      let same : begun ≡ b = some_inj begun b (sits.begins (omega arith)) in
      let keeps = keeper_of (eqb id r.counts.keeper) refl sits.handed in
      subst (λ (p : Begun S × ℕ). get_elem? s.views id ≡ some (seated p.0 t seen mine (Some p.1)) → p.1 < b.threads → Holds journal fixed allows b record {
        words = s.words;
        homes = s.homes;
        views = set s.views id (with_one_more (seated p.0 t seen mine (Some p.1))) ++ next_seat (seated p.0 t seen mine (Some p.1)) ∷ [];
      })
      (λ k. (sym same k, sym keeps.0 k))
      (λ at' more'. splits_now b s r id t seen mine at' more' keeps.1) at more where
        keeper_of : (z : Bool) → eqb id r.counts.keeper ≡ z → Some h ≡ cond z (Some r.counts.handed) None → (h ≡ r.counts.handed) × (id ≡ r.counts.keeper)
        keeper_of true is e = (some_inj h r.counts.handed e, grind (arith, Rattle.std.proofs.lemmas.Bool.Decides.nat_tests))
        keeper_of false is e = absurd (none_some h (sym e))

  -- the start
  pub starts : (b : Begun S) (state : S) → fixed state ≡ fixed b.state.value → journal state ≡ [] → allows (fixed b.state.value) [] →
      0 < b.threads → b.threads < 2 ^ 32 → Holds journal fixed allows b (opening (0 ∷ 0 ∷ []) (Some state ∷ []) (first_seat b))
  starts b state part empty allowed some_thread few = record {
    counted = [];
    counts = record { ticket = 0; handed = 1; keeper = 0; seat_of = λ _. 0 };
    words = refl;
    ticket = refl;
    place = at_home state refl empty part (each_one (λ i v. v.taken ≡ None) (first_seat b) refl);
    allowed = allowed;
    seats = each_one (Sits journal fixed allows b [] record { ticket = 0; handed = 1; keeper = 0; seat_of = λ _. 0 }) (first_seat b) record {
      begins = λ _. refl;
      seen = prefix_self [];
      known = All-nil (λ xs. IsPrefix xs []);
      mine = All-cons (λ o. own_entries [] o.thread ≡ o.mine) (own 1 []) [] refl (All-nil (λ o. own_entries [] o.thread ≡ o.mine));
      ticket = λ m z. absurd (none_some m z);
      waits = omega arith;
      handed = refl;
    };
    once = λ thread h. let lo = h.0 in let hi = h.1 in let is : 1 ≡ thread = omega arith in let e = one_stands 1 thread [] is in omega arith;
    never = λ thread h. let ne : 1 ≢ thread = λ z. h (omega arith, omega arith) in let e = none_stands 1 thread [] ne in omega arith;
    all = refl;
    entries = All-nil (λ (e : Entry). IsHandedOut 1 e.thread);
    keeper = omega arith;
    few = (omega arith, few);
  } where
    each_one : (P : ℕ → View S → Type 0) (v : View S) → P 0 v → (j : ℕ) (x : View S) → get_elem? (v ∷ []) j ≡ some x → P j x
    each_one P v first zero x e = subst (P 0) (some-injective v x e) first
    each_one P v first (suc j) x e = absurd (some-ne-none x (sym e))
