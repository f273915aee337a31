-- A join of seats keeps the rule.
use Rattle.std.proofs.Common.{◌≡◌, ◌≢◌, ℕ, ◌+◌, ◌<◌, eqb, leb, cond, Bool, true, false, List, [], ◌∷◌, ◌++◌, length, set, sum_by, Option, Some, None, refl, ap, sym, subst, ◌∙◌, arith, eq-eqb, ne_eqb, length-set, length-append}
use mathlib.Core.Option.{some}
use mathlib.Core.Logic.{dite}
use mathlib.Core.List.{IsPrefix}
use native.Mathlib.Decide.{ℕ_discrete}
use lib.ListN.{get_elem?}
use Rattle.std.specs.List.{filter}
use Rattle.std.proofs.lemmas.Bool.Decides.{nat_tests}
use Rattle.std.proofs.lemmas.List.Elements.{All-nil, All-cons, All-append, All-weaker, filter-append}
use Rattle.atomic_table.specs.Table.{Joins}
use Rattle.atomic_table.proofs.Lists.{set_else}
use Rattle.host_events.specs.declared.journal.Entry.{Entry}
use Rattle.host_events.specs.Journal.{own_entries}
use Rattle.host_lock.specs.declared.view.Begun.{Begun}
use Rattle.host_lock.specs.declared.view.View.{View}
use Rattle.host_lock.specs.Views.{longer, first_some, tickets_of, joined, spent, has_ticket, places, thread_count}
use Rattle.host_lock.specs.Rule.{Counts, Sits}
use Rattle.host_lock.proofs.Lists.{at_within, each_set, sum_set, prefix_self, prefix_trans, prefix_shorter}
use Rattle.host_lock.proofs.Waiting.{none_some, Holds, place_kept}

-- of two beginnings of one journal, the longer is one of them, and both begin it
pub longer_is : (xs ys zs : List Entry) → IsPrefix xs zs → IsPrefix ys zs →
    IsPrefix (longer xs ys) zs × IsPrefix xs (longer xs ys) × IsPrefix ys (longer xs ys)
longer_is xs ys zs p q = by_test (leb (length ys) (length xs)) refl where
  by_test : (b : Bool) → leb (length ys) (length xs) ≡ b →
      IsPrefix (cond b xs ys) zs × IsPrefix xs (cond b xs ys) × IsPrefix ys (cond b xs ys)
  by_test true is = (p, prefix_self xs, prefix_shorter ys xs zs q p (grind (arith, nat_tests)))
  by_test false is = (q, prefix_shorter xs ys zs p q (grind (arith, nat_tests)), prefix_self ys)

first_some_none : {X : Type 0} (o : Option X) → first_some o None ≡ o
first_some_none None = refl
first_some_none (Some x) = refl

module _ {S F : Type 0} (journal : S → List Entry) (fixed : S → F) (allows : F → List Entry → Type 0) where
  -- the counts once the seat `other` is spent
  abbrev taken_in : ℕ → ℕ → Counts → Counts
  taken_in id other c = record { ticket = c.ticket; handed = c.handed; keeper = cond (eqb other c.keeper) id c.keeper; seat_of = c.seat_of }

  -- who has the count after the join
  handed_joined : (id other k h : ℕ) (o p : Option ℕ) → other ≢ id → o ≡ cond (eqb id k) (Some h) None → p ≡ cond (eqb other k) (Some h) None →
      first_some o p ≡ cond (eqb id (cond (eqb other k) id k)) (Some h) None
  handed_joined id other k h o p ne a b = dite (ℕ_discrete other k)
      (λ is. let yes = eq-eqb other k is in let no = ne_eqb id k (λ z. ne (is ∙ sym z)) in
      ap (λ q. first_some q p) (a ∙ ap (λ z. cond z (Some h) None) no) ∙ (b ∙ ap (λ z. cond z (Some h) None) yes)
      ∙ sym (ap (λ z. cond (eqb id (cond z id k)) (Some h) None) yes ∙ ap (λ z. cond z (Some h) None) (eq-eqb id id refl)))
      (λ not. let no = ne_eqb other k not in
      ap (first_some o) (b ∙ ap (λ z. cond z (Some h) None) no) ∙ first_some_none o ∙ a
      ∙ sym (ap (λ z. cond (eqb id (cond z id k)) (Some h) None) no))

  handed_others : (id other k h j : ℕ) → j ≢ id → j ≢ other →
      cond (eqb j k) (Some h) None ≡ cond (eqb j (cond (eqb other k) id k)) (Some h) None
  handed_others id other k h j a b = dite (ℕ_discrete other k)
      (λ is. ap (λ z. cond z (Some h) None) (ne_eqb j k (λ z. b (z ∙ sym is)) ∙ sym (ne_eqb j id a))
      ∙ sym (ap (λ z. cond (eqb j (cond z id k)) (Some h) None) (eq-eqb other k is)))
      (λ not. sym (ap (λ z. cond (eqb j (cond z id k)) (Some h) None) (ne_eqb other k not)))

  handed_spent : (id other k h : ℕ) → other ≢ id → None ≡ cond (eqb other (cond (eqb other k) id k)) (Some h) None
  handed_spent id other k h ne = dite (ℕ_discrete other k)
      (λ is. sym (ap (λ z. cond (eqb other (cond z id k)) (Some h) None) (eq-eqb other k is) ∙ ap (λ z. cond z (Some h) None) (ne_eqb other id ne)))
      (λ not. sym (ap (λ z. cond (eqb other (cond z id k)) (Some h) None) (ne_eqb other k not) ∙ ap (λ z. cond z (Some h) None) (ne_eqb other k not)))

  -- join of a seat
  pub joins_keeps : (b : Begun S) (id other : ℕ) (v w : View S) → v.ticket ≡ None → v.taken ≡ None → w.ticket ≡ None → w.taken ≡ None →
      0 < thread_count v → Joins (Holds journal fixed allows b) id v other w (joined v w) spent
  joins_keeps b id other v w idle out_of idle' out_of' some_thread s r at ne at' =
      let both = joined v w in
      let l = set s.views id both in
      let at'' : get_elem? s.views other ≡ some w = sym (set_else s.views id other both ne) ∙ at' in
      let p = r.seats id v at in
      let q = r.seats other w at'' in
      let long = longer_is v.seen w.seen r.counted p.seen q.seen in
      let c = taken_in id other r.counts in
      let h : ℕ = r.counts.handed in
      let sum : (f : View S → ℕ) → f both ≡ f v + f w → f spent ≡ 0 → sum_by f (set l other spent) ≡ sum_by f s.views =
      λ f add none. let x = sum_set f s.views id v both at in let y = sum_set f l other w spent at' in omega arith in
      let no_ticket : has_ticket both ≡ has_ticket v + has_ticket w =
      let x = ap tickets_of idle in let y = ap tickets_of idle' in omega arith in
      let add_threads : thread_count both ≡ thread_count v + thread_count w = length-append v.threads w.threads in
      let add_places : (thread : ℕ) → places thread both ≡ places thread v + places thread w =
      λ thread. ap length (filter-append (λ o. eqb o.thread thread) v.threads w.threads)
      ∙ length-append (filter (λ o. eqb o.thread thread) v.threads) (filter (λ o. eqb o.thread thread) w.threads) in
      let Begins : List Entry → Type 0 = λ xs. IsPrefix xs (longer v.seen w.seen) in
      record {
        counted = r.counted;
        counts = c;
        words = r.words;
        ticket = omega (arith, r.ticket, sum has_ticket no_ticket refl);
        place = place_kept journal fixed allows b r.counted s.homes l other w spent at' out_of' refl
            (place_kept journal fixed allows b r.counted s.homes s.views id v both at out_of refl r.place);
        allowed = r.allowed;
        seats = each_set (Sits journal fixed allows b r.counted c) l other spent
            (λ j x other_ne e. each_set (λ i y. i ≢ other → Sits journal fixed allows b r.counted c i y) s.views id both
            (λ i y id_ne z apart. let o = r.seats i y z in record {
              begins = o.begins;
              seen = o.seen;
              known = o.known;
              mine = o.mine;
              ticket = o.ticket;
              waits = o.waits;
              handed = o.handed ∙ handed_others id other r.counts.keeper h i id_ne apart;
            })
            (λ _. record {
              begins = λ _. p.begins some_thread;
              seen = long.0;
              known = All-append Begins (v.known ++ w.known) (v.seen ∷ w.seen ∷ [])
                  (All-append Begins v.known w.known
                  (All-weaker (λ xs. IsPrefix xs v.seen) Begins (λ xs z. prefix_trans xs v.seen (longer v.seen w.seen) z long.1) v.known p.known)
                  (All-weaker (λ xs. IsPrefix xs w.seen) Begins (λ xs z. prefix_trans xs w.seen (longer v.seen w.seen) z long.2) w.known q.known))
                  (All-cons Begins v.seen (w.seen ∷ []) long.1 (All-cons Begins w.seen [] long.2 (All-nil Begins)));
              mine = All-append (λ o. own_entries r.counted o.thread ≡ o.mine) v.threads w.threads p.mine q.mine;
              ticket = λ m z. absurd (none_some m z);
              waits = omega arith;
              handed = handed_joined id other r.counts.keeper h v.handed w.handed ne p.handed q.handed;
            })
            j x e other_ne)
            record {
              begins = λ z. absurd (omega arith);
              seen = (r.counted, refl);
              known = All-nil (λ xs. IsPrefix xs []);
              mine = All-nil (λ o. own_entries r.counted o.thread ≡ o.mine);
              ticket = λ m z. absurd (none_some m z);
              waits = omega arith;
              handed = handed_spent id other r.counts.keeper h ne;
            };
        once = λ thread z. omega (arith, r.once thread z, sum (places thread) (add_places thread) refl);
        never = λ thread z. omega (arith, r.never thread z, sum (places thread) (add_places thread) refl);
        all = omega (arith, r.all, sum thread_count add_threads refl);
        entries = r.entries;
        keeper = let same = length-set l other spent in let same' = length-set s.views id both in let within = at_within s.views id v at in
            let k = r.keeper in
            dite (ℕ_discrete other r.counts.keeper)
            (λ is. subst (λ z. cond z id r.counts.keeper < length (set l other spent)) (sym (eq-eqb other r.counts.keeper is)) (omega arith))
            (λ not. subst (λ z. cond z id r.counts.keeper < length (set l other spent)) (sym (ne_eqb other r.counts.keeper not)) (omega arith));
        few = r.few;
      }
