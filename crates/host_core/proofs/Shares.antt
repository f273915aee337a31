-- What all threads have of something is at most the sum of their shares' parts.
use Rattle.std.proofs.Common.{◌≡◌, ℕ, ◌+◌, ◌≤◌, zero, suc, Bool, true, false, ◌&&◌, eqb, leb, cond, List, [], ◌∷◌, length, get_or, take, Option, Some, None, refl, sym, ap, inl, inr, arith, sum_by, add-one}
use Rattle.std.specs.Option.{is_some, option_map_or}
use Rattle.std.specs.List.{cons_option, filter, filter_map}
use Rattle.std.proofs.lemmas.Bool.{le-leb}
use Rattle.std.proofs.lemmas.Bool.Decides.{nat_tests}
use Rattle.std.proofs.lemmas.List.{take_all}
use Rattle.std.proofs.lemmas.List.Elements.{filter_agree}
use Rattle.std.proofs.lemmas.List.Sums.{sum_by_more, sum_by-take-le}
use Rattle.std.proofs.lemmas.Option.{slice_get_cases}
use Rattle.host_events.specs.declared.journal.Entry.{Entry}
use Rattle.host_events.specs.Contexts.{made_context, made_count}
use Rattle.host_core.specs.declared.bounds.Share.{Share}
use Rattle.host_core.specs.Allowed.{sets_rule, used_contexts, used_events, used_rules}
use Rattle.host_core.specs.Bounds.{part_of}
use Rattle.host_core.specs.Tables.{set_count}

length_cond : {X : Type 0} (b : Bool) (x : X) (xs : List X) → length (cond b (x ∷ xs) xs) ≡ cond b 1 0 + length xs
length_cond true x xs = omega arith
length_cond false x xs = omega arith

-- the count of a test that is one of two others
length-filter_add : {X : Type 0} (p q r : X → Bool) → ((x : X) → cond (p x) 1 0 ≡ cond (q x) 1 0 + cond (r x) 1 0) →
    (xs : List X) → length (filter p xs) ≡ length (filter q xs) + length (filter r xs)
length-filter_add p q r each [] = refl
length-filter_add p q r each (x ∷ xs) =
    omega (
      arith,
      length_cond (p x) x (filter p xs),
      length_cond (q x) x (filter q xs),
      length_cond (r x) x (filter r xs),
      each x,
      length-filter_add p q r each xs,
    )

-- how many entries of the thread pass
abbrev count_of : (Entry → Bool) → List Entry → ℕ → ℕ
count_of test journal thread = length (filter (λ entry. eqb entry.thread thread && test entry) journal)

-- how many entries of threads up to m pass
abbrev count_upto : (Entry → Bool) → List Entry → ℕ → ℕ
count_upto test journal m = length (filter (λ entry. leb entry.thread m && test entry) journal)

up_one : (t m : ℕ) (b : Bool) → cond (leb t (suc m) && b) 1 0 ≡ cond (leb t m && b) 1 0 + cond (eqb t (suc m) && b) 1 0
up_one t m b = grind (arith, nat_tests)

none_below : (t : ℕ) (b : Bool) → (leb t 0 && b) ≡ (eqb t 0 && b)
none_below t b = grind (arith, nat_tests)

count_upto-le : (part : Share → ℕ) (test : Entry → Bool) (shares : List Share) (journal : List Entry) →
    ((thread : ℕ) → count_of test journal thread ≤ part_of part shares thread) →
    (m : ℕ) → count_upto test journal m ≤ sum_by part (take m shares)
count_upto-le part test shares journal within zero =
    let same : count_upto test journal 0 ≡ count_of test journal 0 =
    ap length (filter_agree (λ e. leb e.thread 0 && test e) (λ e. eqb e.thread 0 && test e) (λ e. none_below e.thread (test e)) journal) in
    omega (arith, within 0)
count_upto-le part test shares journal within (suc m) =
    let before = count_upto-le part test shares journal within m in
    let both : count_upto test journal (suc m) ≡ count_upto test journal m + count_of test journal (suc m) =
    length-filter_add (λ e. leb e.thread (suc m) && test e) (λ e. leb e.thread m && test e) (λ e. eqb e.thread (suc m) && test e)
    (λ e. up_one e.thread m (test e)) journal in
    elim (slice_get_cases shares m).1 [
      | inl at ↦
          let part_is : part_of part shares (suc m) ≡ part at.0 = ap (λ o. option_map_or part o 0) at.2 in
          let more : sum_by part (take (m + 1) shares) ≡ sum_by part (take m shares) + part (get_or shares m at.0) =
          sum_by_more part shares m at.0 at.1 in
          let same : part (get_or shares m at.0) ≡ part at.0 = ap part at.3 in
          let step : sum_by part (take (suc m) shares) ≡ sum_by part (take (m + 1) shares) = ap (λ k. sum_by part (take k shares)) (sym (add-one m)) in
          omega (arith, within (suc m), before, both, part_is, more, same, step)
      | inr past ↦
          let none : part_of part shares (suc m) ≡ 0 = ap (λ o. option_map_or part o 0) past.1 in
          let now : sum_by part (take (suc m) shares) ≡ sum_by part shares = ap (λ l. sum_by part l) (take_all (suc m) shares (omega arith)) in
          let then : sum_by part (take m shares) ≡ sum_by part shares = ap (λ l. sum_by part l) (take_all m shares past.0) in
          omega (arith, within (suc m), before, both, none, now, then)
    ]

-- from some number on, all entries are of threads up to it
bounded : (test : Entry → Bool) (journal : List Entry) →
    (m : ℕ) × ((k : ℕ) → m ≤ k → count_upto test journal k ≡ length (filter test journal))
bounded test [] = (0, λ k h. refl)
bounded test (e ∷ es) =
    let rest = bounded test es in (
      rest.0 + e.thread,
      λ k h.
          let same : (leb e.thread k && test e) ≡ test e = ap (λ b. b && test e) (le-leb e.thread k (omega arith)) in
          let one = ap (λ b. cond {A = ℕ} b 1 0) same in
          omega (
            arith,
            length_cond (leb e.thread k && test e) e (filter (λ x. leb x.thread k && test x) es),
            length_cond (test e) e (filter test es),
            one,
            rest.1 k (omega arith),
          ),
    )

-- where no thread has more entries that pass than its part, all have at most the sum of the parts
pub count-le_sum : (part : Share → ℕ) (test : Entry → Bool) (shares : List Share) (journal : List Entry) →
    ((thread : ℕ) → length (filter (λ entry. eqb entry.thread thread && test entry) journal) ≤ part_of part shares thread) →
    length (filter test journal) ≤ sum_by part shares
count-le_sum part test shares journal within =
    let enough = bounded test journal in
    omega (arith, enough.1 enough.0 (omega arith), count_upto-le part test shares journal within enough.0, sum_by-take-le part shares enough.0)

and-true : (b : Bool) → (b && true) ≡ b
and-true true = refl
and-true false = refl

filter-all : {X : Type 0} (xs : List X) → filter (λ _. true) xs ≡ xs
filter-all [] = refl
filter-all (x ∷ xs) = ap (λ ys. x ∷ ys) (filter-all xs)

length-cons_option : {X : Type 0} (o : Option X) (xs : List X) → length (cons_option o xs) ≡ cond (is_some o) 1 0 + length xs
length-cons_option None xs = omega arith
length-cons_option (Some x) xs = omega arith

length-filter_map : {X Y : Type 0} (f : X → Option Y) (xs : List X) → length (filter_map f xs) ≡ length (filter (λ x. is_some (f x)) xs)
length-filter_map f [] = refl
length-filter_map f (x ∷ xs) =
    omega (arith, length-cons_option (f x) (filter_map f xs), length_cond (is_some (f x)) x (filter (λ y. is_some (f y)) xs), length-filter_map f xs)

pub events-le : (shares : List Share) (journal : List Entry) →
    ((thread : ℕ) → used_events journal thread ≤ part_of (λ share. share.events) shares thread) →
    length journal ≤ sum_by (λ share. share.events) shares
events-le shares journal within =
    omega (
      arith,
      ap length (filter-all journal),
      count-le_sum (λ share. share.events) (λ _. true) shares journal (λ thread.
          omega (
            arith,
            within thread,
            ap length (filter_agree (λ e. eqb e.thread thread && true) (λ e. eqb e.thread thread) (λ e. and-true (eqb e.thread thread)) journal),
          )),
    )

pub contexts-le : (shares : List Share) (journal : List Entry) →
    ((thread : ℕ) → used_contexts journal thread ≤ part_of (λ share. share.contexts) shares thread) →
    made_count journal ≤ sum_by (λ share. share.contexts) shares
contexts-le shares journal within =
    omega (
      arith,
      length-filter_map (λ e. made_context e.reply) journal,
      count-le_sum (λ share. share.contexts) (λ e. is_some (made_context e.reply)) shares journal within,
    )

pub rules-le : (shares : List Share) (journal : List Entry) →
    ((thread : ℕ) → used_rules journal thread ≤ part_of (λ share. share.rules) shares thread) →
    set_count journal ≤ sum_by (λ share. share.rules) shares
rules-le shares journal within = count-le_sum (λ share. share.rules) (λ e. sets_rule e.reply) shares journal within
