-- Contexts, assemblies and operations are numbered alike: the number of each is one more than the count of those
-- that were made before. So in a legal journal the numbers are 1, 2, .. in order.
use Rattle.std.proofs.Common.{◌≡◌, ℕ, ◌+◌, ◌<◌, ◌≤◌, ◌⊎◌, inl, inr, true, false, cond, zero, suc, List, [], ◌∷◌, ◌++◌, length, Option, Some, None, refl, sym, ap, subst, ◌∙◌, append-nil, arith}
use Rattle.std.specs.List.{cons_option, filter_map, list_any, range_with_len}
use Rattle.std.specs.Option.{is_some}
use Rattle.std.proofs.lemmas.Bool.{eqb-true, eq-eqb, false_from_ne_true}
use Rattle.std.proofs.lemmas.List.{length-append}
use Rattle.std.proofs.lemmas.List.Elements.{filter_map-append}
use Rattle.host_events.specs.declared.event.Event.{Event}
use Rattle.host_events.specs.declared.reply.Reply.{Reply}
use Rattle.host_events.specs.declared.journal.Entry.{Entry}
use Rattle.host_events.specs.Contexts.{is_number}
use Rattle.host_events.specs.Files.{Files}
use Rattle.host_events.specs.Journal.{IsLegal}
use Rattle.host_events.specs.Reply.{IsReply}
use Rattle.host_events.proofs.Parts.{IsBeside, PartsAt, beside, each_push, filter_map-push, parts-append, parts_any, parts_push}
use Rattle.host_events.proofs.Push.{IsLegal-prefix}
pub use Rattle.host_events.proofs.Push.{count, count-push}

-- a number that a reply gives is one more than the count of those before
abbrev pub Counts : Files → (Reply → Option ℕ) → Type 0
Counts files number =
    (journal : List Entry) (event : Event) (reply : Reply) (n : ℕ) →
    IsReply files journal event reply → number reply ≡ Some n → n ≡ count number journal + 1

-- the reply of the entry gives the number
abbrev pub Numbers : (Reply → Option ℕ) → ℕ → Entry → Type 0
Numbers number n entry = number entry.reply ≡ Some n

-- a number that is this one
pub is_number-some : (c : ℕ) (found : Option ℕ) → is_number c found ≡ true → found ≡ Some c
is_number-some c None h = cc
is_number-some c (Some d) h = ap Some (eqb-true d c h)

pub is_number-true : (c : ℕ) (found : Option ℕ) → found ≡ Some c → is_number c found ≡ true
is_number-true c None h = cc
is_number-true c (Some d) h = let same : d ≡ c = cc h in eq-eqb d c same

-- each entry that gives a number counts
pub count-parts : (number : Reply → Option ℕ) (before : List Entry) (entry : Entry) (after : List Entry) (n : ℕ) → Numbers number n entry →
    count number before + 1 ≤ count number (before ++ entry ∷ after)
count-parts number before entry after n gives =
    let numbers : List Entry → List ℕ = λ es. filter_map (λ e. number e.reply) es in
    let parted = ap length (filter_map-append (λ e. number e.reply) before (entry ∷ after))
    ∙ length-append (numbers before) (numbers (entry ∷ after)) in
    let first : numbers (entry ∷ after) ≡ n ∷ numbers after = ap (λ o. cons_option o (numbers after)) gives in
    omega (arith, parted, ap length first)

range_more : (a n : ℕ) → range_with_len a (suc n) ≡ range_with_len a n ++ (a + n) ∷ []
range_more a zero = let e : a ≡ a + 0 = omega arith in ap (λ b. b ∷ []) e
range_more a (suc n) =
    let e : (a + 1) + n ≡ a + suc n = omega arith in
    ap (λ ns. a ∷ ns) (range_more (a + 1) n ∙ ap (λ b. range_with_len (a + 1) n ++ b ∷ []) e)

-- the numbers of more entries that give one more number, or none
range_push : (o : Option ℕ) (n : ℕ) → ((m : ℕ) → o ≡ Some m → m ≡ n + 1) →
    range_with_len 1 n ++ cons_option o [] ≡ range_with_len 1 (n + cond (is_some o) 1 0)
range_push None n next = let e : n ≡ n + 0 = omega arith in append-nil (range_with_len 1 n) ∙ ap (range_with_len 1) e
range_push (Some m) n next =
    let is : m ≡ 1 + n = next m refl ∙ omega arith in
    let e : suc n ≡ n + 1 = omega arith in
    ap (λ b. range_with_len 1 n ++ b ∷ []) is ∙ sym (range_more 1 n) ∙ ap (range_with_len 1) e

le_cases : (a b : ℕ) → a ≤ b + 1 → (a ≤ b) ⊎ (a ≡ b + 1)
le_cases zero b h = inl (omega arith)
le_cases (suc a) zero h = let e : a ≡ 0 = omega arith in inr (omega arith)
le_cases (suc a) (suc b) h = elim (le_cases a b (omega arith)) [
  | inl within ↦ inl (omega arith)
  | inr last ↦ inr (omega arith)
]

module _ (files : Files) (number : Reply → Option ℕ) (counts : Counts files number) where
  -- the number of an entry tells how many come before it
  pub number_parts : (journal : List Entry) (n : ℕ) → IsLegal files journal → (p : PartsAt (Numbers number n) journal) →
      n ≡ count number p.before + 1
  number_parts journal n legal p = counts p.before p.here.event p.here.reply n (legal p.before p.here p.after p.parted) p.holds

  -- no number is greater than the count of numbers
  pub number_bounds : (journal : List Entry) (n : ℕ) → IsLegal files journal → PartsAt (Numbers number n) journal →
      (0 < n) × (n ≤ count number journal)
  number_bounds journal n legal p =
      let is = number_parts journal n legal p in
      let more : count number p.before + 1 ≤ count number journal =
      subst (λ j. count number p.before + 1 ≤ count number j) (sym p.parted) (count-parts number p.before p.here p.after n p.holds) in
      (omega arith, omega arith)

  -- one entry alone gives the number
  pub one_number : (journal : List Entry) (n : ℕ) → IsLegal files journal → (p q : PartsAt (Numbers number n) journal) →
      (p.before ≡ q.before) × (p.here ≡ q.here) × (p.after ≡ q.after)
  one_number journal n legal p q = at (beside p.before p.after q.before q.after p.here q.here (sym p.parted ∙ q.parted))
    where
      at : IsBeside p.before p.after q.before q.after p.here q.here → (p.before ≡ q.before) × (p.here ≡ q.here) × (p.after ≡ q.after)
      at (IsBeside.is_one s t u) = (s, t, u)
      at (IsBeside.is_first between s t) =
          let one = number_parts journal n legal p in
          let other = number_parts journal n legal q in
          let more : count number p.before + 1 ≤ count number q.before =
          subst (λ j. count number p.before + 1 ≤ count number j) (sym s) (count-parts number p.before p.here between n p.holds) in
          absurd (omega arith)
      at (IsBeside.is_second between s t) =
          let one = number_parts journal n legal p in
          let other = number_parts journal n legal q in
          let more : count number q.before + 1 ≤ count number p.before =
          subst (λ j. count number q.before + 1 ≤ count number j) (sym s) (count-parts number q.before q.here between n q.holds) in
          absurd (omega arith)

  -- no entry gives a number that is greater than the count
  pub none_beyond : (journal : List Entry) (n : ℕ) → IsLegal files journal → count number journal < n →
      list_any (λ e. is_number n (number e.reply)) journal ≡ false
  none_beyond journal n legal beyond =
      false_from_ne_true (list_any (λ e. is_number n (number e.reply)) journal)
      (λ some.
      let p = parts_any (λ e. is_number n (number e.reply)) journal some in
      let bounds = number_bounds journal n legal
      (record { before = p.before; here = p.here; after = p.after; parted = p.parted; holds = is_number-some n (number p.here.reply) p.holds }) in
      let most = bounds.1 in
      omega arith)

  -- no entry before the one that gives a number gives it
  pub none_before : (journal : List Entry) (n : ℕ) → IsLegal files journal → (p : PartsAt (Numbers number n) journal) →
      list_any (λ e. is_number n (number e.reply)) p.before ≡ false
  none_before journal n legal p =
      let is = number_parts journal n legal p in
      none_beyond p.before n (IsLegal-prefix files p.before (p.here ∷ p.after) (subst (IsLegal files) p.parted legal)) (omega arith)

  -- the numbers are 1, 2, .. in order
  pub numbers_in_order : (journal : List Entry) → IsLegal files journal →
      filter_map (λ e. number e.reply) journal ≡ range_with_len 1 (count number journal)
  numbers_in_order journal =
      each_push (λ (j : List Entry). IsLegal files j → filter_map (λ e. number e.reply) j ≡ range_with_len 1 (count number j))
      (λ legal. refl)
      (λ j e before legal.
      filter_map-push (λ x. number x.reply) j e
      ∙ ap (λ ns. ns ++ cons_option (number e.reply) []) (before (IsLegal-prefix files j (e ∷ []) legal))
      ∙ range_push (number e.reply) (count number j) (λ m gives. counts j e.event e.reply m (legal j e [] refl) gives)
      ∙ ap (range_with_len 1) (sym (count-push number j e)))
      journal

  -- an entry gives each number up to the count
  pub number_given : (journal : List Entry) (n : ℕ) → IsLegal files journal → 0 < n → n ≤ count number journal →
      PartsAt (Numbers number n) journal
  number_given journal =
      each_push (λ (j : List Entry). (n : ℕ) → IsLegal files j → 0 < n → n ≤ count number j → PartsAt (Numbers number n) j)
      (λ n legal some most. absurd (omega arith))
      (λ j e before n legal some most.
      one_more j e (number e.reply) refl n
      (λ m gives. counts j e.event e.reply m (legal j e [] refl) gives)
      (before n (IsLegal-prefix files j (e ∷ []) legal) some)
      (subst (λ k. n ≤ k) (count-push number j e) most))
      journal
    where
      one_more : (j : List Entry) (e : Entry) (o : Option ℕ) → number e.reply ≡ o → (n : ℕ) → ((m : ℕ) → number e.reply ≡ Some m → m ≡ count number j + 1) →
          (n ≤ count number j → PartsAt (Numbers number n) j) → n ≤ count number j + cond (is_some (number e.reply)) 1 0 →
          PartsAt (Numbers number n) (j ++ e ∷ [])
      one_more j e None is n next before most =
          let none : n ≤ count number j + 0 = subst (λ (o : Option ℕ). n ≤ count number j + cond (is_some o) 1 0) is most in
          parts-append (Numbers number n) j (e ∷ []) (before (omega arith))
      one_more j e (Some m) is n next before most =
          let one : n ≤ count number j + 1 = subst (λ (o : Option ℕ). n ≤ count number j + cond (is_some o) 1 0) is most in
          let m_is : m ≡ count number j + 1 = next m is in
          elim (le_cases n (count number j) one) [
            | inl within ↦ parts-append (Numbers number n) j (e ∷ []) (before within)
            | inr last ↦ parts_push (Numbers number n) j e (is ∙ ap Some (m_is ∙ sym last))
          ]
