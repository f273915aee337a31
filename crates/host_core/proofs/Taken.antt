-- Contexts that are taken out one after another.
use Rattle.std.proofs.Common.{◌≡◌, ℕ, ◌+◌, ◌<◌, ◌≤◌, zero, suc, Bool, true, false, not, ◌&&◌, ◌||◌, cond, eqb, List, [], ◌∷◌, ◌++◌, length, get_or, take, Some, refl, sym, ap, subst, ◌∙◌, true≢false, arith}
use Rattle.std.specs.Prelude.{IsSome}
use Rattle.std.specs.List.{filter, find, list_any}
use Rattle.std.specs.List.Sorted.{IsStrictlyIncreasing}
use Rattle.std.specs.Option.{option_map}
use Rattle.std.proofs.lemmas.Bool.{eqb-true}
use Rattle.std.proofs.lemmas.Bool.Decides.{nat_tests}
use Rattle.std.proofs.lemmas.List.{length-append, take_more}
use Rattle.std.proofs.lemmas.List.Elements.{Contains-get_or, filter_agree}
use Rattle.std.proofs.lemmas.List.Kept.{AllPairs-from_increasing}
use Rattle.load_context.specs.declared.contexts.Context.{Context}
use Rattle.load_context.specs.Contexts.{Contexts, has_number, row_of, taken}
use Rattle.host_events.specs.declared.reply.Reply.{Reply}
use Rattle.host_events.specs.declared.reply.Reply.TheVariants as replies
use Rattle.host_events.specs.Contexts.{freed_contexts}
use Rattle.host_events.specs.Reserved.{Reserved}
use Rattle.host_events.proofs.Parts.{filter-filter}
use Rattle.host_events.proofs.Push.{list_any-push}
use Rattle.host_core.specs.After.{AreOthers, IsOther, with_freed, without}

abbrev filled : List Context → ℕ → Contexts
filled list spare = record { list = list; spare = spare }

filled_same : (l m : List Context) (s u : ℕ) → l ≡ m → s ≡ u → filled l s ≡ filled m u
filled_same l m s u same spare = ap (λ k. filled k s) same ∙ ap (filled m) spare

without-nil : (contexts : List Context) → contexts ≡ without [] contexts
without-nil [] = refl
without-nil (x ∷ xs) = ap (λ ys. x ∷ ys) (without-nil xs)

not_both : (a b : Bool) → (not a && not b) ≡ not (a || b)
not_both true b = refl
not_both false b = refl

pub eqb-swap : (a b : ℕ) → eqb a b ≡ eqb b a
eqb-swap a b = grind (arith, nat_tests)

without-push : (numbers : List ℕ) (n : ℕ) (contexts : List Context) → taken n (without numbers contexts) ≡ without (numbers ++ n ∷ []) contexts
without-push numbers n contexts =
    filter-filter (λ c. not (has_number n c)) (λ c. not (list_any (λ d. eqb d c.number) numbers)) contexts
    ∙ filter_agree (λ c. not (list_any (λ d. eqb d c.number) numbers) && not (has_number n c)) (λ c. not (list_any (λ d. eqb d c.number) (numbers ++ n ∷ [])))
    (λ c. not_both (list_any (λ d. eqb d c.number) numbers) (eqb c.number n)
    ∙ ap (λ b. not (list_any (λ d. eqb d c.number) numbers || b)) (eqb-swap c.number n)
    ∙ ap not (sym (list_any-push (λ d. eqb d c.number) numbers n)))
    contexts

pub with_freed-nil : (t : Contexts) → t ≡ with_freed t []
with_freed-nil t = filled_same t.list (without [] t.list) t.spare (t.spare + 0) (without-nil t.list) (omega arith)

-- one more is taken out
pub with_freed-next : (t before after : Contexts) (numbers : List ℕ) (i : ℕ) → i < length numbers → before ≡ with_freed t (take i numbers) →
    after ≡ filled (taken (get_or numbers i 0) before.list) (before.spare + 1) → after ≡ with_freed t (take (i + 1) numbers)
with_freed-next t before after numbers i lt is next =
    let more : take (i + 1) numbers ≡ take i numbers ++ get_or numbers i 0 ∷ [] = take_more numbers i 0 lt in
    let list : taken (get_or numbers i 0) before.list ≡ without (take i numbers ++ get_or numbers i 0 ∷ []) t.list =
    ap (λ (x : Contexts). taken (get_or numbers i 0) x.list) is ∙ without-push (take i numbers) (get_or numbers i 0) t.list in
    let spare_is : before.spare ≡ t.spare + length (take i numbers) = ap (λ (x : Contexts). x.spare) is in
    let long : length (take i numbers ++ get_or numbers i 0 ∷ []) ≡ length (take i numbers) + 1 = length-append (take i numbers) (get_or numbers i 0 ∷ []) in
    let spare : before.spare + 1 ≡ t.spare + length (take i numbers ++ get_or numbers i 0 ∷ []) = omega (arith, spare_is, long) in
    next ∙ filled_same (taken (get_or numbers i 0) before.list) (without (take i numbers ++ get_or numbers i 0 ∷ []) t.list)
    (before.spare + 1) (t.spare + length (take i numbers ++ get_or numbers i 0 ∷ [])) list spare ∙ ap (with_freed t) (sym more)

none_before : (p : ℕ → Bool) (i : ℕ) (xs : List ℕ) → ((k : ℕ) → k < i → p (get_or xs k 0) ≡ false) → i ≤ length xs → list_any p (take i xs) ≡ false
none_before p zero [] each le = refl
none_before p zero (x ∷ xs) each le = refl
none_before p (suc i) [] each le = absurd (omega arith)
none_before p (suc i) (x ∷ xs) each le =
    ap (λ b. b || list_any p (take i xs)) (each 0 (omega arith)) ∙ none_before p i xs (λ k h. each (suc k) (omega (arith, h))) (omega (arith, le))

none_earlier : (numbers : List ℕ) (i : ℕ) → IsStrictlyIncreasing numbers → i < length numbers → list_any (λ d. eqb d (get_or numbers i 0)) (take i numbers) ≡ false
none_earlier numbers i rising lt =
    none_before (λ d. eqb d (get_or numbers i 0)) i numbers
    (λ k h. let below : get_or numbers k 0 < get_or numbers i 0 = AllPairs-from_increasing numbers rising k i 0 h lt in grind (arith, nat_tests))
    (omega (arith, lt))

find_within : {X : Type 0} (p q : X → Bool) (xs : List X) → ((x : X) → p x ≡ true → q x ≡ true) → find p (filter q xs) ≡ find p xs
find_within p q [] each = refl
find_within {X} p q (x ∷ xs) each = at (p x) (q x) refl refl (find_within p q xs each)
  where
    at : (b t : Bool) → p x ≡ b → q x ≡ t → find p (filter q xs) ≡ find p xs →
        find p (cond t (x ∷ filter q xs) (filter q xs)) ≡ cond b (Some x) (find p xs)
    at true true is stays rest = ap (λ v. cond v (Some x) (find p (filter q xs))) is
    at true false is goes rest = absurd (true≢false (sym (each x is) ∙ goes))
    at false true is stays rest = ap (λ v. cond v (Some x) (find p (filter q xs))) is ∙ rest
    at false false is goes rest = rest

row_of-without : (numbers : List ℕ) (contexts : List Context) (n : ℕ) → list_any (λ d. eqb d n) numbers ≡ false →
    row_of (without numbers contexts) n ≡ row_of contexts n
row_of-without numbers contexts n none =
    ap (option_map (λ context. context.row))
    (find_within (has_number n) (λ context. not (list_any (λ d. eqb d context.number) numbers)) contexts
    (λ context is.
    let same : context.number ≡ n = eqb-true context.number n is in
    ap not (ap (λ (m : ℕ). list_any (λ d. eqb d m) numbers) same ∙ none)))

-- the next one is still there
pub still_there : (t before : Contexts) (numbers : List ℕ) (i : ℕ) → i < length numbers → before ≡ with_freed t (take i numbers) →
    AreOthers t.list numbers → IsOther before.list (get_or numbers i 0)
still_there t before numbers i lt is others =
    let n : ℕ = get_or numbers i 0 in
    let other = others.each (get_or numbers i 0) (Contains-get_or numbers i 0 lt) in
    let row : row_of t.list (get_or numbers i 0) ≡ row_of before.list (get_or numbers i 0) =
    sym (row_of-without (take i numbers) t.list (get_or numbers i 0) (none_earlier numbers i others.rising lt))
    ∙ ap (λ (x : Contexts). row_of x.list (get_or numbers i 0)) (sym is) in
    record { there = subst (λ o. IsSome o) row other.there; other = other.other }

freed_other : (reply : Reply) → ((contexts : Reserved ℕ) → reply ≡ replies.Freed contexts → ⊥) → freed_contexts reply ≡ []
freed_other (replies.Freed contexts) other = absurd (other contexts refl)
freed_other reply other = refl

-- where nothing is freed
pub with_freed-other : (t : Contexts) (reply : Reply) → ((contexts : Reserved ℕ) → reply ≡ replies.Freed contexts → ⊥) → t ≡ with_freed t (freed_contexts reply)
with_freed-other t reply other = with_freed-nil t ∙ ap (with_freed t) (sym (freed_other reply other))
