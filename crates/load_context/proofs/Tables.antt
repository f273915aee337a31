-- Tables of contexts after a context is added, unloaded or taken out.
use Rattle.std.proofs.Common.{◌≡◌, ◌≢◌, ℕ, ◌+◌, ◌<◌, ◌≤◌, Bool, true, false, cond, not, zero, suc, List, [], ◌∷◌, ◌++◌, length, get_or, Option, Some, None, refl, sym, ap, ◌∙◌, subst, arith, lt-ltb, true≢false}
use Rattle.std.specs.Prelude.{IsSome}
use Rattle.std.specs.List.{AllByRecursion, find, position, position_or_len, remove}
use Rattle.std.specs.Option.{option_map}
use Rattle.std.proofs.lemmas.Bool.Decides.{nat_tests}
use Rattle.std.proofs.lemmas.List.Folds.{find_at}
use Rattle.std.proofs.lemmas.Option.{slice_get_within}
use Rattle.load_context.specs.declared.contexts.Context.{Context}
use Rattle.load_context.specs.Contexts.{Contexts, IsTable, RisesFrom, default_context, has_number, taken, unloaded, unloaded_if}

-- a table of these contexts, with this spare
abbrev pub filled : ℕ → List Context → Contexts
filled spare contexts = record { list = contexts; spare = spare }

-- the numbers are above a lower number too
RisesFrom-lower : (low least : ℕ) (contexts : List Context) → least ≤ low → RisesFrom low contexts → RisesFrom least contexts
RisesFrom-lower low least [] le rises = tt
RisesFrom-lower low least (context ∷ contexts) le rises = (omega (arith, le, rises.0), rises.1)

RisesFrom-added : (low : ℕ) (contexts : List Context) (new : Context) → RisesFrom low contexts → low ≤ new.number →
    AllByRecursion (λ other. other.number < new.number) contexts → RisesFrom low (contexts ++ new ∷ [])
RisesFrom-added low [] new rises le all = (le, tt)
RisesFrom-added low (context ∷ contexts) new rises le all =
    (rises.0, RisesFrom-added (context.number + 1) contexts new rises.1 (omega (arith, all.0)) all.1)

pub IsTable-added : (contexts : List Context) (new : Context) → IsTable contexts →
    AllByRecursion (λ other. other.number < new.number) contexts → IsTable (contexts ++ new ∷ [])
IsTable-added [] new table all = absurd table
IsTable-added (first ∷ others) new table all =
    (table.0, RisesFrom-added 1 others new table.1 (omega (arith, all.0)) all.1)

number-unloaded_if : (number : ℕ) (context : Context) → (unloaded_if number context).number ≡ context.number
number-unloaded_if number context = at (has_number number context)
  where
    at : (b : Bool) → (cond b (record context { row = record context.row { unloaded = true } }) context).number ≡ context.number
    at true = refl
    at false = refl

RisesFrom-unloaded : (low number : ℕ) (contexts : List Context) → RisesFrom low contexts → RisesFrom low (unloaded number contexts)
RisesFrom-unloaded low number [] rises = tt
RisesFrom-unloaded low number (context ∷ contexts) rises =
    let same = number-unloaded_if number context in
    (omega (arith, same, rises.0), subst (λ n. RisesFrom (n + 1) (unloaded number contexts)) (sym same) (RisesFrom-unloaded (context.number + 1) number contexts rises.1))

-- context 0 does not have another number
default_is_other : (number : ℕ) (first : Context) → number ≢ 0 → first ≡ default_context → has_number number first ≡ false
default_is_other number first other is =
    let zero_is : first.number ≡ 0 = ap (λ (context : Context). context.number) is in
    let apart : first.number ≢ number = λ e. other (sym e ∙ zero_is) in
    grind (arith, nat_tests)

pub IsTable-unloaded : (number : ℕ) (contexts : List Context) → number ≢ 0 → IsTable contexts → IsTable (unloaded number contexts)
IsTable-unloaded number [] other table = table
IsTable-unloaded number (first ∷ others) other table =
    let stays : unloaded_if number first ≡ first =
    ap (λ b. cond b (record first { row = record first.row { unloaded = true } }) first) (default_is_other number first other table.0) in
    (stays ∙ table.0, RisesFrom-unloaded 1 number others table.1)

-- where all numbers are above, nothing is taken out
none_taken : (number low : ℕ) (contexts : List Context) → number < low → RisesFrom low contexts → taken number contexts ≡ contexts
none_taken number low [] lt rises = refl
none_taken number low (context ∷ contexts) lt rises =
    let apart : number < context.number = omega (arith, lt, rises.0) in
    let differs : has_number number context ≡ false = grind (arith, nat_tests) in
    let rest : taken number contexts ≡ contexts = none_taken number (context.number + 1) contexts (omega (arith, apart)) rises.1 in
    ap (λ b. cond (not b) (context ∷ taken number contexts) (taken number contexts)) differs ∙ ap (λ l. context ∷ l) rest

RisesFrom-taken : (number low : ℕ) (contexts : List Context) → RisesFrom low contexts → RisesFrom low (taken number contexts)
RisesFrom-taken number low [] rises = tt
RisesFrom-taken number low (context ∷ contexts) rises =
    at (has_number number context) (RisesFrom-taken number (context.number + 1) contexts rises.1)
  where
    at : (b : Bool) → RisesFrom (context.number + 1) (taken number contexts) → RisesFrom low (cond (not b) (context ∷ taken number contexts) (taken number contexts))
    at true rest = RisesFrom-lower (context.number + 1) low (taken number contexts) (omega (arith, rises.0)) rest
    at false rest = (rises.0, rest)

pub IsTable-taken : (number : ℕ) (contexts : List Context) → number ≢ 0 → IsTable contexts → IsTable (taken number contexts)
IsTable-taken number [] other table = table
IsTable-taken number (first ∷ others) other table =
    let stays : taken number (first ∷ others) ≡ first ∷ taken number others =
    ap (λ b. cond (not b) (first ∷ taken number others) (taken number others)) (default_is_other number first other table.0) in
    subst IsTable (sym stays) (table.0, RisesFrom-taken number 1 others table.1)

-- what is removed is the one context of the number
RisesFrom-removed : (number low : ℕ) (contexts : List Context) (i : ℕ) (d : Context) → RisesFrom low contexts →
    has_number number (get_or contexts i d) ≡ true → i < length contexts →
    ((k : ℕ) → k < i → has_number number (get_or contexts k d) ≡ false) → remove contexts i ≡ taken number contexts
RisesFrom-removed number low [] i d rises has lt before = absurd (omega (arith, lt))
RisesFrom-removed number low (context ∷ contexts) zero d rises has lt before =
    let is : context.number ≡ number = grind (arith, nat_tests) in
    let rest : taken number contexts ≡ contexts = none_taken number (context.number + 1) contexts (omega (arith, is)) rises.1 in
    sym (ap (λ b. cond (not b) (context ∷ taken number contexts) (taken number contexts)) has ∙ rest)
RisesFrom-removed number low (context ∷ contexts) (suc i) d rises has lt before =
    let differs : has_number number context ≡ false = before 0 (omega arith) in
    let rest = RisesFrom-removed number (context.number + 1) contexts i d rises.1 has (omega (arith, lt)) (λ k h. before (suc k) (omega (arith, h))) in
    ap (λ l. context ∷ l) rest ∙ sym (ap (λ b. cond (not b) (context ∷ taken number contexts) (taken number contexts)) differs)

pub IsTable-removed : (number : ℕ) (contexts : List Context) (i : ℕ) (d : Context) → IsTable contexts →
    has_number number (get_or contexts i d) ≡ true → i < length contexts →
    ((k : ℕ) → k < i → has_number number (get_or contexts k d) ≡ false) → remove contexts i ≡ taken number contexts
IsTable-removed number [] i d table has lt before = absurd table
IsTable-removed number (first ∷ others) i d table has lt before =
    let at_zero : 0 ≤ first.number = omega arith in
    let rises : RisesFrom (first.number + 1) others = subst (λ n. RisesFrom (n + 1) others) (sym (ap (λ (context : Context). context.number) table.0)) table.1 in
    RisesFrom-removed number 0 (first ∷ others) i d (at_zero, rises) has lt before

-- a context that is found has a place
pub position_there : {X Y : Type 0} (p : X → Bool) (f : X → Y) (xs : List X) → IsSome (option_map f (find p xs)) → IsSome (position p xs)
position_there {X} p f xs some = at (find p xs) refl some
  where
    at : (o : Option X) → find p xs ≡ o → IsSome (option_map f o) → IsSome (position p xs)
    at None e none = absurd (true≢false (sym none))
    at (Some x) e found =
        let lt : position_or_len p xs < length xs = slice_get_within xs (position_or_len p xs) x (sym (find_at p xs) ∙ e) in
        let here : position p xs ≡ Some (position_or_len p xs) = ap (λ b. cond b (Some (position_or_len p xs)) None) (lt-ltb _ _ lt) in
        subst IsSome (sym here) refl

-- a context with another number than 0 that is there stands behind the first
pub length-there : (number : ℕ) (contexts : List Context) (i : ℕ) (d : Context) → number ≢ 0 → IsTable contexts →
    has_number number (get_or contexts i d) ≡ true → i < length contexts → 1 < length contexts
length-there number [] i d other table has lt = absurd table
length-there number (first ∷ others) zero d other table has lt =
    absurd (grind (arith, default_is_other number first other table.0))
length-there number (first ∷ others) (suc i) d other table has lt = omega (arith, lt)
