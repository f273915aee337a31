-- What is given by rules that are gone through.
use Rattle.std.proofs.Common.{◌≡◌, ℕ, ◌+◌, ◌<◌, Bool, true, false, cond, zero, suc, List, [], ◌∷◌, length, map, take, Option, Some, None, refl, sym, ap, ◌∙◌, true≢false, arith}
use Rattle.std.specs.Prelude.{is_some}
use Rattle.std.specs.List.{find, last_or, slice_get}
use Rattle.std.specs.Option.{option_map_or}
use Rattle.std.proofs.lemmas.List.{take_all}
use Rattle.probing.specs.Rules.{counted}
use Rattle.host_events.specs.declared.reply.Reply.{Reply}
use Rattle.host_events.specs.declared.reply.Reply.TheVariants as replies
use Rattle.host_events.specs.Rules.{first_candidate, is_candidate, or_nothing}

last_at : {X : Type 0} (y : X) (ys : List X) → slice_get (y ∷ ys) (length ys) ≡ last_or (Some y) ys
last_at y [] = refl
last_at y (z ∷ zs) = last_at z zs

-- the last of a list, by the list's length
pub last_counted : {X : Type 0} (xs : List X) (n : ℕ) → n ≡ length xs → counted xs n ≡ last_or None xs
last_counted [] n is = ap (counted []) is
last_counted (y ∷ ys) n is = ap (counted (y ∷ ys)) is ∙ last_at y ys

split : (b : Bool) (x : Reply) (o : Option Reply) → cond b (Some x) o ≡ None → (b ≡ false) × (o ≡ None)
split true x o none = absurd (true≢false (ap is_some none))
split false x o none = (refl, none)

abbrev pub nth : {X : Type 0} → (X → Reply) → List X → ℕ → Reply
nth f xs n = option_map_or f (counted xs n) replies.Nothing

-- the first that gives a candidate
found_at : {X : Type 0} (f : X → Reply) (xs : List X) (i : ℕ) (given : Reply) → i < length xs → find is_candidate (map f (take i xs)) ≡ None →
    given ≡ nth f xs (suc i) → is_candidate given ≡ true → find is_candidate (map f xs) ≡ Some given
found_at f [] i given lt none is passes = absurd (omega arith)
found_at f (y ∷ ys) zero given lt none is passes =
    let here : is_candidate (f y) ≡ true = ap is_candidate (sym is) ∙ passes in
    ap (λ b. cond b (Some (f y)) (find is_candidate (map f ys))) here ∙ ap Some (sym is)
found_at f (y ∷ ys) (suc i) given lt none is passes =
    let parts = split (is_candidate (f y)) (f y) (find is_candidate (map f (take i ys))) none in
    ap (λ b. cond b (Some (f y)) (find is_candidate (map f ys))) parts.0 ∙ found_at f ys i given (omega arith) parts.1 is passes

none_at : {X : Type 0} (f : X → Reply) (xs : List X) (i : ℕ) (given : Reply) → i < length xs → find is_candidate (map f (take i xs)) ≡ None →
    given ≡ nth f xs (suc i) → is_candidate given ≡ false → find is_candidate (map f (take (suc i) xs)) ≡ None
none_at f [] i given lt none is fails = absurd (omega arith)
none_at f (y ∷ ys) zero given lt none is fails =
    let here : is_candidate (f y) ≡ false = ap is_candidate (sym is) ∙ fails in
    ap (λ b. cond b (Some (f y)) None) here
none_at f (y ∷ ys) (suc i) given lt none is fails =
    let parts = split (is_candidate (f y)) (f y) (find is_candidate (map f (take i ys))) none in
    ap (λ b. cond b (Some (f y)) (find is_candidate (map f (take (suc i) ys)))) parts.0 ∙ none_at f ys i given (omega arith) parts.1 is fails

-- the same by numbers from 1
pub given_here : {X : Type 0} (f : X → Reply) (xs : List X) (i n : ℕ) (given : Reply) → i < length xs → n ≡ i + 1 → find is_candidate (map f (take i xs)) ≡ None →
    given ≡ nth f xs n → is_candidate given ≡ true → given ≡ first_candidate (map f xs)
given_here f xs i n given lt number none is passes =
    let next : n ≡ suc i = omega (arith, number) in
    ap or_nothing (sym (found_at f xs i given lt none (is ∙ ap (nth f xs) next) passes))

pub given_later : {X : Type 0} (f : X → Reply) (xs : List X) (i n next : ℕ) (given : Reply) → i < length xs → n ≡ i + 1 → next ≡ i + 1 →
    find is_candidate (map f (take i xs)) ≡ None → given ≡ nth f xs n → is_candidate given ≡ false → find is_candidate (map f (take next xs)) ≡ None
given_later f xs i n next given lt number goes none is fails =
    let one : n ≡ suc i = omega (arith, number) in
    let other : suc i ≡ next = omega (arith, goes) in
    ap (λ k. find is_candidate (map f (take k xs))) (sym other) ∙ none_at f xs i given lt none (is ∙ ap (nth f xs) one) fails

pub given_nowhere : {X : Type 0} (f : X → Reply) (xs : List X) (i : ℕ) → i ≡ length xs → find is_candidate (map f (take i xs)) ≡ None →
    replies.Nothing ≡ first_candidate (map f xs)
given_nowhere f xs i all none = ap or_nothing (sym none ∙ ap (λ l. find is_candidate (map f l)) (take_all i xs (omega (arith, all))))
