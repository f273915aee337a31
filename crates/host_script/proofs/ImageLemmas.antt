-- Images by name.
use Rattle.std.proofs.Common.{◌≡◌, ℕ, ◌+◌, ◌≤◌, Bool, true, false, not, cond, List, [], ◌∷◌, ◌++◌, length, map, Option, Some, None, Vec, Global, refl, sym, ap, ◌∙◌, arith}
use Rattle.std.proofs.lemmas.List.{length-map}
use Rattle.std.specs.Prelude.{nat_lt}
use Rattle.std.specs.Option.{option_map}
use Rattle.std.proofs.lemmas.Bool.{ltb-false}
use Rattle.indexmap.specs.IndexMap.{insert_entry}
use Rattle.std.specs.List.{prefix_len, position, position_or_len}
use Rattle.std.specs.Str.{bytes_eq}
use Rattle.host_script.specs.Images.{names, number}
use Rattle.host_script.specs.declared.images.ImageLine.{ImageLine}

prefix_len-map : {X Y : Type 0} (p : Y → Bool) (f : X → Y) (xs : List X) → prefix_len p (map f xs) ≡ prefix_len (λ x. p (f x)) xs
prefix_len-map p f [] = refl
prefix_len-map p f (x ∷ xs) = ap (λ n. cond (p (f x)) (1 + n) 0) (prefix_len-map p f xs)

pub position-map : {X Y : Type 0} (p : Y → Bool) (f : X → Y) (xs : List X) → position p (map f xs) ≡ position (λ x. p (f x)) xs
position-map p f xs = rw (prefix_len-map (λ y. not (p y)) f xs, length-map xs f) refl

-- what contracts see of the entries of the map
abbrev pub seen : List (Vec ℕ Global × ImageLine) → List (List ℕ × ImageLine)
seen entries = map (λ e. (e.0.items, e.1)) entries

pub same_place : (name : List ℕ) (entries : List (Vec ℕ Global × ImageLine)) →
    position (λ k. bytes_eq name k.items) (map (λ e. e.0) entries) ≡ position (bytes_eq name) (names (seen entries))
same_place name entries =
    position-map (λ k. bytes_eq name k.items) (λ e. e.0) entries
    ∙ sym (position-map (bytes_eq name) (λ e. e.0) (seen entries)
    ∙ position-map (λ e. bytes_eq name e.0) (λ e. (e.0.items, e.1)) entries)

pub no_number : (place : Option ℕ) → option_map (λ i. i + 1) place ≡ None → place ≡ None
no_number None e = refl
no_number (Some i) e = cc

past_all : (t : Bool) (n : ℕ) → cond t (Some n) None ≡ None → t ≡ false
past_all true n e = cc
past_all false n e = refl

module _ (key : Vec ℕ Global) (line : ImageLine) where
  abbrev Entries : Type 0
  Entries = List (Vec ℕ Global × ImageLine)

  abbrev matches : Vec ℕ Global → Bool
  matches k = bytes_eq key.items k.items

  abbrev put_last : Entries → Type 0
  put_last entries =
      insert_entry (λ a b. bytes_eq a.items b.items) entries key line ≡ entries ++ (key, line) ∷ []

  next_last : (e : Vec ℕ Global × ImageLine) (es : Entries) (t : Bool) → matches e.0 ≡ t →
      length (e ∷ es) ≤ position_or_len (λ x. matches x.0) (e ∷ es) →
      (length es ≤ position_or_len (λ x. matches x.0) es → put_last es) → put_last (e ∷ es)
  next_last e es true is past rest = let none : length (e ∷ es) ≤ 0 = rw is at past in absurd (omega arith)
  next_last e es false is past rest =
      let more : length (e ∷ es) ≤ 1 + position_or_len (λ x. matches x.0) es = rw is at past in
      let last = rest (omega arith) in
      rw (is, last) refl

  goes_last : (es : Entries) → length es ≤ position_or_len (λ x. matches x.0) es → put_last es
  goes_last [] past = refl
  goes_last (e ∷ es) past = next_last e es (matches e.0) refl past (λ more. goes_last es more)

  seen-push : (es : Entries) → seen (es ++ (key, line) ∷ []) ≡ seen es ++ (key.items, line) ∷ []
  seen-push [] = refl
  seen-push (e ∷ es) = ap (λ rest. (e.0.items, e.1) ∷ rest) (seen-push es)

  pub declared : (name : List ℕ) (es now : Entries) (images : List (List ℕ × ImageLine)) → key.items ≡ name →
      seen es ≡ images → number (names images) name ≡ None →
      now ≡ insert_entry (λ a b. bytes_eq a.items b.items) es key line →
      seen now ≡ images ++ (name, line) ∷ []
  declared name es now images is seen_is none put =
      let place = no_number (position (bytes_eq name) (names images)) none in
      let there : position (λ x. matches x.0) es ≡ None =
      sym (position-map matches (λ e. e.0) es) ∙ same_place key.items es
      ∙ ap (λ n. position (bytes_eq n) (names (seen es))) is ∙ ap (λ m. position (bytes_eq name) (names m)) seen_is ∙ place in
      let past = past_all (nat_lt (position_or_len (λ x. matches x.0) es) (length es)) _ there in
      let last = goes_last es (ltb-false _ _ past) in
      let more : seen (es ++ (key, line) ∷ []) ≡ seen es ++ (key.items, line) ∷ [] = seen-push es in
      ap seen (put ∙ last) ∙ more ∙ ap (λ m. m ++ (key.items, line) ∷ []) seen_is
      ∙ ap (λ n. images ++ (n, line) ∷ []) is
