-- What is bound after one more binding.
use Rattle.std.proofs.Common.{◌≡◌, ℕ, Bool, true, false, cond, ◌&&◌, not, eqb, List, [], ◌∷◌, ◌++◌, Option, Some, None, refl, sym, ap, ap₂, ◌∙◌, subst, true≢false, arith}
use Rattle.std.specs.Prelude.{is_some}
use Rattle.std.specs.List.{find}
use Rattle.std.specs.Option.{option_map}
use Rattle.std.specs.Str.{bytes_eq}
use Rattle.std.proofs.lemmas.Slice.Eq.{bytes_eq-Decides}
use Rattle.std.proofs.lemmas.Bool.Decides.{nat_tests}
use Rattle.cli_words.specs.Text.{ascii_lowercase}
use Rattle.bind_cache.specs.declared.bindings.Binding.{Binding}
use Rattle.bind_cache.specs.Bindings.{AreSingle, ChangesOneName, binds, bound, is_same, with_one}

-- what is found among elements with one more behind them
find-added : {X Y : Type 0} (p : X → Bool) (f : X → Y) (xs : List X) (x : X) → option_map f (find p (xs ++ x ∷ []))
    ≡ cond (is_some (option_map f (find p xs))) (option_map f (find p xs)) (cond (p x) (Some (f x)) None)
find-added {X} {Y} p f [] x = at (p x)
  where
    at : (t : Bool) → option_map f (cond t (Some x) None) ≡ cond t (Some (f x)) None
    at true = refl
    at false = refl
find-added {X} {Y} p f (y ∷ ys) x = at (p y) (find-added p f ys x)
  where
    at : (t : Bool) → option_map f (find p (ys ++ x ∷ []))
        ≡ cond (is_some (option_map f (find p ys))) (option_map f (find p ys)) (cond (p x) (Some (f x)) None) →
        option_map f (cond t (Some y) (find p (ys ++ x ∷ [])))
        ≡ cond (is_some (option_map f (cond t (Some y) (find p ys)))) (option_map f (cond t (Some y) (find p ys))) (cond (p x) (Some (f x)) None)
    at true rest = refl
    at false rest = rest

both_true : (a b : Bool) → (a && b) ≡ true → (a ≡ true) × (b ≡ true)
both_true true b is = (refl, is)
both_true false b is = absurd (true≢false (sym is))

-- the same context and the same name have the same equations
same_parts : (context : ℕ) (name : List ℕ) (other : ℕ) (text : List ℕ) → is_same context name other text ≡ true →
    (context ≡ other) × (ascii_lowercase name ≡ ascii_lowercase text)
same_parts context name other text same =
    let parts = both_true (eqb context other) (bytes_eq (ascii_lowercase name) (ascii_lowercase text)) same in
    let one : eqb context other ≡ true = parts.0 in
    let here : context ≡ other = grind (arith, nat_tests) in
    (here, (bytes_eq-Decides (ascii_lowercase name) (ascii_lowercase text)).0 parts.1)

same_from : (context : ℕ) (name : List ℕ) (other : ℕ) (text : List ℕ) → context ≡ other → ascii_lowercase name ≡ ascii_lowercase text →
    is_same context name other text ≡ true
same_from context name other text here alike =
    let one : eqb context other ≡ true = grind (arith, nat_tests) in
    let two : bytes_eq (ascii_lowercase name) (ascii_lowercase text) ≡ true = (bytes_eq-Decides (ascii_lowercase name) (ascii_lowercase text)).1 alike in
    ap₂ (λ a b. a && b) one two

differs_back : (context : ℕ) (name : List ℕ) (other : ℕ) (text : List ℕ) → is_same context name other text ≡ false → is_same other text context name ≡ false
differs_back context name other text differs = at (is_same other text context name) refl
  where
    at : (t : Bool) → is_same other text context name ≡ t → is_same other text context name ≡ false
    at false is = is
    at true is =
        let parts = same_parts other text context name is in
        absurd (true≢false (sym (same_from context name other text (sym parts.0) (sym parts.1)) ∙ differs))

-- what is bound to the same context and name is the same
bound_same : (bindings : List Binding) (context : ℕ) (name : List ℕ) (other : ℕ) (text : List ℕ) → is_same context name other text ≡ true →
    bound bindings context name ≡ bound bindings other text
bound_same bindings context name other text same =
    let parts = same_parts context name other text same in
    ap₂ (λ (n : ℕ) (l : List ℕ). option_map (λ binding. binding.assembly) (find (λ binding. eqb binding.context n && bytes_eq (ascii_lowercase binding.name) l) bindings)) parts.0 parts.1

-- nothing is bound to what another binding has
none_ahead : (binding : Binding) (bindings : List Binding) (context : ℕ) (name : List ℕ) → bound (binding ∷ bindings) context name ≡ None →
    (binds context name binding ≡ false) × (bound bindings context name ≡ None)
none_ahead binding bindings context name none = at (binds context name binding) refl none
  where
    at : (t : Bool) → binds context name binding ≡ t →
        option_map (λ binding. binding.assembly) (cond t (Some binding) (find (binds context name) bindings)) ≡ None →
        (binds context name binding ≡ false) × (bound bindings context name ≡ None)
    at true is none = absurd (true≢false (ap is_some none))
    at false is none = (is, none)

pub AreSingle-added : (bindings : List Binding) (new : Binding) → AreSingle bindings → bound bindings new.context new.name ≡ None → AreSingle (bindings ++ new ∷ [])
AreSingle-added [] new single none = (refl, tt)
AreSingle-added (binding ∷ bindings) new single none =
    let ahead = none_ahead binding bindings new.context new.name none in
    let back : binds binding.context binding.name new ≡ false = differs_back binding.context binding.name new.context new.name ahead.0 in
    let grown = find-added (binds binding.context binding.name) (λ (b : Binding). b.assembly) bindings new in
    let first : bound (bindings ++ new ∷ []) binding.context binding.name ≡ None =
    grown ∙ ap₂ (λ r t. cond (is_some r) r (cond t (Some new.assembly) None)) single.0 back in
    (first, AreSingle-added bindings new single.1 ahead.1)

-- the new one stands where nothing stood
chosen : (before : Option ℕ) (same : Bool) (assembly : ℕ) →
    cond (is_some before) before (cond same (Some assembly) None) ≡ cond (same && not (is_some before)) (Some assembly) before
chosen None true assembly = refl
chosen None false assembly = refl
chosen (Some x) true assembly = refl
chosen (Some x) false assembly = refl

-- what stood stays
kept : (before : Option ℕ) (x assembly : ℕ) → before ≡ Some x → before ≡ cond (not (is_some before)) (Some assembly) before
kept before x assembly is = subst (λ r. r ≡ cond (not (is_some r)) (Some assembly) r) (sym is) refl

pub changes_one_name : ChangesOneName
changes_one_name bindings context name assembly other text = at (bound bindings.list context name) refl
  where
    by_same : (x : ℕ) → bound bindings.list context name ≡ Some x → (t : Bool) → is_same context name other text ≡ t →
        bound bindings.list other text ≡ cond (t && not (is_some (bound bindings.list other text))) (Some assembly) (bound bindings.list other text)
    by_same x is false differs = refl
    by_same x is true same = kept (bound bindings.list other text) x assembly (sym (bound_same bindings.list context name other text same) ∙ is)

    at : (before : Option ℕ) → bound bindings.list context name ≡ before →
        bound (cond (is_some before) bindings (with_one bindings context name assembly)).list other text
        ≡ cond (is_same context name other text && not (is_some (bound bindings.list other text))) (Some assembly) (bound bindings.list other text)
    at (Some x) is = by_same x is (is_same context name other text) refl
    at None is =
        find-added (binds other text) (λ (b : Binding). b.assembly) bindings.list (record { context = context; name = name; assembly = assembly })
        ∙ chosen (bound bindings.list other text) (is_same context name other text) assembly

-- the binding of these parts
abbrev pub one_more : ℕ → List ℕ → ℕ → Binding
one_more context name assembly = record { context = context; name = name; assembly = assembly }
