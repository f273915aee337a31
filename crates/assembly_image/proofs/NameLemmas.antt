-- Names that are compared from their end.
use Rattle.std.proofs.Common.{◌≡◌, ◌≢◌, ℕ, zero, suc, ◌+◌, ◌-◌, ◌<◌, ◌==◌, Bool, true, false, List, [], ◌∷◌, ◌++◌, length, Option, None, Some, inl, inr, refl, sym, ap, ◌∙◌, arith, append_assoc}
use Rattle.std.proofs.lemmas.Bool.{cases_Bool}
use Rattle.std.proofs.lemmas.Bool.Decides.{nat_tests}
use Rattle.std.proofs.lemmas.List.{append_cancel_right}
use Rattle.std.proofs.lemmas.Slice.Eq.{bytes_eq-Decides}
use Rattle.std.specs.Option.{option_map_or}
use Rattle.std.specs.Str.{bytes_eq}
use Rattle.assembly_image.specs.Module.{Module}
use Rattle.assembly_image.specs.Names.{type_name, type_namespace, encloser, qualified, nested_name, full_name_within}

same_tests : (a b : Bool) → (a ≡ true → b ≡ true) → (b ≡ true → a ≡ true) → a ≡ b
same_tests true b f g = sym (f refl)
same_tests false true f g = g refl
same_tests false false f g = refl

fails : (b : Bool) → ¬ (b ≡ true) → b ≡ false
fails true h = absurd (h refl)
fails false h = refl

pub empty_test : (units : List ℕ) → bytes_eq [] units ≡ (length units == 0)
empty_test [] = refl
empty_test (u ∷ us) = grind (arith, nat_tests)

-- units that end with a text, and units that do not, compared with what ends with it under another name
module _ (front units text name : List ℕ) (is : text ≡ name) where
  pub same_end : (before : List ℕ) → units ≡ before ++ text → bytes_eq (front ++ name) units ≡ bytes_eq front before
  same_end before ends =
      let whole = bytes_eq-Decides (front ++ name) (before ++ name) in
      let part = bytes_eq-Decides front before in
      ap (bytes_eq (front ++ name)) (ends ∙ ap (λ us. before ++ us) is)
      ∙ same_tests _ _
      (λ e. part.1 (append_cancel_right front before name (whole.0 e)))
      (λ e. whole.1 (ap (λ us. us ++ name) (part.0 e)))

  pub other_end : ((before : List ℕ) → units ≢ before ++ text) → bytes_eq (front ++ name) units ≡ false
  other_end other =
      fails _ (λ e. other front (sym ((bytes_eq-Decides (front ++ name) units).0 e) ∙ ap (λ us. front ++ us) (sym is)))

-- a name that a namespace and a dot may stand before
module _ (namespace name units text : List ℕ) (is : text ≡ name) where
  abbrev test : Bool
  test = bytes_eq (qualified namespace name) units

  alone : length namespace ≡ 0 → test ≡ bytes_eq ([] ++ name) units
  alone none = rw none refl

  dotted : ¬ (length namespace ≡ 0) → test ≡ bytes_eq ((namespace ++ 46 ∷ []) ++ name) units
  dotted some =
      let more : (length namespace == 0) ≡ false = grind (arith, nat_tests) in
      rw more (ap (λ us. bytes_eq us units) (sym (append_assoc namespace (46 ∷ []) name)))

  pub qualified_other : ((front : List ℕ) → units ≢ front ++ text) → test ≡ false
  qualified_other other =
      elim (cases_Bool (length namespace == 0)) [
        | inl e ↦
            let none : length namespace ≡ 0 = grind (arith, nat_tests) in
            alone none ∙ other_end [] units text name is other
        | inr e ↦
            let some : ¬ (length namespace ≡ 0) = grind (arith, nat_tests) in
            dotted some ∙ other_end (namespace ++ 46 ∷ []) units text name is other
      ]

  -- where the units end with the name
  module _ (before : List ℕ) (ends : units ≡ before ++ text) where
    pub qualified_alone : length namespace ≡ 0 → test ≡ bytes_eq [] before
    qualified_alone none = alone none ∙ same_end [] units text name is before ends

    after_dot : ¬ (length namespace ≡ 0) → test ≡ bytes_eq (namespace ++ 46 ∷ []) before
    after_dot some = dotted some ∙ same_end (namespace ++ 46 ∷ []) units text name is before ends

    pub qualified_dotted : (rest : List ℕ) → ¬ (length namespace ≡ 0) → before ≡ rest ++ 46 ∷ []
        → test ≡ bytes_eq namespace rest
    qualified_dotted rest some dot = after_dot some ∙ same_end namespace before (46 ∷ []) (46 ∷ []) refl rest dot

    pub qualified_undotted : ¬ (length namespace ≡ 0) → ((front : List ℕ) → before ≢ front ++ 46 ∷ [])
        → test ≡ false
    qualified_undotted some other = after_dot some ∙ other_end namespace before (46 ∷ []) (46 ∷ []) refl other

-- the full name of a type that no other encloses, and of one that another does, after some are named
module _ (m : Module) (row : ℕ) where
  abbrev whole : List ℕ
  whole = qualified (type_namespace m row) (type_name m row)

  abbrev named_by : ℕ → Option ℕ → List ℕ
  named_by most outer = option_map_or (λ o. full_name_within m most o ++ (47 ∷ type_name m row)) outer whole

  pub outermost : (most : ℕ) → encloser m row ≡ None → full_name_within m most row ≡ whole
  outermost zero none = refl
  outermost (suc most) none = ap (named_by most) none

  module _ (n outer : ℕ) (few : n < 16) (some : encloser m row ≡ Some outer) (units text : List ℕ) (is : text ≡ type_name m row) where
    abbrev outer_name : List ℕ
    outer_name = full_name_within m (16 - (n + 1)) outer

    abbrev matches : Bool
    matches = bytes_eq (full_name_within m (16 - n) row) units

    slashed : matches ≡ bytes_eq ((outer_name ++ 47 ∷ []) ++ type_name m row) units
    slashed =
        let within : 16 - n ≡ suc (16 - (n + 1)) = omega arith in
        ap (λ us. bytes_eq us units)
        (ap (λ k. full_name_within m k row) within ∙ ap (named_by (16 - (n + 1))) some
        ∙ sym (append_assoc outer_name (47 ∷ []) (type_name m row)))

    pub enclosed_other : ((front : List ℕ) → units ≢ front ++ text) → matches ≡ false
    enclosed_other other = slashed ∙ other_end (outer_name ++ 47 ∷ []) units text (type_name m row) is other

    -- where the units end with the type's name
    module _ (before : List ℕ) (ends : units ≡ before ++ text) where
      after_slash : matches ≡ bytes_eq (outer_name ++ 47 ∷ []) before
      after_slash = slashed ∙ same_end (outer_name ++ 47 ∷ []) units text (type_name m row) is before ends

      pub enclosed_slashed : (rest : List ℕ) → before ≡ rest ++ 47 ∷ [] → matches ≡ bytes_eq outer_name rest
      enclosed_slashed rest slash = after_slash ∙ same_end outer_name before (47 ∷ []) (47 ∷ []) refl rest slash

      pub enclosed_unslashed : ((front : List ℕ) → before ≢ front ++ 47 ∷ []) → matches ≡ false
      enclosed_unslashed other = after_slash ∙ other_end outer_name before (47 ∷ []) (47 ∷ []) refl other

-- a name that is alone, one with its namespace, and the pieces of which it is put together
pub qualified_is_alone : (namespace name : List ℕ) → length namespace ≡ 0 → qualified namespace name ≡ name
qualified_is_alone namespace name none = rw none refl

pub qualified_is_dotted : (namespace name : List ℕ) → ¬ (length namespace ≡ 0) → qualified namespace name ≡ namespace ++ (46 ∷ name)
qualified_is_dotted namespace name some =
    let more : (length namespace == 0) ≡ false = grind (arith, nat_tests) in
    rw more refl

pub three_joined : (old first last : List ℕ) (unit : ℕ) → ((old ++ first) ++ unit ∷ []) ++ last ≡ old ++ (first ++ (unit ∷ last))
three_joined old first last unit =
    append_assoc (old ++ first) (unit ∷ []) last ∙ append_assoc old first (unit ∷ last)

-- the full name of what stands in nothing, and of what stands in another
module _ (outer : ℕ → Option ℕ) (namespace name : ℕ → List ℕ) (row : ℕ) where
  pub nested_first : (most : ℕ) → most ≡ 0 → nested_name outer namespace name most row ≡ qualified (namespace row) (name row)
  nested_first most e = ap (λ (k : ℕ). nested_name outer namespace name k row) e

  pub nested_alone : (most : ℕ) → outer row ≡ None → nested_name outer namespace name most row ≡ qualified (namespace row) (name row)
  nested_alone zero e = refl
  nested_alone (suc most) e =
      ap (λ (o : Option ℕ). option_map_or (λ around. nested_name outer namespace name most around ++ (47 ∷ name row)) o (qualified (namespace row) (name row))) e

  pub nested_inside : (most around : ℕ) → 0 < most → outer row ≡ Some around
      → nested_name outer namespace name most row ≡ nested_name outer namespace name (most - 1) around ++ (47 ∷ name row)
  nested_inside most around some e =
      let next : most ≡ suc (most - 1) = omega arith in
      ap (λ (k : ℕ). nested_name outer namespace name k row) next
      ∙ ap (λ (o : Option ℕ). option_map_or (λ around. nested_name outer namespace name (most - 1) around ++ (47 ∷ name row)) o (qualified (namespace row) (name row))) e
