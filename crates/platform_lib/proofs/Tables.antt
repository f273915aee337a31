-- The program's tables beside the definitions'.
use Rattle.std.proofs.Common.{◌≡◌, ℕ, Bool, true, false, cond, List, [], ◌∷◌, map, Option, Some, None, option_map, refl, sym, ap, ◌∙◌}
use Rattle.std.specs.Option.{option_and_then}
use Rattle.std.specs.List.{find}
use Rattle.signatures.specs.declared.sig.Primitive.{Primitive}
use Rattle.platform_lib.specs.declared.names.Name.{Name}
use Rattle.platform_lib.specs.declared.table.Row.{Row}
use Rattle.platform_lib.specs.Types.{types, primitives, is_named, prim_named, nth, parent}
use Rattle.platform_lib.specs.Methods.{methods, method_sig, method}
use Rattle.platform_lib.specs.Rows.{letters, shown}
use Rattle.platform_lib.proofs.Rows.{nth-map}

pub parent-by : (rows : List (Name × Option ℕ)) (row : ℕ) → map (λ r. (letters r.0, r.1)) rows ≡ types →
    option_and_then (λ (t : Name × Option ℕ). t.1) (nth rows row) ≡ parent row
parent-by rows row same =
    through (nth rows row)
    ∙ (ap (λ (o : Option (List ℕ × Option ℕ)). option_and_then (λ (t : List ℕ × Option ℕ). t.1) o)
    (sym (nth-map (λ (r : Name × Option ℕ). (letters r.0, r.1)) rows row))
    ∙ ap (λ (all : List (List ℕ × Option ℕ)). option_and_then (λ (t : List ℕ × Option ℕ). t.1) (nth all row)) same)
  where
    through : (o : Option (Name × Option ℕ)) →
        option_and_then (λ (t : Name × Option ℕ). t.1) o
        ≡ option_and_then (λ (t : List ℕ × Option ℕ). t.1) (option_map (λ (r : Name × Option ℕ). (letters r.0, r.1)) o)
    through None = refl
    through (Some r) = refl

find-by : (full : List ℕ) (rows : List (Name × Primitive)) →
    option_map (λ (r : Name × Primitive). r.1) (find (λ (r : Name × Primitive). is_named full (letters r.0)) rows)
    ≡ option_map (λ (r : List ℕ × Primitive). r.1)
    (find (λ (r : List ℕ × Primitive). is_named full r.0) (map (λ (r : Name × Primitive). (letters r.0, r.1)) rows))
find-by full [] = refl
find-by full (row ∷ rows) = by (is_named full (letters row.0)) (find-by full rows)
  where
    by : (b : Bool) →
        option_map (λ (r : Name × Primitive). r.1) (find (λ (r : Name × Primitive). is_named full (letters r.0)) rows)
        ≡ option_map (λ (r : List ℕ × Primitive). r.1)
        (find (λ (r : List ℕ × Primitive). is_named full r.0) (map (λ (r : Name × Primitive). (letters r.0, r.1)) rows)) →
        option_map (λ (r : Name × Primitive). r.1)
        (cond b (Some row) (find (λ (r : Name × Primitive). is_named full (letters r.0)) rows))
        ≡ option_map (λ (r : List ℕ × Primitive). r.1) (cond b (Some (letters row.0, row.1))
        (find (λ (r : List ℕ × Primitive). is_named full r.0) (map (λ (r : Name × Primitive). (letters r.0, r.1)) rows)))
    by true rest = refl
    by false rest = rest

pub prim-by : (full : List ℕ) (rows : List (Name × Primitive)) →
    map (λ (r : Name × Primitive). (letters r.0, r.1)) rows ≡ primitives →
    option_map (λ (r : Name × Primitive). r.1) (find (λ (r : Name × Primitive). is_named full (letters r.0)) rows)
    ≡ prim_named full
prim-by full rows same =
    find-by full rows
    ∙ ap (λ (all : List (List ℕ × Primitive)). option_map (λ (r : List ℕ × Primitive). r.1)
    (find (λ (r : List ℕ × Primitive). is_named full r.0) all)) same

pub method-by : (rows : List Row) (number : ℕ) → map shown rows ≡ methods →
    option_map (λ m. (m.type_row, m.name, method_sig m)) (option_map shown (nth rows number)) ≡ method number
method-by rows number same =
    ap (λ o. option_map (λ m. (m.type_row, m.name, method_sig m)) o) (sym (nth-map shown rows number))
    ∙ ap (λ all. option_map (λ m. (m.type_row, m.name, method_sig m)) (nth all number)) same
